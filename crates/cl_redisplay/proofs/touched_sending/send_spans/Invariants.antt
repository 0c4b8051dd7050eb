use Rattle.std.proofs.Common.{◌≡◌, ◌≤◌, false, true, drop}
use Rattle.cl_outside.specs.Operations.{ops_bytes}
use Rattle.cl_outside.specs.Writing.{Wrote}
use Rattle.cl_redisplay.specs.Paint.{cell_at}
use Rattle.cl_redisplay.specs.Sending.{Plays}
use Rattle.cl_redisplay.specs.TouchedSending.{span_ops}
use Rattle.cl_redisplay.proofs.touched_sending.send_spans.Given as goal

abbrev pub invariant-loop-span : goal.invariant-loop-span
invariant-loop-span g l = record {
  plays : Plays (g.D.Device.picture l.initial.device) (g.D.Device.picture l.device)
      (span_ops (cell_at l.raster) l.area.x l.area.width l.y l.spans)
      (span_ops (cell_at l.raster) l.area.x l.area.width l.y (drop l.span-index l.spans));
  wrote : Wrote (g.D.Device.wire l.initial.device) (g.D.Device.wire l.device)
      (ops_bytes (span_ops (cell_at l.raster) l.area.x l.area.width l.y l.spans))
      (ops_bytes (span_ops (cell_at l.raster) l.area.x l.area.width l.y (drop l.span-index l.spans)));
  whole : g.D.Device.broken l.device ≡ false;
  begun : g.D.Device.cleared l.device ≡ true;
  lent : g.D.Device.lent l.device ≡ g.D.Device.lent l.initial.device;
  faults : g.D.Device.faults l.initial.device ≤ g.D.Device.faults l.device;
}
