use Rattle.std.proofs.Common.{◌≡◌, ◌-◌, ◌≤◌, false, true}
use Rattle.cl_outside.specs.Operations.{ops_bytes}
use Rattle.cl_outside.specs.Writing.{Wrote}
use Rattle.cl_redisplay.specs.Paint.{cell_at}
use Rattle.cl_redisplay.specs.Sending.{Plays}
use Rattle.cl_redisplay.specs.Touching.{on_screen, touched_ops, touched_rows_ops}
use Rattle.cl_spans.specs.SpanRows.{spans_hold}
use Rattle.cl_redisplay.proofs.touched_sending.send_touched.Given as goal

abbrev pub invariant-loop-y : goal.invariant-loop-y
invariant-loop-y g l = record {
  plays : Plays (g.D.Device.picture l.initial.device) (g.D.Device.picture l.device)
      (touched_ops (cell_at l.raster) (on_screen (spans_hold l.touched) l.area) l.area)
      (touched_rows_ops (cell_at l.raster) (on_screen (spans_hold l.touched) l.area) l.area.x l.area.width l.y (l.y-end - l.y));
  wrote : Wrote (g.D.Device.wire l.initial.device) (g.D.Device.wire l.device)
      (ops_bytes (touched_ops (cell_at l.raster) (on_screen (spans_hold l.touched) l.area) l.area))
      (ops_bytes (touched_rows_ops (cell_at l.raster) (on_screen (spans_hold l.touched) l.area) l.area.x l.area.width l.y (l.y-end - l.y)));
  whole : g.D.Device.broken l.device ≡ false;
  begun : g.D.Device.cleared l.device ≡ true;
  lent : g.D.Device.lent l.device ≡ g.D.Device.lent l.initial.device;
  faults : g.D.Device.faults l.initial.device ≤ g.D.Device.faults l.device;
}
