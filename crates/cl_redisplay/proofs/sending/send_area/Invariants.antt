use Rattle.std.proofs.Common.{◌≡◌, ◌-◌, ◌≤◌, false, true}
use Rattle.cl_outside.specs.Operations.{ops_bytes}
use Rattle.cl_outside.specs.Writing.{Wrote}
use Rattle.cl_redisplay.specs.Operations.{area_ops, rows_ops}
use Rattle.cl_redisplay.specs.Paint.{cell_at}
use Rattle.cl_redisplay.specs.Sending.{Plays}
use Rattle.cl_redisplay.proofs.sending.send_area.Given as goal

abbrev pub invariant-loop-y : goal.invariant-loop-y
invariant-loop-y g l = record {
  plays : Plays (g.D.Device.picture l.initial.device) (g.D.Device.picture l.device) (area_ops (cell_at l.raster) l.area)
      (rows_ops (cell_at l.raster) l.area.x l.area.width l.y (l.y-end - l.y));
  wrote : Wrote (g.D.Device.wire l.initial.device) (g.D.Device.wire l.device) (ops_bytes (area_ops (cell_at l.raster) l.area))
      (ops_bytes (rows_ops (cell_at l.raster) l.area.x l.area.width l.y (l.y-end - l.y)));
  whole : g.D.Device.broken l.device ≡ false;
  begun : g.D.Device.cleared l.device ≡ true;
  lent : g.D.Device.lent l.device ≡ g.D.Device.lent l.initial.device;
  faults : g.D.Device.faults l.initial.device ≤ g.D.Device.faults l.device;
}
