use Rattle.std.proofs.Common.{◌≡◌, ◌-◌, ◌≤◌, false, true}
use Rattle.cl_outside.specs.Operations.{ops_bytes}
use Rattle.cl_outside.specs.Writing.{Wrote}
use Rattle.cl_redisplay.specs.Sending.{Plays, list_ops}
use Rattle.cl_redisplay.proofs.sending.send_row.Given as goal

abbrev pub invariant-loop-x : goal.invariant-loop-x
invariant-loop-x g l = record {
  plays : Plays (g.D.Device.picture l.initial.device) (g.D.Device.picture l.device) (list_ops l.glyphs l.inks l.y l.left (l.right - l.left))
      (list_ops l.glyphs l.inks l.y l.x (l.right - l.x));
  wrote : Wrote (g.D.Device.wire l.initial.device) (g.D.Device.wire l.device) (ops_bytes (list_ops l.glyphs l.inks l.y l.left (l.right - l.left)))
      (ops_bytes (list_ops l.glyphs l.inks l.y l.x (l.right - l.x)));
  whole : g.D.Device.broken l.device ≡ false;
  begun : g.D.Device.cleared l.device ≡ true;
  lent : g.D.Device.lent l.device ≡ g.D.Device.lent l.initial.device;
  faults : g.D.Device.faults l.initial.device ≤ g.D.Device.faults l.device;
}

abbrev pub decreases-loop-x : goal.decreases-loop-x
decreases-loop-x g l = l.right - l.x
