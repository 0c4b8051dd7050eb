use Rattle.std.proofs.Common.{take}
use Rattle.cl_tables.specs.Enabled.{AreAllEnabled}
use Rattle.cl_tables.proofs.enabled.Enabled.new.Given as goal

abbrev pub invariant-loop-place : goal.invariant-loop-place
invariant-loop-place l = AreAllEnabled (take l.place l.places) l.states.entries
