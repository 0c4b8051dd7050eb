use Rattle.std.proofs.Common.{◌≡◌, drop}
use Rattle.cl_opening.proofs.ReadingLemmas.{Same}
use Rattle.cl_opening.proofs.readings.first_frame.Given as goal

abbrev pub invariant-loop-frame : goal.invariant-loop-frame
invariant-loop-frame l = record { whole : l.search ≡ l.initial.search; left : Same l.initial.search l.frames (drop l.frame-index l.frames) }
