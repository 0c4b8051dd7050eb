use Rattle.std.proofs.Common.{All, take}
use Rattle.cl_gesture.specs.Lines.{IsNoFeed}
use Rattle.cl_gesture.proofs.cut.find_line.Given as goal

abbrev pub invariant-loop-at : goal.invariant-loop-at
invariant-loop-at l = All IsNoFeed (take l.at l.bytes)
