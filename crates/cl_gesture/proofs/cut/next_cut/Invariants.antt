use Rattle.std.proofs.Common.{◌-◌, length}
use Rattle.cl_gesture.specs.Reading.{ReadsNoFurther, AreNone}
use Rattle.cl_gesture.proofs.Finding.{Looking}
use Rattle.cl_gesture.proofs.cut.next_cut.Given as goal

abbrev pub invariant-loop-at : goal.invariant-loop-at
invariant-loop-at g l =
    (Looking (g.G.Source.left l.initial.source) (g.G.Source.left l.source) l.initial.ahead l.ahead (g.G.Source.faults l.initial.source) (g.G.Source.faults l.source) (g.G.Source.lent l.initial.source) (g.G.Source.lent l.source) l.seen)
    × ReadsNoFurther g.G.Source.left g.G.Source.calls AreNone l.initial.source l.source l.initial.ahead

abbrev pub decreases-loop-at : goal.decreases-loop-at
decreases-loop-at g l = 8192 - length l.ahead
