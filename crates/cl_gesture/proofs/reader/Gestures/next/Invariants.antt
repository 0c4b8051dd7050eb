use Rattle.std.proofs.Common.{◌-◌, ◌≡◌, ◌≤◌}
use Rattle.cl_gesture.specs.Next.{AreIdle}
use Rattle.cl_gesture.specs.Reader.{source_of, ahead_of, progress_of}
use Rattle.cl_gesture.specs.Reading.{ReadsNoFurther}
use Rattle.cl_gesture.proofs.Answering.{Came}
use Rattle.cl_gesture.proofs.reader.Gestures.next.Given as goal

abbrev pub invariant-loop-self : goal.invariant-loop-self
invariant-loop-self g l =
    Came (progress_of g.G.Source.left g.G.Source.faults) l.initial.self l.self
    × (g.G.Source.lent (source_of l.self) ≡ g.G.Source.lent (source_of l.initial.self))
    × (g.G.Source.faults (source_of l.initial.self) ≤ g.G.Source.faults (source_of l.self))
    × ReadsNoFurther g.G.Source.left g.G.Source.calls AreIdle (source_of l.initial.self) (source_of l.self) (ahead_of l.initial.self)

abbrev pub decreases-loop-self : goal.decreases-loop-self
decreases-loop-self g l = 1000000 - l.self.lines.count
