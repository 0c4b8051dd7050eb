-- What the next call of a reader of gestures answers.
use Rattle.std.specs.Prelude.{◌≡◌, List}
use Rattle.cl_gesture.specs.declared.answers.Gesture.{Gesture}
use Rattle.cl_gesture.specs.declared.answers.Next.{Next}
use Rattle.cl_gesture.specs.declared.answers.Next.TheVariants as next
use Rattle.cl_gesture.specs.declared.answers.Stop.{Stop}
use Rattle.cl_gesture.specs.declared.answers.Stop.TheVariants as stop
use Rattle.cl_gesture.specs.Idle as any
use Rattle.cl_gesture.specs.Lines.{Piece}
use Rattle.cl_gesture.specs.Gesture.{LineKind, idle, bad, does, kind_of}
pub use Rattle.cl_gesture.specs.Progress.{Progress, Passes, stop_at, most_lines}

-- ---- lines of gestures

-- each of these lines does nothing
abbrev pub AreIdle : List Piece → Type 0
AreIdle ps = any.AreIdle kind_of idle ps

-- idle lines were read, and then one of this kind
abbrev pub ReadsTo : LineKind → Progress → Progress → Type 0
ReadsTo kind old new = any.ReadsTo kind_of idle kind old new

-- only idle lines were read, up to the source's end
abbrev pub ReadsToEnd : Progress → Progress → Type 0
ReadsToEnd old new = any.ReadsToEnd kind_of idle old new

-- only idle lines were read, up to a fault of the source
abbrev pub ReadsToFault : Progress → Progress → Type 0
ReadsToFault old new = any.ReadsToFault kind_of idle old new

-- only idle lines were read, a million lines in all
abbrev pub ReadsToLimit : Progress → Progress → Type 0
ReadsToLimit old new = any.ReadsToLimit kind_of idle old new

-- ---- answers

-- the answer of a reader that had not stopped; want of memory can stand only at a gesture
abbrev pub NextOf : Progress → Progress → Next → Type 0
NextOf old new (next.Gesture g) = ReadsTo (does g) old new
NextOf old new (next.Bad n) = ReadsTo bad old new × (n ≡ new.count)
NextOf old new next.End = ReadsToEnd old new
NextOf old new next.ReadFault = ReadsToFault old new
NextOf old new next.TooMany = ReadsToLimit old new
NextOf old new next.Memory = (g : Gesture) × ReadsTo (does g) old new

-- where the reader had stopped, the same answer comes again and nothing changes
abbrev pub Again : {A : Type 0} → Stop → A → A → Next → Type 0
Again stop.Going old new answer = Unit {0}
Again stop.AtEnd old new answer = (answer ≡ next.End) × (new ≡ old)
Again stop.AtFault old new answer = (answer ≡ next.ReadFault) × (new ≡ old)
Again stop.AtLimit old new answer = (answer ≡ next.TooMany) × (new ≡ old)
