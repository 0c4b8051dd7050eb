-- What the reader of one line answers.
use Rattle.std.specs.Prelude.{◌≡◌, ℕ, Option, Some, None}
use Rattle.cl_gesture.specs.declared.answers.Gesture.{Gesture}
use Rattle.cl_gesture.specs.declared.answers.Next.{Next}
use Rattle.cl_gesture.specs.declared.answers.Next.TheVariants as next
use Rattle.cl_gesture.specs.declared.grammar.Said.{Said}
use Rattle.cl_gesture.specs.declared.grammar.Said.TheVariants as said
use Rattle.cl_gesture.specs.Gesture.{LineKind, idle, bad, does}

-- the line's kind; memory may want at any gesture
abbrev pub SaidOf : LineKind → Said → Type 0
SaidOf kind said.Idle = kind ≡ idle
SaidOf kind said.Bad = kind ≡ bad
SaidOf kind (said.Gesture g) = kind ≡ does g
SaidOf kind said.Memory = (g : Gesture) × (kind ≡ does g)

-- the answer for a line of which this was said
abbrev pub AnswerOf : Said → ℕ → Option Next → Type 0
AnswerOf said.Idle number answer = answer ≡ None
AnswerOf said.Bad number answer = answer ≡ Some (next.Bad number)
AnswerOf (said.Gesture g) number answer = answer ≡ Some (next.Gesture g)
AnswerOf said.Memory number answer = answer ≡ Some next.Memory
