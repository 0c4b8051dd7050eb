-- Lemmas on the answers of a reader of gestures, over its reader of lines.
use Rattle.std.proofs.Common.{◌≡◌, ◌⊎◌, inl, inr, ℕ, List, Option, Some, None, refl, sym, ap, subst, ◌∙◌}
use Rattle.cl_gesture.specs.declared.answers.Next.{Next}
use Rattle.cl_gesture.specs.declared.answers.Next.TheVariants as next
use Rattle.cl_gesture.specs.declared.answers.Stop.{Stop}
use Rattle.cl_gesture.specs.declared.answers.Stop.TheVariants as stop
use Rattle.cl_gesture.specs.declared.grammar.Said.{Said}
use Rattle.cl_gesture.specs.declared.grammar.Said.TheVariants as said
use Rattle.cl_gesture.specs.declared.lines.LineReader.{LineReader}
use Rattle.cl_gesture.specs.declared.lines.NextLine.{NextLine}
use Rattle.cl_gesture.specs.declared.lines.NextLine.TheVariants as next_line
use Rattle.cl_gesture.specs.Lines.{line}
use Rattle.cl_gesture.specs.Gesture.{LineKind, idle, bad, does, kind_of}
use Rattle.cl_gesture.specs.Said.{SaidOf, AnswerOf}
use Rattle.cl_gesture.specs.LineReader.{source_of, ahead_of, stop_of, progress_of, LineOf, AgainNone}
use Rattle.cl_gesture.specs.Next.{Progress, AreIdle, NextOf, ReadsToEnd}
use Rattle.cl_gesture.specs.Reading.{ReadsNoFurther, AreNone}
use Rattle.cl_gesture.proofs.Turning.{Passed, Passed-start, Passed-going, ReadsTo-line, ReadsToEnd-more, ReadsToEnd-still, ReadsNoFurther-more}
use Rattle.cl_gesture.proofs.Stopped.{again-same}

-- idle lines of gestures were read, and nothing else
abbrev pub Idled : Progress → Progress → Type 0
Idled a b = Passed kind_of idle a b

-- an answer for the line behind them
pub NextOf-line : (a b c : Progress) (bytes : List ℕ) (r : Said) (answer : Next) → Idled a b → b.stop ≡ stop.Going → LineOf b c bytes next_line.Line
    → SaidOf (kind_of (line bytes)) r → AnswerOf r c.count (Some answer) → NextOf a c answer
NextOf-line a b c bytes said.Idle answer p going h says is = absurd (cc)
NextOf-line a b c bytes said.Bad answer p going h says is =
    let P : Next → Type 0 = λ n. NextOf a c n in let same : answer ≡ next.Bad c.count = cc in
    subst P (sym same) (ReadsTo-line kind_of idle bad a b c bytes p going h says, refl)
NextOf-line a b c bytes (said.Gesture g) answer p going h says is =
    let P : Next → Type 0 = λ n. NextOf a c n in let same : answer ≡ next.Gesture g = cc in
    subst P (sym same) (ReadsTo-line kind_of idle (does g) a b c bytes p going h says)
NextOf-line a b c bytes said.Memory answer p going h says is =
    let P : Next → Type 0 = λ n. NextOf a c n in let same : answer ≡ next.Memory = cc in
    subst P (sym same) (says.0, ReadsTo-line kind_of idle (does says.0) a b c bytes p going h says.1)

-- a line without an answer is idle
pub idle-said : (kind : LineKind) (r : Said) (number : ℕ) → SaidOf kind r → AnswerOf r number None → kind ≡ idle
idle-said kind said.Idle number says is = says
idle-said kind said.Bad number says is = absurd (cc)
idle-said kind (said.Gesture g) number says is = absurd (cc)
idle-said kind said.Memory number says is = absurd (cc)

-- ---- nothing has changed yet, or the reader had not stopped and has read idle lines

module _ {A : Type 0} (at : A → Progress) where
  abbrev pub Came : A → A → Type 0
  Came a b = (b ≡ a) ⊎ (((at a).stop ≡ stop.Going) × Idled (at a) (at b))

  pub Came-from : (a b : A) → Came a b → (at a).stop ≡ stop.Going → Idled (at a) (at b)
  Came-from a b (inl same) going =
      let P : A → Type 0 = λ s. Idled (at a) (at s) in subst P (sym same) (Passed-start kind_of idle (at a) going)
  Came-from a b (inr on) going = on.1

  pub Came-to : (a b : A) → Came a b → (at b).stop ≡ stop.Going → Idled (at a) (at b)
  Came-to a b (inl same) going = Came-from a b (inl same) (ap (λ s. (at s).stop) (sym same) ∙ going)
  Came-to a b (inr on) going = on.1

  pub Came-on : (a b : A) → Came a b → (at b).stop ≡ stop.Going → (at a).stop ≡ stop.Going
  Came-on a b (inl same) going = ap (λ s. (at s).stop) (sym same) ∙ going
  Came-on a b (inr on) going = on.0

  ReadsToEnd-by : (s : Stop) (a : Progress) (b c : A) (bytes : List ℕ) → Idled a (at b) → (at b).stop ≡ s → AgainNone s b c next_line.End
      → ((at b).stop ≡ stop.Going → LineOf (at b) (at c) bytes next_line.End) → ReadsToEnd a (at c)
  ReadsToEnd-by stop.Going a b c bytes p is h more = ReadsToEnd-more kind_of idle a (at b) (at c) bytes p is (more is)
  ReadsToEnd-by stop.AtEnd a b c bytes p is h more =
      let P : A → Type 0 = λ s. ReadsToEnd a (at s) in subst P (sym h.1) (ReadsToEnd-still kind_of idle a (at b) p is)
  ReadsToEnd-by stop.AtFault a b c bytes p is h more = absurd (cc)
  ReadsToEnd-by stop.AtLimit a b c bytes p is h more = absurd (cc)

  -- the end, behind idle lines or at the last of them
  pub ReadsToEnd-at : (a : Progress) (b c : A) (bytes : List ℕ) → Idled a (at b) → AgainNone (at b).stop b c next_line.End
      → ((at b).stop ≡ stop.Going → LineOf (at b) (at c) bytes next_line.End) → ReadsToEnd a (at c)
  ReadsToEnd-at a b c bytes p h more = ReadsToEnd-by (at b).stop a b c bytes p refl h more

-- ---- how far the source was read

reads-turn-by : {G : Type 0} (left : G → Option (List ℕ)) (faults calls : G → ℕ) (a b c : LineReader G)
    → (stop_of b ≡ stop.Going → Idled (progress_of left faults a) (progress_of left faults b)) → (stop_of b ≡ stop.Going) ⊎ (c ≡ b)
    → ReadsNoFurther left calls AreIdle (source_of a) (source_of b) (ahead_of a) → ReadsNoFurther left calls AreNone (source_of b) (source_of c) (ahead_of b)
    → ReadsNoFurther left calls AreIdle (source_of a) (source_of c) (ahead_of a)
reads-turn-by left faults calls a b c p (inl going) first then =
    let at = progress_of left faults in let idled = p going in
    ReadsNoFurther-more kind_of idle left calls (source_of a) (source_of b) (source_of c) (ahead_of a) (ahead_of b) idled.idles
    (Passed-going kind_of idle (at a) (at b) idled going).lines idled.idle first then
reads-turn-by {G} left faults calls a b c p (inr same) first then =
    let P : LineReader G → Type 0 = λ s. ReadsNoFurther left calls AreIdle (source_of a) (source_of s) (ahead_of a) in subst P (sym same) first

pub reads-turn : {G : Type 0} (left : G → Option (List ℕ)) (faults calls : G → ℕ) (a b c : LineReader G) (answer : NextLine)
    → (stop_of b ≡ stop.Going → Idled (progress_of left faults a) (progress_of left faults b)) → AgainNone (stop_of b) b c answer
    → ReadsNoFurther left calls AreIdle (source_of a) (source_of b) (ahead_of a) → ReadsNoFurther left calls AreNone (source_of b) (source_of c) (ahead_of b)
    → ReadsNoFurther left calls AreIdle (source_of a) (source_of c) (ahead_of a)
reads-turn left faults calls a b c answer p h first then =
    reads-turn-by left faults calls a b c p (again-same (stop_of b) b c answer h) first then
