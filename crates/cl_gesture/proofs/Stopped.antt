-- Lemmas on a reader that had stopped.
use Rattle.std.proofs.Common.{◌≡◌, ◌⊎◌, inl, inr, Bool, true, false, refl, subst}
use Rattle.cl_gesture.specs.declared.answers.Stop.{Stop}
use Rattle.cl_gesture.specs.declared.answers.Stop.TheVariants as stop
use Rattle.cl_gesture.specs.declared.lines.NextLine.{NextLine}
use Rattle.cl_gesture.specs.declared.lines.NextLine.TheVariants as next_line
use Rattle.cl_gesture.specs.LineReader.{AgainNone}
use Rattle.cl_gesture.specs.Progress.{stop_at}

pub again-line : {A : Type 0} (s : Stop) (a b : A) → AgainNone s a b next_line.Line → s ≡ stop.Going
again-line stop.Going a b h = refl
again-line stop.AtEnd a b h = absurd (cc)
again-line stop.AtFault a b h = absurd (cc)
again-line stop.AtLimit a b h = absurd (cc)

pub again-long : {A : Type 0} (s : Stop) (a b : A) → AgainNone s a b next_line.Long → s ≡ stop.Going
again-long stop.Going a b h = refl
again-long stop.AtEnd a b h = absurd (cc)
again-long stop.AtFault a b h = absurd (cc)
again-long stop.AtLimit a b h = absurd (cc)

-- it goes on, or nothing changes
pub again-same : {A : Type 0} (s : Stop) (a b : A) (answer : NextLine) → AgainNone s a b answer → (s ≡ stop.Going) ⊎ (b ≡ a)
again-same stop.Going a b answer h = inl refl
again-same stop.AtEnd a b answer h = inr h.1
again-same stop.AtFault a b answer h = inr h.1
again-same stop.AtLimit a b answer h = inr h.1

-- ---- a reader that had not stopped, or had stopped at its end

pub on-fault : {A : Type 0} (f : Bool) (s : Stop) (a b : A) → s ≡ stop_at f → AgainNone s a b next_line.ReadFault → s ≡ stop.Going
on-fault false s a b is h = is
on-fault {A} true s a b is h =
    let P : Stop → Type 0 = λ k. AgainNone k a b next_line.ReadFault in let same : next_line.ReadFault ≡ next_line.End = (subst P is h).0 in absurd (cc)

pub on-limit : {A : Type 0} (f : Bool) (s : Stop) (a b : A) → s ≡ stop_at f → AgainNone s a b next_line.TooMany → s ≡ stop.Going
on-limit false s a b is h = is
on-limit {A} true s a b is h =
    let P : Stop → Type 0 = λ k. AgainNone k a b next_line.TooMany in let same : next_line.TooMany ≡ next_line.End = (subst P is h).0 in absurd (cc)
