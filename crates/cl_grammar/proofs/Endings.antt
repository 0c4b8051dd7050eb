-- What holds of each value that a reading gives.
use Rattle.std.proofs.Common.{◌≡◌, ℕ, Bool, true, false, if◌then◌else◌, List, refl, IfOk}
use Rattle.std.specs.Prelude.{Result, Ok, Err, Option, Some, None}
use Rattle.std.proofs.lemmas.Result.{IfOk-weaker}
use Rattle.cl_forms.specs.Datum.{Datum}
use Rattle.cl_forms.specs.Naming.{name_in}
use Rattle.cl_expressions.specs.Load.{Load, Notes, Fault, after, ◌>>=◌, give, refuse, noted}
use Rattle.cl_expressions.specs.Expressions.{named_part}

-- Q holds of each value that the reading gives
pub record Ends {A : Type 0} (Q : A → Type 0) (m : Load A) : Type 0 where
  pub ends : (u : Notes) → IfOk (m u) (λ x. Q x.0)

module _ {A : Type 0} {Q : A → Type 0} where
  pub gives : {x : A} → Q x → Ends Q (give x)
  gives h = record { ends = λ u. h }

  pub refuses : {n at : ℕ} → Ends Q (refuse n at)
  refuses = record { ends = λ u. tt }

  pub chooses : (b : Bool) {m n : Load A} → (b ≡ true → Ends Q m) → (b ≡ false → Ends Q n) → Ends Q (if b then m else n)
  chooses true h k = h refl
  chooses false h k = k refl

  pub notes_then : (known : Bool) (at : ℕ) {m : Load A} → Ends Q m → Ends Q (noted known at >>= λ u. m)
  notes_then true at h = record { ends = λ u. h.ends u }
  notes_then false at h = record { ends = λ u. h.ends _ }

  after_ends : {B : Type 0} {P : B → Type 0} (f : B → Load A) → ((x : B) → P x → Ends Q (f x)) → (r : Result (B × Notes) Fault)
      → IfOk r (λ x. P x.0) → IfOk (after r f) (λ x. Q x.0)
  after_ends f g (Ok x) h = (g x.0 h).ends x.1
  after_ends f g (Err fault) h = tt

  pub binds : {B : Type 0} {P : B → Type 0} {m : Load B} {f : B → Load A} → Ends P m → ((x : B) → P x → Ends Q (f x)) → Ends Q (m >>= f)
  binds {m} {f} h g = record { ends = λ u. after_ends f g (m u) (h.ends u) }

  pub ends_weaker : {P : A → Type 0} {m : Load A} → ((x : A) → P x → Q x) → Ends P m → Ends Q m
  ends_weaker {P} {m} f h = record { ends = λ u. IfOk-weaker (m u) (λ x. P x.0) (λ x. Q x.0) (λ x i. f x.0 i) (h.ends u) }

  name_found : (name : Option (List ℕ)) (at : ℕ) {f : List ℕ → Load A} → ((x : List ℕ) → name ≡ Some x → Ends Q (f x))
      → Ends Q (elim name [ None ↦ refuse 6 at | Some x ↦ give x ] >>= f)
  name_found None at h = record { ends = λ u. tt }
  name_found (Some x) at h = record { ends = (h x refl).ends }

  pub asks_name : (at : ℕ) (d : Datum) {f : List ℕ → Load A} → ((x : List ℕ) → name_in d ≡ Some x → Ends Q (f x)) → Ends Q (named_part at d >>= f)
  asks_name at d h = name_found (name_in d) at h
