-- Readings whose faults stand at offsets of one kind, and that come to the same whatever was noted before.
use Rattle.std.proofs.Common.{◌≡◌, ℕ, Bool, true, false, if◌then◌else◌, List, IfErr, refl, ap, ◌∙◌}
use Rattle.std.specs.Prelude.{Result, Ok, Err, Option, Some, None}
use Rattle.cl_forms.specs.Datum.{Datum}
use Rattle.cl_expressions.specs.Load.{Load, Notes, Fault, after, ◌>>=◌, give, refuse, noted}
use Rattle.cl_forms.specs.Naming.{name_in}
use Rattle.cl_expressions.specs.Expressions.{named_part}

-- what a reading comes to, without what was noted
abbrev pub outcome : {A : Type 0} → Result (A × Notes) Fault → Result A Fault
outcome (Ok x) = Ok x.0
outcome (Err fault) = Err fault

-- P holds of the offset of each fault
pub record FaultsAt {A : Type 0} (P : ℕ → Type 0) (m : Load A) : Type 0 where
  pub steady : (u v : Notes) → outcome (m u) ≡ outcome (m v)
  pub stand : (u : Notes) → IfErr (m u) (λ fault. P fault.1)

same_value : {A : Type 0} (x y : A) → ◌≡◌ {A = Result A Fault} (Ok x) (Ok y) → x ≡ y
same_value x y h = cc

module _ {P : ℕ → Type 0} where
  pub gives : {A : Type 0} {x : A} → FaultsAt P (give x)
  gives = record { steady = λ u v. refl; stand = λ u. tt }

  pub refuses : {A : Type 0} {n at : ℕ} → P at → FaultsAt {A = A} P (refuse n at)
  refuses h = record { steady = λ u v. refl; stand = λ u. h }

  pub notes_then : {A : Type 0} (known : Bool) (at : ℕ) (x : A) → FaultsAt P (noted known at >>= λ u. give x)
  notes_then known at x = record { steady = λ u v. refl; stand = λ u. tt }

  pub notes : (known : Bool) (at : ℕ) → FaultsAt P (noted known at)
  notes known at = record { steady = λ u v. refl; stand = λ u. tt }

  after_steady : {A B : Type 0} (f : A → Load B) → ((x : A) → FaultsAt P (f x)) → (r s : Result (A × Notes) Fault)
      → outcome r ≡ outcome s → outcome (after r f) ≡ outcome (after s f)
  after_steady f g (Ok x) (Ok y) h = ap (λ a. outcome (f a x.1)) (same_value x.0 y.0 h) ∙ (g y.0).steady x.1 y.1
  after_steady f g (Ok x) (Err b) h = cc
  after_steady f g (Err a) (Ok y) h = cc
  after_steady f g (Err a) (Err b) h = cc

  after_stand : {A B : Type 0} (f : A → Load B) → ((x : A) → FaultsAt P (f x)) → (r : Result (A × Notes) Fault)
      → IfErr r (λ fault. P fault.1) → IfErr (after r f) (λ fault. P fault.1)
  after_stand f g (Ok x) h = (g x.0).stand x.1
  after_stand f g (Err fault) h = h

  pub binds : {A B : Type 0} {m : Load A} {f : A → Load B} → FaultsAt P m → ((x : A) → FaultsAt P (f x)) → FaultsAt P (m >>= f)
  binds {m} {f} h g = record {
    steady = λ u v. after_steady f g (m u) (m v) (h.steady u v);
    stand = λ u. after_stand f g (m u) (h.stand u);
  }

  pub chooses : {A : Type 0} (b : Bool) {m n : Load A} → FaultsAt P m → FaultsAt P n → FaultsAt P (if b then m else n)
  chooses true h k = h
  chooses false h k = k

  asks : (name : Option (List ℕ)) (at : ℕ) → P at → FaultsAt {A = List ℕ} P (elim name [ None ↦ refuse 6 at | Some x ↦ give x ])
  asks None at h = refuses h
  asks (Some x) at h = gives

  pub asks_name : (at : ℕ) (d : Datum) → P at → FaultsAt P (named_part at d)
  asks_name at d h = asks (name_in d) at h
