-- Outcomes that cannot differ are the same; so the law holds of an application that is one of some text.
use Rattle.std.proofs.Common.{◌≡◌, ◌==◌, ◌∙◌, ℕ, Bool, true, false, List, refl, sym, ap, subst}
use Rattle.std.specs.declared.cmp.Ordering.{Ordering}
use Rattle.std.specs.declared.cmp.Ordering.TheVariants.{Less, Equal, Greater}
use Rattle.std.proofs.lemmas.Bool.Decides.{Decides-eqb}
use Rattle.cl_value.specs.Data.{Data, order_of}
use Rattle.cl_value.specs.OrderLaws.{same_data}
use Rattle.cl_value.proofs.Same.{order_self}
use Rattle.cl_application.specs.declared.applications.App.{App}
use Rattle.cl_eval.specs.Outcome.{Outcome, Gives, Traps}
use Rattle.cl_lattice.specs.World.{World}
use Rattle.cl_load.specs.Application.{IsOfText}
use Rattle.cl_ptext.specs.Hosts.{NameEntries}
use Rattle.cl_reuse.specs.ReadValues.{SeesReads}
use Rattle.cl_loaded.specs.Texts.{texts_in}
use Rattle.cl_loaded.proofs.TextsOwned.{loaded-owned}
use Rattle.cl_loaded.proofs.TextsSeen.{owned-sees}

-- two that cannot differ are the same
abbrev CannotDiffer : {A : Type 0} → A → A → Type 0
CannotDiffer x y = (x ≡ y → ⊥) → ⊥

number-same : (m n : ℕ) → CannotDiffer m n → m ≡ n
number-same m n h = by_test (m == n) refl
  where
    by_test : (b : Bool) → (m == n) ≡ b → m ≡ n
    by_test true e = (Decides-eqb m n).0 e
    by_test false e = absurd (h (λ same. let wrong : false ≡ true = sym e ∙ (Decides-eqb m n).1 same in cc))

value-same : (x y : Data) → CannotDiffer x y → x ≡ y
value-same x y h = by_order (order_of x y) refl
  where
    unlike : (o : Ordering) → order_of x y ≡ o → (Equal ≡ o → ⊥) → x ≡ y
    unlike o e other = absurd (h (λ same. other (sym (order_self x) ∙ ap (λ (z : Data). order_of x z) same ∙ e)))

    by_order : (o : Ordering) → order_of x y ≡ o → x ≡ y
    by_order Equal e = same_data x y e
    by_order Less e = unlike Less e (λ same. cc)
    by_order Greater e = unlike Greater e (λ same. cc)

gives-same : (x y : Data) (c d e f : ℕ) → ◌≡◌ {A = Outcome Data} (Gives x c d) (Gives y e f) → (x ≡ y) × ((c ≡ e) × (d ≡ f))
gives-same x y c d e f h = (cc, (cc, cc))

traps-same : (k l c d e f : ℕ) → ◌≡◌ {A = Outcome Data} (Traps k c d) (Traps l e f) → (k ≡ l) × ((c ≡ e) × (d ≡ f))
traps-same k l c d e f h = (cc, (cc, cc))

outcome-same : (a b : Outcome Data) → CannotDiffer a b → a ≡ b
outcome-same (Gives x c d) (Gives y e f) h =
    let value : x ≡ y = value-same x y (λ differ. h (λ same. differ (gives-same x y c d e f same).0)) in
    let cost : c ≡ e = number-same c e (λ differ. h (λ same. differ (gives-same x y c d e f same).1.0)) in
    let reach : d ≡ f = number-same d f (λ differ. h (λ same. differ (gives-same x y c d e f same).1.1)) in
    λ i. Gives (value i) (cost i) (reach i)
outcome-same (Traps k c d) (Traps l e f) h =
    let trap : k ≡ l = number-same k l (λ differ. h (λ same. differ (traps-same k l c d e f same).0)) in
    let cost : c ≡ e = number-same c e (λ differ. h (λ same. differ (traps-same k l c d e f same).1.0)) in
    let reach : d ≡ f = number-same d f (λ differ. h (λ same. differ (traps-same k l c d e f same).1.1)) in
    λ i. Traps (trap i) (cost i) (reach i)
outcome-same (Gives x c d) (Traps l e f) h = absurd (h (λ same. cc))
outcome-same (Traps k c d) (Gives y e f) h = absurd (h (λ same. cc))

pub of-text-sees : (names : List ℕ → NameEntries) (app : App) (w : World) → IsOfText app w → SeesReads app (texts_in names w app)
of-text-sees names app w text = record {
  same = λ limits slots other s agree d.
      outcome-same (texts_in names w app limits slots s d) (texts_in names w app limits other s d) (λ differ. text (λ bounds bytes loads types. differ
      (subst (λ (v : World). texts_in names v app limits slots s d ≡ texts_in names v app limits other s d) (sym types)
      ((owned-sees bounds names app (loaded-owned bounds bytes app loads)).same limits slots other s agree d))));
}
