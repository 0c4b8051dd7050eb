-- Readings of the name of a command or of a dialog: nothing is blamed, and the name is noted where no such is declared.
use Rattle.std.proofs.Common.{◌≡◌, ℕ, Bool, true, false, List, refl, sym, ◌∙◌}
use Rattle.cl_words.specs.declared.signatures.Signatures.{Signatures}
use Rattle.cl_expressions.specs.Load.{Load, Notes, ◌>>=◌, give, noted}
use Rattle.cl_grammar.proofs.Judging.{Any, Verdict, given_judged, noted_none, noted_one}
use Rattle.cl_grammar.proofs.Spelled.{false_true}
use Rattle.cl_text_grammar.specs.FormSights.{NameSpace}
use Rattle.cl_text_grammar.specs.FormUnnamed.{is_declared}

-- nothing is blamed
abbrev pub NoneBlamed : ℕ → ℕ → Type 0
NoneBlamed n o = ⊥

module _ (w : Signatures) (k : NameSpace) (x : List ℕ) (at : ℕ) where
  -- nothing of this kind has this name, which stands at this offset
  abbrev pub NameUnnamed : ℕ → Type 0
  NameUnnamed o = (is_declared w k x ≡ false) × (o ≡ at)

  -- what a reading of this name comes to
  pub record NameJudges {A : Type 0} (Q : A → Type 0) (m : Load A) : Type 0 where
    pub judged : (u : Notes) → Verdict NoneBlamed NameUnnamed Q u (m u)

  name_known : (known : Bool) → is_declared w k x ≡ known → NameJudges Any (noted known at)
  name_known true e = record {
    judged = λ u. (tt, λ n o b. b, noted_none NameUnnamed u.unknown (λ o b. false_true (sym b.0 ∙ e)));
  }
  name_known false e = record {
    judged = λ u. (tt, λ n o b. b, noted_one NameUnnamed u.unknown at (e, refl) (λ o b. b.1));
  }

  pub name_judged : NameJudges Any (noted (is_declared w k x) at)
  name_judged = name_known (is_declared w k x) refl

  pub then_given : {A B : Type 0} (P : A → Type 0) (Q : B → Type 0) {m : Load A} (g : A → B) → NameJudges P m → ((y : A) → P y → Q (g y))
      → NameJudges Q (m >>= λ y. give (g y))
  then_given P Q {m} g h i = record { judged = λ u. given_judged NoneBlamed NameUnnamed P Q g i u (m u) (h.judged u) }
