-- An `if` of any other number of parts is refused; and parts of a form as parts of an expression, and behind its first.
use Rattle.std.proofs.Common.{◌≡◌, ◌≤◌, ℕ, zero, suc, length, map, drop, List, [], ◌∷◌, refl, ap, arith}
use Rattle.std.specs.Prelude.{Err}
use Rattle.cl_forms.specs.Datum.{datums_of, weights}
use Rattle.cl_forms.specs.DatumView.{datum_of}
use Rattle.cl_expressions.specs.Load.{Notes}
use Rattle.cl_expressions.specs.Scopes.{Names}
use Rattle.cl_expressions.specs.Expressions.{subs, parse_expression, parse_bindings}
use Rattle.cl_forms.specs.declared.datum.Datum.{Datum}
use Rattle.cl_words.specs.declared.signatures.Signatures.{Signatures}
use Rattle.cl_bodies.specs.Bodies.{Language, parts_in, subs_of, parse_if}

pub if_counts : {F O C : Type 0} → (l : Language F O C) (w : Signatures) (c : C) (at : ℕ) (ds : List Datum) (env : Names) (s : Notes)
    → (length ds ≡ 3 → ⊥) → parse_if l c at (parts_in l w (datums_of (map datum_of ds))) env s ≡ Err (6, at)
if_counts l w k at [] env s h = refl
if_counts l w k at (a ∷ []) env s h = refl
if_counts l w k at (a ∷ b ∷ []) env s h = refl
if_counts l w k at (a ∷ b ∷ c ∷ []) env s h = absurd (h refl)
if_counts l w k at (a ∷ b ∷ c ∷ d ∷ ds) env s h = refl

pub parts_subs : {F O C : Type 0} → (l : Language F O C) (w : Signatures) (ds : List Datum)
    → subs_of (parts_in l w (datums_of (map datum_of ds))) ≡ subs w (datums_of (map datum_of ds))
parts_subs l w [] = refl
parts_subs l w (d ∷ ds) =
    ap (λ ps. record { shape = datum_of d; expr = parse_expression w (datum_of d); bound = parse_bindings w (datum_of d) } ∷ ps) (parts_subs l w ds)

pub parts_behind : {F O C : Type 0} → (l : Language F O C) (w : Signatures) (n : ℕ) (ds : List Datum)
    → drop n (parts_in l w (datums_of (map datum_of ds))) ≡ parts_in l w (datums_of (map datum_of (drop n ds)))
parts_behind l w zero ds = refl
parts_behind l w (suc n) [] = refl
parts_behind l w (suc n) (d ∷ ds) = parts_behind l w n ds

pub behind_weighs : (n : ℕ) (ds : List Datum) → weights (datums_of (map datum_of (drop n ds))) ≤ weights (datums_of (map datum_of ds))
behind_weighs zero ds = omega arith
behind_weighs (suc n) [] = omega arith
behind_weighs (suc n) (d ∷ ds) = omega (arith, behind_weighs n ds)
