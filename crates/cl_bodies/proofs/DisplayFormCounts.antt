-- A row of a number of parts refuses any other number.
use Rattle.std.proofs.Common.{◌≡◌, ℕ, length, map, List, [], ◌∷◌, refl}
use Rattle.std.specs.Prelude.{Err}
use Rattle.cl_forms.specs.Datum.{datums_of}
use Rattle.cl_forms.specs.DatumView.{datum_of}
use Rattle.cl_expressions.specs.Load.{Notes}
use Rattle.cl_expressions.specs.Scopes.{Names}
use Rattle.cl_expressions.specs.Expressions.{subs}
use Rattle.cl_forms.specs.declared.datum.Datum.{Datum}
use Rattle.cl_words.specs.declared.signatures.Signatures.{Signatures}
use Rattle.cl_bodies.specs.DisplayForms.{parse_write, parse_newline}
use Rattle.cl_bodies.specs.Presentations.{parse_present}

pub write_counts : (w : Signatures) (at : ℕ) (ds : List Datum) (env : Names) (s : Notes) → (length ds ≡ 1 → ⊥)
    → parse_write at (subs w (datums_of (map datum_of ds))) env s ≡ Err (6, at)
write_counts w at [] env s h = refl
write_counts w at (a ∷ []) env s h = absurd (h refl)
write_counts w at (a ∷ b ∷ ds) env s h = refl

pub newline_counts : (w : Signatures) (at : ℕ) (ds : List Datum) (s : Notes) → (length ds ≡ 0 → ⊥)
    → parse_newline at (subs w (datums_of (map datum_of ds))) s ≡ Err (6, at)
newline_counts w at [] s h = absurd (h refl)
newline_counts w at (a ∷ ds) s h = refl

pub present_counts : (w : Signatures) (at : ℕ) (ds : List Datum) (env : Names) (s : Notes) → (length ds ≡ 2 → ⊥)
    → parse_present w at (subs w (datums_of (map datum_of ds))) env s ≡ Err (6, at)
present_counts w at [] env s h = refl
present_counts w at (a ∷ []) env s h = refl
present_counts w at (a ∷ b ∷ []) env s h = absurd (h refl)
present_counts w at (a ∷ b ∷ c ∷ ds) env s h = refl
