-- A row of a number of parts refuses any other number.
use Rattle.std.proofs.Common.{◌≡◌, ℕ, Bool, length, map, List, [], ◌∷◌, refl}
use Rattle.std.specs.Prelude.{Err}
use Rattle.cl_forms.specs.Datum.{datums_of}
use Rattle.cl_forms.specs.DatumView.{datum_of}
use Rattle.cl_expressions.specs.Load.{Notes}
use Rattle.cl_expressions.specs.Scopes.{Names}
use Rattle.cl_expressions.specs.Expressions.{subs}
use Rattle.cl_forms.specs.declared.datum.Datum.{Datum}
use Rattle.cl_words.specs.declared.signatures.Signatures.{Signatures}
use Rattle.cl_bodies.specs.Statements.{parse_setf, parse_place, parse_reply, parse_switch, parse_open_dialog}

pub setf_counts : (w : Signatures) (at : ℕ) (ds : List Datum) (env : Names) (s : Notes) → (length ds ≡ 2 → ⊥)
    → parse_setf w at (subs w (datums_of (map datum_of ds))) env s ≡ Err (6, at)
setf_counts w at [] env s h = refl
setf_counts w at (a ∷ []) env s h = refl
setf_counts w at (a ∷ b ∷ []) env s h = absurd (h refl)
setf_counts w at (a ∷ b ∷ c ∷ ds) env s h = refl

pub place_counts : (w : Signatures) (at : ℕ) (ds : List Datum) (s : Notes) → (length ds ≡ 2 → ⊥) → parse_place w at (map datum_of ds) s ≡ Err (6, at)
place_counts w at [] s h = refl
place_counts w at (a ∷ []) s h = refl
place_counts w at (a ∷ b ∷ []) s h = absurd (h refl)
place_counts w at (a ∷ b ∷ c ∷ ds) s h = refl

pub reply_counts : (w : Signatures) (at : ℕ) (ds : List Datum) (env : Names) (s : Notes) → (length ds ≡ 1 → ⊥)
    → parse_reply at (subs w (datums_of (map datum_of ds))) env s ≡ Err (6, at)
reply_counts w at [] env s h = refl
reply_counts w at (a ∷ []) env s h = absurd (h refl)
reply_counts w at (a ∷ b ∷ ds) env s h = refl

pub switch_counts : (w : Signatures) (on : Bool) (at : ℕ) (ds : List Datum) (s : Notes) → (length ds ≡ 1 → ⊥)
    → parse_switch w on at (subs w (datums_of (map datum_of ds))) s ≡ Err (6, at)
switch_counts w on at [] s h = refl
switch_counts w on at (a ∷ []) s h = absurd (h refl)
switch_counts w on at (a ∷ b ∷ ds) s h = refl

pub open_dialog_counts : (w : Signatures) (at : ℕ) (ds : List Datum) (s : Notes) → (length ds ≡ 1 → ⊥)
    → parse_open_dialog w at (subs w (datums_of (map datum_of ds))) s ≡ Err (6, at)
open_dialog_counts w at [] s h = refl
open_dialog_counts w at (a ∷ []) s h = absurd (h refl)
open_dialog_counts w at (a ∷ b ∷ ds) s h = refl
