-- A row of a number of parts refuses any other number.
use Rattle.std.proofs.Common.{◌≡◌, ℕ, false, length, map, List, [], ◌∷◌, refl}
use Rattle.std.specs.Prelude.{Err}
use Rattle.cl_forms.specs.Datum.{datums_of}
use Rattle.cl_forms.specs.DatumView.{datum_of}
use Rattle.cl_expressions.specs.Load.{Notes}
use Rattle.cl_expressions.specs.Scopes.{Names}
use Rattle.cl_expressions.specs.Expressions.{subs, parse_slot, parse_if, parse_get, parse_with, parse_map, parse_filter, parse_fold, parse_let, parse_binding_parts, is_binding}
use Rattle.cl_forms.specs.declared.datum.Datum.{Datum}
use Rattle.cl_words.specs.declared.signatures.Signatures.{Signatures}

pub slot_counts : (w : Signatures) (at : ℕ) (ds : List Datum) (s : Notes) → (length ds ≡ 1 → ⊥) → parse_slot w at (subs w (datums_of (map datum_of ds))) s ≡ Err (6, at)
slot_counts w at [] s h = refl
slot_counts w at (a ∷ []) s h = absurd (h refl)
slot_counts w at (a ∷ b ∷ ds) s h = refl

pub if_counts : (w : Signatures) (at : ℕ) (ds : List Datum) (env : Names) (s : Notes) → (length ds ≡ 3 → ⊥) → parse_if at (subs w (datums_of (map datum_of ds))) env s ≡ Err (6, at)
if_counts w at [] env s h = refl
if_counts w at (a ∷ []) env s h = refl
if_counts w at (a ∷ b ∷ []) env s h = refl
if_counts w at (a ∷ b ∷ c ∷ []) env s h = absurd (h refl)
if_counts w at (a ∷ b ∷ c ∷ d ∷ ds) env s h = refl

pub get_counts : (w : Signatures) (at : ℕ) (ds : List Datum) (env : Names) (s : Notes) → (length ds ≡ 2 → ⊥) → parse_get at (subs w (datums_of (map datum_of ds))) env s ≡ Err (6, at)
get_counts w at [] env s h = refl
get_counts w at (a ∷ []) env s h = refl
get_counts w at (a ∷ b ∷ []) env s h = absurd (h refl)
get_counts w at (a ∷ b ∷ c ∷ ds) env s h = refl

pub with_counts : (w : Signatures) (at : ℕ) (ds : List Datum) (env : Names) (s : Notes) → (length ds ≡ 3 → ⊥) → parse_with at (subs w (datums_of (map datum_of ds))) env s ≡ Err (6, at)
with_counts w at [] env s h = refl
with_counts w at (a ∷ []) env s h = refl
with_counts w at (a ∷ b ∷ []) env s h = refl
with_counts w at (a ∷ b ∷ c ∷ []) env s h = absurd (h refl)
with_counts w at (a ∷ b ∷ c ∷ d ∷ ds) env s h = refl

pub map_counts : (w : Signatures) (at : ℕ) (ds : List Datum) (env : Names) (s : Notes) → (length ds ≡ 3 → ⊥) → parse_map at (subs w (datums_of (map datum_of ds))) env s ≡ Err (6, at)
map_counts w at [] env s h = refl
map_counts w at (a ∷ []) env s h = refl
map_counts w at (a ∷ b ∷ []) env s h = refl
map_counts w at (a ∷ b ∷ c ∷ []) env s h = absurd (h refl)
map_counts w at (a ∷ b ∷ c ∷ d ∷ ds) env s h = refl

pub filter_counts : (w : Signatures) (at : ℕ) (ds : List Datum) (env : Names) (s : Notes) → (length ds ≡ 3 → ⊥) → parse_filter at (subs w (datums_of (map datum_of ds))) env s ≡ Err (6, at)
filter_counts w at [] env s h = refl
filter_counts w at (a ∷ []) env s h = refl
filter_counts w at (a ∷ b ∷ []) env s h = refl
filter_counts w at (a ∷ b ∷ c ∷ []) env s h = absurd (h refl)
filter_counts w at (a ∷ b ∷ c ∷ d ∷ ds) env s h = refl

pub fold_counts : (w : Signatures) (at : ℕ) (ds : List Datum) (env : Names) (s : Notes) → (length ds ≡ 5 → ⊥) → parse_fold at (subs w (datums_of (map datum_of ds))) env s ≡ Err (6, at)
fold_counts w at [] env s h = refl
fold_counts w at (a ∷ []) env s h = refl
fold_counts w at (a ∷ b ∷ []) env s h = refl
fold_counts w at (a ∷ b ∷ c ∷ []) env s h = refl
fold_counts w at (a ∷ b ∷ c ∷ d ∷ []) env s h = refl
fold_counts w at (a ∷ b ∷ c ∷ d ∷ e ∷ []) env s h = absurd (h refl)
fold_counts w at (a ∷ b ∷ c ∷ d ∷ e ∷ f ∷ ds) env s h = refl

pub let_counts : (w : Signatures) (at : ℕ) (ds : List Datum) (env : Names) (s : Notes) → (length ds ≡ 2 → ⊥) → parse_let at (subs w (datums_of (map datum_of ds))) env s ≡ Err (6, at)
let_counts w at [] env s h = refl
let_counts w at (a ∷ []) env s h = refl
let_counts w at (a ∷ b ∷ []) env s h = absurd (h refl)
let_counts w at (a ∷ b ∷ c ∷ ds) env s h = refl

pub binding_counts : (w : Signatures) (at : ℕ) (ds : List Datum) (env : Names) (s : Notes) → (length ds ≡ 2 → ⊥) → parse_binding_parts at (subs w (datums_of (map datum_of ds))) env s ≡ Err (6, at)
binding_counts w at [] env s h = refl
binding_counts w at (a ∷ []) env s h = refl
binding_counts w at (a ∷ b ∷ []) env s h = absurd (h refl)
binding_counts w at (a ∷ b ∷ c ∷ ds) env s h = refl

pub is_binding_counts : (ds : List Datum) → (length ds ≡ 2 → ⊥) → is_binding (map datum_of ds) ≡ false
is_binding_counts [] h = refl
is_binding_counts (a ∷ []) h = refl
is_binding_counts (a ∷ b ∷ []) h = absurd (h refl)
is_binding_counts (a ∷ b ∷ c ∷ ds) h = refl
