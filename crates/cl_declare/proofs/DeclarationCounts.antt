-- Rows of a number of parts, which say the same of any other number.
use Rattle.std.proofs.Common.{◌≡◌, ℕ, false, length, map, List, [], ◌∷◌, refl}
use Rattle.std.specs.Prelude.{Ok, Err, None}
use Rattle.cl_forms.specs.DatumView.{datum_of}
use Rattle.cl_expressions.specs.Load.{Notes}
use Rattle.cl_forms.specs.declared.datum.Datum.{Datum}
use Rattle.cl_words.specs.declared.signatures.Signatures.{Signatures}
use Rattle.cl_declare.specs.Callees.{parse_function}
use Rattle.cl_declare.specs.Methods.{parse_method}
use Rattle.cl_declare.specs.TranslatorForms.{translator_form}
use Rattle.cl_declare.specs.Types.{parse_host_type}
use Rattle.cl_declare.specs.Frames.{size_in, is_slot, pane_listed}
use Rattle.cl_declare.specs.Sections.{SlotTable, parse_slot, note_pane}

pub function_counts : (w : Signatures) (at : ℕ) (ds : List Datum) (n : Notes) → (length ds ≡ 3 → ⊥) → parse_function w at (map datum_of ds) n ≡ Err (6, at)
function_counts w at [] n h = refl
function_counts w at (a ∷ []) n h = refl
function_counts w at (a ∷ b ∷ []) n h = refl
function_counts w at (a ∷ b ∷ c ∷ []) n h = absurd (h refl)
function_counts w at (a ∷ b ∷ c ∷ d ∷ ds) n h = refl

pub size_counts : (ds : List Datum) → (length ds ≡ 2 → ⊥) → size_in (map datum_of ds) ≡ None
size_counts [] h = refl
size_counts (a ∷ []) h = refl
size_counts (a ∷ b ∷ []) h = absurd (h refl)
size_counts (a ∷ b ∷ c ∷ ds) h = refl

pub is_slot_counts : (ds : List Datum) → (length ds ≡ 3 → ⊥) → is_slot (map datum_of ds) ≡ false
is_slot_counts [] h = refl
is_slot_counts (a ∷ []) h = refl
is_slot_counts (a ∷ b ∷ []) h = refl
is_slot_counts (a ∷ b ∷ c ∷ []) h = absurd (h refl)
is_slot_counts (a ∷ b ∷ c ∷ d ∷ ds) h = refl

pub pane_counts : (w : Signatures) (at : ℕ) (ds : List Datum) → (length ds ≡ 6 → ⊥) → pane_listed w at (map datum_of ds) ≡ None
pane_counts w at [] h = refl
pane_counts w at (a ∷ []) h = refl
pane_counts w at (a ∷ b ∷ []) h = refl
pane_counts w at (a ∷ b ∷ c ∷ []) h = refl
pane_counts w at (a ∷ b ∷ c ∷ d ∷ []) h = refl
pane_counts w at (a ∷ b ∷ c ∷ d ∷ e ∷ []) h = refl
pane_counts w at (a ∷ b ∷ c ∷ d ∷ e ∷ f ∷ []) h = absurd (h refl)
pane_counts w at (a ∷ b ∷ c ∷ d ∷ e ∷ f ∷ g ∷ ds) h = refl

pub slot_counts : (w : Signatures) (at : ℕ) (ds : List Datum) (slots : SlotTable) (n : Notes) → (length ds ≡ 3 → ⊥)
    → parse_slot w at (map datum_of ds) slots n ≡ Ok (slots, n)
slot_counts w at [] slots n h = refl
slot_counts w at (a ∷ []) slots n h = refl
slot_counts w at (a ∷ b ∷ []) slots n h = refl
slot_counts w at (a ∷ b ∷ c ∷ []) slots n h = absurd (h refl)
slot_counts w at (a ∷ b ∷ c ∷ d ∷ ds) slots n h = refl

pub note_counts : (w : Signatures) (ds : List Datum) (n : Notes) → (length ds ≡ 6 → ⊥) → note_pane w (map datum_of ds) n ≡ Ok (tt, n)
note_counts w [] n h = refl
note_counts w (a ∷ []) n h = refl
note_counts w (a ∷ b ∷ []) n h = refl
note_counts w (a ∷ b ∷ c ∷ []) n h = refl
note_counts w (a ∷ b ∷ c ∷ d ∷ []) n h = refl
note_counts w (a ∷ b ∷ c ∷ d ∷ e ∷ []) n h = refl
note_counts w (a ∷ b ∷ c ∷ d ∷ e ∷ f ∷ []) n h = absurd (h refl)
note_counts w (a ∷ b ∷ c ∷ d ∷ e ∷ f ∷ g ∷ ds) n h = refl

pub host_type_counts : (at : ℕ) (ds : List Datum) (n : Notes) → (length ds ≡ 1 → ⊥) → parse_host_type at (map datum_of ds) n ≡ Err (6, at)
host_type_counts at [] n h = refl
host_type_counts at (a ∷ []) n h = absurd (h refl)
host_type_counts at (a ∷ b ∷ ds) n h = refl

pub method_counts : (w : Signatures) (at : ℕ) (ds : List Datum) (n : Notes) → (length ds ≡ 3 → ⊥) → parse_method w at (map datum_of ds) n ≡ Err (6, at)
method_counts w at [] n h = refl
method_counts w at (a ∷ []) n h = refl
method_counts w at (a ∷ b ∷ []) n h = refl
method_counts w at (a ∷ b ∷ c ∷ []) n h = absurd (h refl)
method_counts w at (a ∷ b ∷ c ∷ d ∷ ds) n h = refl

pub translator_counts : (ds : List Datum) → (length ds ≡ 4 → ⊥) → translator_form (map datum_of ds) ≡ None
translator_counts [] h = refl
translator_counts (a ∷ []) h = refl
translator_counts (a ∷ b ∷ []) h = refl
translator_counts (a ∷ b ∷ c ∷ []) h = refl
translator_counts (a ∷ b ∷ c ∷ d ∷ []) h = absurd (h refl)
translator_counts (a ∷ b ∷ c ∷ d ∷ e ∷ ds) h = refl
