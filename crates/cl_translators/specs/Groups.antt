-- Translators by the name of a table or of a from-type, and groups by gesture and high part of the priority.
use Rattle.std.specs.Prelude.{◌≡◌, ℕ, ◌/◌, ◌%◌, Bool, ◌&&◌, ◌==◌, if◌then◌else◌, List, [], ◌∷◌, ◌++◌, length, slice_get, Option, Some, None, Vec, filter}
use Rattle.std.specs.Cmp.Lexicographic.{pointwise}
use Rattle.std.specs.List.{flat_map}
use Rattle.std.specs.Map.{lookup}
use Rattle.std.specs.Str.{bytes_eq}
use Rattle.std.specs.declared.alloc.Global.{Global}
use Rattle.cl_translators.specs.Order.{has_low, has_rank, stands_in}
use Rattle.cl_translators.specs.declared.declarations.TranslatorPlace.{TranslatorPlace}

-- translators by a name
abbrev pub Grouped : Type 0
Grouped = List (List ℕ × Vec TranslatorPlace Global)

-- the translators of a group, if there is one
abbrev pub translators_there : Option (Vec TranslatorPlace Global) → List TranslatorPlace
translators_there None = []
translators_there (Some v) = v.items

-- those under a name
abbrev pub group_of : List ℕ → Grouped → List TranslatorPlace
group_of x groups = translators_there (lookup (pointwise ◌==◌ x) groups)

-- one more translator stands under a name, behind the others there
abbrev pub AddsUnder : List ℕ → TranslatorPlace → Grouped → Grouped → Type 0
AddsUnder key t old new = (x : List ℕ) → group_of x new ≡ group_of x old ++ (if bytes_eq key x then t ∷ [] else [])

-- those of one low part, under the name of each table of an order
abbrev pub low_in : Grouped → List (List ℕ) → ℕ → List TranslatorPlace
low_in groups order low = flat_map (λ table. filter (has_low low) (group_of table groups)) order

-- under the name of each table stand the translators in it
abbrev pub AreByTable : List TranslatorPlace → Grouped → Type 0
AreByTable ts groups = (table : List ℕ) → group_of table groups ≡ filter (stands_in table) ts

-- ---- slots: one for each gesture and high part of the priority

-- a translator that has the gesture and the high part of a slot
abbrev pub is_in_slot : ℕ → TranslatorPlace → Bool
is_in_slot slot t = has_rank (slot / 10) (slot % 10) t

-- a translator of a slot that has a from-type of this name
abbrev pub is_from : ℕ → List ℕ → TranslatorPlace → Bool
is_from slot from t = is_in_slot slot t && bytes_eq t.from from

-- under the name of each from-type stand the translators of the slot that have it
abbrev pub IsSlot : List TranslatorPlace → ℕ → Grouped → Type 0
IsSlot ts slot groups = (from : List ℕ) → group_of from groups ≡ filter (is_from slot from) ts

-- there are fifty slots
pub record AreSlots (ts : List TranslatorPlace) (slots : List Grouped) : Type 0 where
  pub count : length slots ≡ 50
  pub each : (slot : ℕ) (groups : Grouped) → slice_get slots slot ≡ Some groups → IsSlot ts slot groups
