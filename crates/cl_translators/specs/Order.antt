-- The order in which translators are tried.
use Rattle.std.specs.Prelude.{ℕ, ◌/◌, ◌%◌, Bool, ◌&&◌, ◌==◌, List, [], ◌∷◌, map, filter}
use Rattle.std.specs.List.{flat_map}
use Rattle.std.specs.Str.{bytes_eq}
use Rattle.cl_translators.specs.declared.declarations.GestureName.{GestureName}
use Rattle.cl_translators.specs.declared.declarations.GestureName.TheVariants.{Select, Describe, Menu, Edit, Delete}
use Rattle.cl_translators.specs.declared.declarations.TranslatorPlace.{TranslatorPlace}

-- the translators of a text, by name
abbrev pub TranslatorPlaces : Type 0
TranslatorPlaces = List (List ℕ × TranslatorPlace)

-- in the order of the text
abbrev pub translators_of : TranslatorPlaces → List TranslatorPlace
translators_of places = map (λ e. e.1) places

-- the digits, the greatest first
abbrev pub digits : List ℕ
digits = 9 ∷ 8 ∷ 7 ∷ 6 ∷ 5 ∷ 4 ∷ 3 ∷ 2 ∷ 1 ∷ 0 ∷ []

-- a translator that stands in the table of this name
abbrev pub stands_in : List ℕ → TranslatorPlace → Bool
stands_in table t = bytes_eq t.table table

-- the low part of its priority
abbrev pub has_low : ℕ → TranslatorPlace → Bool
has_low low t = (t.priority % 10) == low

-- those of one low part, for each table of an order, in the order of the text
abbrev pub with_low : List (List ℕ) → List TranslatorPlace → ℕ → List TranslatorPlace
with_low order ts low = flat_map (λ table. filter (has_low low) (filter (stands_in table) ts)) order

-- the translators that stand in tables of an order: greater low part of the priority, then earlier table, then earlier place in the text
abbrev pub in_order : List (List ℕ) → List TranslatorPlace → List TranslatorPlace
in_order order ts = flat_map (with_low order ts) digits

-- ---- gestures and from-types

-- the number of a gesture, from 0
abbrev pub gesture_number : GestureName → ℕ
gesture_number Select = 0
gesture_number Describe = 1
gesture_number Menu = 2
gesture_number Edit = 3
gesture_number Delete = 4

-- whether a translator has the gesture of this number, and this high part of its priority
abbrev pub has_rank : (gesture high : ℕ) → TranslatorPlace → Bool
has_rank gesture high t = (gesture_number t.gesture == gesture) && ((t.priority / 10) == high)

-- the same, and a from-type of this name
abbrev pub is_for : GestureName → (from : List ℕ) → (high : ℕ) → TranslatorPlace → Bool
is_for gesture from high t = has_rank (gesture_number gesture) high t && bytes_eq t.from from
