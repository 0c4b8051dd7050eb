-- A name that was met stands among the keys.
use Rattle.std.proofs.Common.{◌≡◌, ◌<◌, ◌+◌, ◌++◌, ◌==◌, ℕ, Bool, true, false, length, drop, get_or, List, [], ◌∷◌, Some, refl, sym, ap, ◌∙◌}
use Rattle.std.specs.Prelude.{is_some, if◌then◌else◌}
use Rattle.std.specs.List.{list_any}
use Rattle.std.specs.Map.{keys_of}
use Rattle.std.specs.Str.{bytes_eq}
use Rattle.std.specs.Cmp.Lexicographic.{pointwise}
use Rattle.std.proofs.lemmas.List.{drop_more, map_push}
use Rattle.std.proofs.lemmas.Map.Made.{is_some-lookup}
use Rattle.cl_table.specs.Names.{named}
use Rattle.cl_phases.specs.Repeats.{repeated, with_met}
use Rattle.cl_phases.specs.declared.repeats.Met.{Met}
use Rattle.cl_phases.specs.declared.repeats.NameAt.{NameAt}

met_before : (x : List ℕ) (es : List (List ℕ × Met)) → list_any (bytes_eq x) (keys_of es) ≡ is_some (named x es)
met_before x es = sym (is_some-lookup (pointwise ◌==◌ x) es)

-- the rest begins with this name
rest_begins : (names : List NameAt) (i : ℕ) (n : NameAt) → i < length names → n ≡ get_or names i n → drop i names ≡ n ∷ drop (i + 1) names
rest_begins names i n l e = drop_more names i n l ∙ ap (λ (m : NameAt). m ∷ drop (i + 1) names) (sym e)

taken : {A : Type 0} (b : Bool) (x y : A) → b ≡ true → (if b then x else y) ≡ x
taken true x y h = refl
taken false x y h = cc

passed : {A : Type 0} (b : Bool) (x y : A) → b ≡ false → (if b then x else y) ≡ y
passed true x y h = cc
passed false x y h = refl

-- the first name of the rest was met
pub repeated_here : (names : List NameAt) (i : ℕ) (n : NameAt) (met : List (List ℕ × Met)) → i < length names → n ≡ get_or names i n → is_some (named n.name met) ≡ true
    → repeated (keys_of met) (drop i names) ≡ Some n.at
repeated_here names i n met l e h =
    ap (repeated (keys_of met)) (rest_begins names i n l e)
    ∙ taken (list_any (bytes_eq n.name) (keys_of met)) (Some n.at) (repeated (keys_of met ++ n.name ∷ []) (drop (i + 1) names)) (met_before n.name met ∙ h)

-- it was not, and now it is
pub repeated_past : (names : List NameAt) (i : ℕ) (n : NameAt) (met : List (List ℕ × Met)) → i < length names → n ≡ get_or names i n → is_some (named n.name met) ≡ false
    → repeated (keys_of (with_met met n.name)) (drop (i + 1) names) ≡ repeated (keys_of met) (drop i names)
repeated_past names i n met l e h =
    ap (λ (ms : List (List ℕ × Met)). repeated (keys_of ms) (drop (i + 1) names)) (passed (is_some (named n.name met)) met (met ++ (n.name, record { name = n.name }) ∷ []) h)
    ∙ ap (λ (xs : List (List ℕ)). repeated xs (drop (i + 1) names)) (map_push (λ (a : List ℕ × Met). a.0) met (n.name, record { name = n.name }))
    ∙ sym (ap (repeated (keys_of met)) (rest_begins names i n l e)
    ∙ passed (list_any (bytes_eq n.name) (keys_of met)) (Some n.at) (repeated (keys_of met ++ n.name ∷ []) (drop (i + 1) names)) (met_before n.name met ∙ h))
