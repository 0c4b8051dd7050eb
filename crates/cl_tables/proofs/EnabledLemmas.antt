-- Commands that are enabled.
use Rattle.std.proofs.Common.{◌≡◌, ◌+◌, ◌++◌, ◌<◌, ◌==◌, Bool, true, false, cond, ℕ, List, [], ◌∷◌, length, take, get_or, Option, Some, None, refl, sym, ap, ◌∙◌}
use Rattle.std.specs.Prelude.{All, option_map, if◌then◌else◌}
use Rattle.std.specs.Cmp.Lexicographic.{pointwise}
use Rattle.std.specs.Map.{lookup, set_value}
use Rattle.std.specs.Str.{bytes_eq}
use Rattle.std.proofs.lemmas.Cmp.{nat_list_eq_equiv}
use Rattle.std.proofs.lemmas.List.{take_more}
use Rattle.std.proofs.lemmas.List.Elements.{All-get_or}
use Rattle.std.proofs.lemmas.Option.{slice_get-get_or}
use Rattle.cl_table.specs.Names.{named, declared_at, declared_in}
use Rattle.cl_tables.specs.Accessible.{CommandPlaces}
use Rattle.cl_tables.specs.Enabled.{States, AreAllEnabled, Enables}
use Rattle.cl_tables.specs.declared.declarations.CommandPlace.{CommandPlace}
use Rattle.cl_tables.proofs.IndexLemmas.{first_of, named-last}

some-inj : {A : Type 0} (a b : A) → Some a ≡ Some b → a ≡ b
some-inj a b e = cc

one_more : (x : List ℕ) (y : List ℕ) (c : CommandPlace) (o : Option CommandPlace) (p : Option Bool) (b : Bool) → p ≡ option_map (λ d. true) o
    → (if b then Some true else p) ≡ option_map (λ (d : CommandPlace). true) (first_of o (cond b (Some c) None))
one_more x y c None p true e = refl
one_more x y c None p false e = e
one_more x y c (Some d) p true e = refl
one_more x y c (Some d) p false e = e

-- one more command of the text
pub enables_more : (places : CommandPlaces) (place : ℕ) (c : CommandPlace) (old new : States) → place < length places → All (λ e. e.0 ≡ e.1.name) places
    → declared_at place places ≡ Some c → Enables c.name old new → AreAllEnabled (take place places) old → AreAllEnabled (take (place + 1) places) new
enables_more places place c old new l owned here enables all x =
    let e : List ℕ × CommandPlace = get_or places place (c.name, c) in
    let is : e.1 ≡ c = some-inj e.1 c (sym (ap declared_in (slice_get-get_or places place (c.name, c) l)) ∙ here) in
    let own : e.0 ≡ c.name = All-get_or (λ (f : List ℕ × CommandPlace). f.0 ≡ f.1.name) places place (c.name, c) l owned ∙ ap (λ (d : CommandPlace). d.name) is in
    let last : take (place + 1) places ≡ take place places ++ e ∷ [] = take_more places place (c.name, c) l in
    enables x
    ∙ ap (λ b. if b then Some true else lookup (pointwise ◌==◌ x) old) (nat_list_eq_equiv.symm c.name x)
    ∙ one_more x c.name e.1 (named x (take place places)) (lookup (pointwise ◌==◌ x) old) (bytes_eq x c.name) (all x)
    ∙ ap (λ (y : List ℕ). option_map (λ (d : CommandPlace). true) (first_of (named x (take place places)) (cond (bytes_eq x y) (Some e.1) None))) (sym own)
    ∙ ap (option_map (λ (d : CommandPlace). true)) (sym (ap (named x) last ∙ named-last x e.0 e.1 (take place places)))

-- a switch of an unknown command changes nothing
set_by : (b : Bool) (t : List ℕ → Bool) (e : List ℕ × Bool) (es : States) (w : Bool) → cond b (Some e.1) (lookup t es) ≡ None
    → (lookup t es ≡ None → set_value t es w ≡ es) → cond b ((e.0, w) ∷ es) (e ∷ set_value t es w) ≡ e ∷ es
set_by true t e es w h rest = cc
set_by false t e es w h rest = ap (λ fs. e ∷ fs) (rest h)

pub set_value-absent : (t : List ℕ → Bool) (es : States) (w : Bool) → lookup t es ≡ None → set_value t es w ≡ es
set_value-absent t [] w h = refl
set_value-absent t (e ∷ es) w h = set_by (t e.0) t e es w h (λ k. set_value-absent t es w k)
