-- Going over the commands of a text in their order.
use Rattle.std.proofs.Common.{◌≡◌, ℕ, suc, ◌+◌, ◌++◌, ◌<◌, List, [], ◌∷◌, length, drop, sym, ◌∙◌, ap, arith, Some, None, drop-cons}
use Rattle.std.specs.Prelude.{Option, slice_get, option_map, filter}
use Rattle.std.proofs.lemmas.List.{append_assoc}
use Rattle.std.proofs.lemmas.List.Elements.{filter-append}
use Rattle.std.proofs.lemmas.Option.{slice_get-map, slice_get_within, get_or_from_slice_get}
use Rattle.cl_table.specs.Names.{declared_at, declared_in}
use Rattle.cl_tables.specs.Accessible.{CommandPlaces, commands_of, stands_in}
use Rattle.cl_tables.specs.Groups.{Grouped, group_of, AddsTo}
use Rattle.cl_tables.specs.declared.declarations.CommandPlace.{CommandPlace}

drop-here : {X : Type 0} (xs : List X) (i : ℕ) (x : X) → slice_get xs i ≡ Some x → drop i xs ≡ x ∷ drop (i + 1) xs
drop-here xs i x h =
    let within : i < length xs = slice_get_within xs i x h in
    let next : suc i ≡ i + 1 = omega arith in
    drop-cons xs i x within ∙ (ap (λ y. y ∷ drop (suc i) xs) (get_or_from_slice_get xs i x x h) ∙ ap (λ n. x ∷ drop n xs) next)

declared : (entry : Option (List ℕ × CommandPlace)) (c : CommandPlace) → declared_in entry ≡ Some c → option_map (λ (e : List ℕ × CommandPlace). e.1) entry ≡ Some c
declared None c h = cc
declared (Some e) c h = h

-- the command in a place, and those behind it
pub commands_here : (places : CommandPlaces) (place : ℕ) (c : CommandPlace) → declared_at place places ≡ Some c
    → drop place (commands_of places) ≡ c ∷ drop (place + 1) (commands_of places)
commands_here places place c h =
    drop-here (commands_of places) place c (slice_get-map (λ (e : List ℕ × CommandPlace). e.1) places place ∙ declared (slice_get places place) c h)

-- one more command in its group
pub groups_go_on : (places : CommandPlaces) (place : ℕ) (c : CommandPlace) (old new : Grouped) → declared_at place places ≡ Some c → AddsTo c old new
    → ((table : List ℕ) → group_of table old ++ filter (stands_in table) (drop place (commands_of places)) ≡ filter (stands_in table) (commands_of places))
    → (table : List ℕ) → group_of table new ++ filter (stands_in table) (drop (place + 1) (commands_of places)) ≡ filter (stands_in table) (commands_of places)
groups_go_on places place c old new h adds so_far table =
    let rest : List CommandPlace = drop (place + 1) (commands_of places) in
    let kept : List CommandPlace → List CommandPlace = filter (stands_in table) in
    ap (λ xs. xs ++ kept rest) (adds table)
    ∙ append_assoc (group_of table old) (kept (c ∷ [])) (kept rest)
    ∙ ap (λ xs. group_of table old ++ xs) (sym (filter-append (stands_in table) (c ∷ []) rest) ∙ ap kept (sym (commands_here places place c h)))
    ∙ so_far table
