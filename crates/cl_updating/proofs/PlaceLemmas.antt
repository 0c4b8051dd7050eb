-- Updates by their sites and ids, as the program keeps them.
use Rattle.std.proofs.Common.{◌≡◌, Bool, true, false, cond, if◌then◌else◌, List, [], ◌∷◌, ◌++◌, map, Option, Some, None, refl, ap, sym, ◌∙◌, subst, arith}
use Rattle.std.proofs.lemmas.List.{map-append}
use Rattle.std.proofs.lemmas.Bool.Decides.{nat_tests}
use Rattle.std.specs.Prelude.{IfSome, ◌&&◌, is_none, option_map}
use Rattle.std.specs.BTreeMap.{BTreeMap}
use Rattle.std.specs.Map.{lookup}
use Rattle.std.specs.Ordering.{is_eq, ordering_reverse}
use Rattle.std.specs.declared.cmp.Ordering.{Ordering}
use Rattle.std.specs.declared.cmp.Ordering.TheVariants.{Less, Equal, Greater}
use Rattle.cl_value.specs.Data.{Data, order_of}
use Rattle.cl_value.specs.OrderLaws.{order_total}
use Rattle.cl_value.specs.Value.{data_of}
use Rattle.cl_value.specs.declared.Value.{Value}
use Rattle.cl_region.specs.declared.rects.Shift.{Shift}
use Rattle.cl_syntax.specs.declared.sites.Site.{Site}
use Rattle.cl_medium.specs.Items.{Item, item_bounds, move_item}
use Rattle.cl_record.specs.Boxes.{extent_box}
use Rattle.cl_record.specs.Heads.{HeadAt}
use Rattle.cl_record.specs.Marks.{marks_of_all}
use Rattle.cl_record.specs.Ranges.{ArePlaced}
use Rattle.cl_record.specs.Trees.{Trees}
use Rattle.cl_display.specs.Siblings.{same_site}
use Rattle.cl_reuse.specs.Kept.{OldUpdate, is_that, or_then}
use Rattle.cl_updating.specs.Gathers.{UpdateIn, first_of, old_in, update_of, updates_of}
use Rattle.cl_updating.specs.Levels.{old_of}
use Rattle.cl_updating.specs.Places.{AreOf, StandsInRange, placed_at, with_id, with_id_in}
use Rattle.cl_updating.specs.declared.levels.Met.{Met}
use Rattle.cl_updating.specs.declared.levels.Old.{Old}
use Rattle.cl_updating.proofs.FoundLemmas.{first-append, found-first, found-in-range, found-nothing}

-- ---- tests

eq-back : (o : Ordering) → is_eq (ordering_reverse o) ≡ is_eq o
eq-back Less = refl
eq-back Equal = refl
eq-back Greater = refl

same-back : (a b : Data) → is_eq (order_of a b) ≡ is_eq (order_of b a)
same-back a b = ap is_eq (order_total.antisymm a b) ∙ eq-back (order_of b a)

sites-back : (a b : Site) → same_site a b ≡ same_site b a
sites-back a b = grind (arith, nat_tests)

sites-same : (a b : Site) → same_site a b ≡ true → a ≡ b
sites-same a b h =
    let forms : a.form ≡ b.form = grind (arith, nat_tests) in
    let queries : a.query ≡ b.query = grind (arith, nat_tests) in
    λ i. record { form = forms i; query = queries i }

-- ---- one update more

-- an update is put at its site and id: the updates of its site are taken out, with it they are put in again
pub put-there : (site : Site) (key : Value) (u : Old) (h : HeadAt) (olds mids news : List (Site × BTreeMap Value Old)) (taken more : BTreeMap Value Old)
    → h.site ≡ site → data_of key ≡ h.id
    → ((id : Value) → with_id id taken ≡ placed_at site id olds)
    → ((other : Site) → same_site site other ≡ false → lookup (same_site other) mids ≡ lookup (same_site other) olds)
    → ((id : Value) → with_id id more ≡ cond (is_eq (order_of (data_of key) (data_of id))) (Some u) (with_id id taken))
    → ((other : Site) → lookup (same_site other) news ≡ cond (same_site site other) (Some more) (lookup (same_site other) mids))
    → (other : Site) (id : Value) → placed_at other id news ≡ (if is_that other (data_of id) h then Some u else placed_at other id olds)
put-there site key u h olds mids news taken more e f took others ids sites other id = by_test (same_site site other) refl
  where
    there : same_site other h.site ≡ same_site site other
    there = ap (same_site other) e ∙ sites-back other site

    by_test : (b : Bool) → same_site site other ≡ b → placed_at other id news ≡ (if is_that other (data_of id) h then Some u else placed_at other id olds)
    by_test true p =
        let is_site : site ≡ other = sites-same site other p in
        let test : is_that other (data_of id) h ≡ is_eq (order_of (data_of key) (data_of id)) =
        ap (λ (b : Bool). b && is_eq (order_of (data_of id) h.id)) (there ∙ p)
        ∙ (ap (λ (d : Data). is_eq (order_of (data_of id) d)) (sym f) ∙ same-back (data_of id) (data_of key)) in
        ap (with_id_in id) (sites other ∙ ap (λ (b : Bool). cond b (Some more) (lookup (same_site other) mids)) p)
        ∙ (ids id
        ∙ (ap (λ (o : Option Old). cond (is_eq (order_of (data_of key) (data_of id))) (Some u) o) (took id ∙ ap (λ (s : Site). placed_at s id olds) is_site)
        ∙ ap (λ (b : Bool). cond b (Some u) (placed_at other id olds)) (sym test)))
    by_test false p =
        ap (with_id_in id) (sites other ∙ ap (λ (b : Bool). cond b (Some more) (lookup (same_site other) mids)) p ∙ others other p)
        ∙ ap (λ (b : Bool). cond (b && is_eq (order_of (data_of id) h.id)) (Some u) (placed_at other id olds)) (sym (there ∙ p))

-- ---- what is found

-- what is found stands in the range where what it is seen as does
pub seen-in-range : (r : Option Old) (o : Option OldUpdate) → option_map old_of r ≡ o → IfSome o StandsInRange → IfSome r (λ u. StandsInRange (old_of u))
seen-in-range None o e h = tt
seen-in-range (Some u) o e h = subst (λ (p : Option OldUpdate). IfSome p StandsInRange) (sym e) h

-- ---- a walk from the last update to the first one

or-assoc : (o p q : Option OldUpdate) → or_then (or_then o p) q ≡ or_then o (or_then p q)
or-assoc None p q = refl
or-assoc (Some u) p q = refl

last-first : (b : Bool) (m : Met Item) (o : Option Old)
    → option_map old_of (if b then Some (record { place = m.place; piece = m.piece }) else o)
    ≡ or_then (if b then Some (old_in (update_of m)) else None) (option_map old_of o)
last-first true m o = refl
last-first false m o = refl

-- the last one of some updates is put before those behind them
pub put-last : (site : Site) (id : Data) (before : List (Met Item)) (last : Met Item) (o n : Option Old) (all : Option OldUpdate)
    → or_then (first_of site id (map update_of (before ++ last ∷ []))) (option_map old_of o) ≡ all
    → n ≡ (if is_that site id last.piece.now.head then Some (record { place = last.place; piece = last.piece }) else o)
    → or_then (first_of site id (map update_of before)) (option_map old_of n) ≡ all
put-last site id before last o n all e f =
    let first = first_of site id (map update_of before) in
    ap (λ (p : Option Old). or_then first (option_map old_of p)) f
    ∙ (ap (or_then first) (last-first (is_that site id last.piece.now.head) last o)
    ∙ (sym (or-assoc first (first_of site id (map update_of (last ∷ []))) (option_map old_of o))
    ∙ (sym (ap (λ (us : List (UpdateIn Item)). or_then (first_of site id us) (option_map old_of o)) (map-append update_of before (last ∷ []))
    ∙ ap (λ (p : Option OldUpdate). or_then p (option_map old_of o)) (first-append site id (map update_of before) (map update_of (last ∷ []))))
    ∙ e)))

-- ---- whole levels

-- where there is neither an item nor an update, no update is at any site
pub none-there : (at : Shift) (ts : Trees Item) (sites : List (Site × BTreeMap Value Old)) → is_none (extent_box item_bounds (marks_of_all move_item ts)) ≡ true
    → sites ≡ [] → AreOf at ts sites
none-there at ts sites bare e = record {
  finds = λ site id. ap (λ (es : List (Site × BTreeMap Value Old)). option_map old_of (placed_at site id es)) e ∙ sym (found-nothing site (data_of id) at ts bare);
  range = λ site id. subst (λ (p : Option OldUpdate). IfSome p StandsInRange) (sym (found-nothing site id at ts bare)) tt;
}

-- the updates that were met, the first ones at their sites and ids
pub all-there : (at : Shift) (ts : Trees Item) (met : List (UpdateIn Item)) (sites : List (Site × BTreeMap Value Old)) → ArePlaced item_bounds move_item at ts
    → met ≡ updates_of at ts → ((site : Site) (id : Value) → option_map old_of (placed_at site id sites) ≡ first_of site (data_of id) met) → AreOf at ts sites
all-there at ts met sites placed e finds = record {
  finds = λ site id. finds site id ∙ (ap (first_of site (data_of id)) e ∙ sym (found-first site (data_of id) at ts));
  range = λ site id. found-in-range site id at ts placed;
}
