-- Places by sites and ids, as the program keeps them.
use Rattle.std.proofs.Common.{◌≡◌, Bool, true, false, cond, if◌then◌else◌, List, ℕ, Option, Some, refl, ap, sym, ◌∙◌, arith}
use Rattle.std.proofs.lemmas.Bool.Decides.{nat_tests}
use Rattle.std.specs.Prelude.{◌&&◌}
use Rattle.std.specs.BTreeMap.{BTreeMap}
use Rattle.std.specs.Map.{lookup}
use Rattle.std.specs.Ordering.{is_eq, ordering_reverse}
use Rattle.std.specs.declared.cmp.Ordering.{Ordering}
use Rattle.std.specs.declared.cmp.Ordering.TheVariants.{Less, Equal, Greater}
use Rattle.cl_value.specs.Data.{Data, order_of}
use Rattle.cl_value.specs.OrderLaws.{order_total}
use Rattle.cl_value.specs.Value.{data_of}
use Rattle.cl_value.specs.declared.Value.{Value}
use Rattle.cl_syntax.specs.declared.sites.Site.{Site}
use Rattle.cl_record.specs.Heads.{HeadAt}
use Rattle.cl_damage.specs.Children.{is_same_name}
use Rattle.cl_damage.specs.Places.{placed_at, same_site, with_id, with_id_in}

eq-back : (o : Ordering) → is_eq (ordering_reverse o) ≡ is_eq o
eq-back Less = refl
eq-back Equal = refl
eq-back Greater = refl

same-back : (a b : Data) → is_eq (order_of a b) ≡ is_eq (order_of b a)
same-back a b = ap is_eq (order_total.antisymm a b) ∙ eq-back (order_of b a)

sites-back : (a b : Site) → same_site a b ≡ same_site b a
sites-back a b = grind (arith, nat_tests)

sites-same : (a b : Site) → same_site a b ≡ true → a ≡ b
sites-same a b h =
    let forms : a.form ≡ b.form = grind (arith, nat_tests) in
    let queries : a.query ≡ b.query = grind (arith, nat_tests) in
    λ i. record { form = forms i; query = queries i }

-- a place is put at its site and id: the places of its site are taken out, with it they are put in again
pub put-there : (site : Site) (key : Value) (place : ℕ) (h : HeadAt) (olds mids news : List (Site × BTreeMap Value ℕ)) (taken more : BTreeMap Value ℕ)
    → h.site ≡ site → data_of key ≡ h.id
    → ((id : Value) → with_id id taken ≡ placed_at site id olds)
    → ((other : Site) → same_site site other ≡ false → lookup (same_site other) mids ≡ lookup (same_site other) olds)
    → ((id : Value) → with_id id more ≡ cond (is_eq (order_of (data_of key) (data_of id))) (Some place) (with_id id taken))
    → ((other : Site) → lookup (same_site other) news ≡ cond (same_site site other) (Some more) (lookup (same_site other) mids))
    → (other : Site) (id : Value)
    → placed_at other id news ≡ (if is_same_name (other, data_of id) (h.site, h.id) then Some place else placed_at other id olds)
put-there site key place h olds mids news taken more e f took others ids sites other id = by_test (same_site site other) refl
  where
    there : same_site other h.site ≡ same_site site other
    there = ap (same_site other) e ∙ sites-back other site

    by_test : (b : Bool) → same_site site other ≡ b
        → placed_at other id news ≡ (if is_same_name (other, data_of id) (h.site, h.id) then Some place else placed_at other id olds)
    by_test true p =
        let is_site : site ≡ other = sites-same site other p in
        let test : is_same_name (other, data_of id) (h.site, h.id) ≡ is_eq (order_of (data_of key) (data_of id)) =
        ap (λ (b : Bool). b && is_eq (order_of (data_of id) h.id)) (there ∙ p)
        ∙ (ap (λ (d : Data). is_eq (order_of (data_of id) d)) (sym f) ∙ same-back (data_of id) (data_of key)) in
        ap (with_id_in id) (sites other ∙ ap (λ (b : Bool). cond b (Some more) (lookup (same_site other) mids)) p)
        ∙ (ids id
        ∙ (ap (λ (o : Option ℕ). cond (is_eq (order_of (data_of key) (data_of id))) (Some place) o) (took id ∙ ap (λ (s : Site). placed_at s id olds) is_site)
        ∙ ap (λ (b : Bool). cond b (Some place) (placed_at other id olds)) (sym test)))
    by_test false p =
        ap (with_id_in id) (sites other ∙ ap (λ (b : Bool). cond b (Some more) (lookup (same_site other) mids)) p ∙ others other p)
        ∙ ap (λ (b : Bool). cond (b && is_eq (order_of (data_of id) h.id)) (Some place) (placed_at other id olds)) (sym (there ∙ p))
