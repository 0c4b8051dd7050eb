-- Rings of user types and of command tables.
use Rattle.std.proofs.Common.{◌≡◌, ◌==◌, inl, inr, ℕ, if◌then◌else◌, [], ◌∷◌, refl, sym, ap, ◌∙◌, subst, min}
use Rattle.std.specs.Prelude.{Option, Some, None, Ok, Err}
use Rattle.cl_declare.specs.declared.declarations.Declarations.{Declarations}
use Rattle.cl_expressions.specs.Load.{Notes}
use Rattle.cl_forms.specs.declared.refusals.FormRefusal.TheVariants.{Refused}
use Rattle.cl_lattice.specs.Firsts.{StandsOnRing, offset_of}
use Rattle.cl_lattice.specs.World.{World}
use Rattle.cl_load.specs.Settling.{Builds, BuildsTypes}
use Rattle.cl_load.specs.Types.{Bounds, FindsRing, FindsTypeRing, declared_types}
use Rattle.cl_load.proofs.TypeLemmas.{list_once}
use Rattle.cl_phases.specs.Earlier.{earlier}
use Rattle.cl_tables.specs.Inheritance.{TableDecls}
use Rattle.cl_tables.specs.Rings.{HasNoRing, IsFirstOnRing}

-- ---- there is one first

table_once : (all ts : TableDecls) (r q : Option ℕ) → IsFirstOnRing all ts r → IsFirstOnRing all ts q → r ≡ q
table_once all [] None None x y = refl
table_once all [] None (Some n) x y = absurd y
table_once all [] (Some m) q x y = absurd x
table_once all (t ∷ ts) None None x y = refl
table_once all (t ∷ ts) None (Some n) x (inl y) = absurd (x.0 y.0)
table_once all (t ∷ ts) None (Some n) x (inr y) = table_once all ts None (Some n) x.1 y.1
table_once all (t ∷ ts) (Some m) None (inl x) y = absurd (y.0 x.0)
table_once all (t ∷ ts) (Some m) None (inr x) y = table_once all ts (Some m) None x.1 y.1
table_once all (t ∷ ts) (Some m) (Some n) (inl x) (inl y) = ap (λ (k : ℕ). Some k) (sym x.1 ∙ y.1)
table_once all (t ∷ ts) (Some m) (Some n) (inl x) (inr y) = absurd (y.0 x.0)
table_once all (t ∷ ts) (Some m) (Some n) (inr x) (inl y) = absurd (x.0 y.0)
table_once all (t ∷ ts) (Some m) (Some n) (inr x) (inr y) = table_once all ts (Some m) (Some n) x.1 y.1

pub ring_once : (bounds : Bounds) (s : Declarations) (r q : Option ℕ) → FindsRing bounds s r → FindsRing bounds s q → r ≡ q
ring_once bounds s r q x y =
    let user_type : x.user_type ≡ y.user_type =
    list_once (StandsOnRing (declared_types bounds s)) offset_of s.types x.user_type y.user_type x.type_found y.type_found in
    let table : x.table ≡ y.table = table_once s.tables s.tables x.table y.table x.table_found y.table_found in
    x.first ∙ ap (λ (o : Option ℕ). earlier o x.user_type) table ∙ ap (earlier y.table) user_type ∙ sym y.first

-- ---- by the rings that were found

both : (bounds : Bounds) (s : Declarations) (table user_type : Option ℕ) → IsFirstOnRing s.tables s.tables table → FindsTypeRing bounds s user_type
    → FindsRing bounds s (earlier table user_type)
both bounds s table user_type t u = record { user_type = user_type; type_found = u; table = table; table_found = t; first = refl }

-- no table is on a ring
pub built : (bounds : Bounds) (s : Declarations) (notes : Notes) (w : World) → IsFirstOnRing s.tables s.tables None → HasNoRing s.tables
    → BuildsTypes (Ok w) bounds s notes → Builds (Ok w) bounds s notes
built bounds s notes w t clear h = (h.0, both bounds s None None t h.1, h.2, h.3, clear)

pub refused : (bounds : Bounds) (s : Declarations) (notes : Notes) (number at : ℕ) → IsFirstOnRing s.tables s.tables None
    → BuildsTypes (Err (Refused number at)) bounds s notes → Builds (Err (Refused number at)) bounds s notes
refused bounds s notes number at t (inl h) = inl (h.0, both bounds s None (Some at) t h.1)
refused bounds s notes number at t (inr (inl h)) = inr (inl (h.0, both bounds s None None t h.1, h.2))
refused bounds s notes number at t (inr (inr h)) = inr (inr (h.0, both bounds s None None t h.1, h.2, h.3))

-- a table is on one
pub built_on_ring : (bounds : Bounds) (s : Declarations) (notes : Notes) (w : World) (at : ℕ) → IsFirstOnRing s.tables s.tables (Some at)
    → BuildsTypes (Ok w) bounds s notes → Builds (Err (Refused 9 at)) bounds s notes
built_on_ring bounds s notes w at t h = inl (refl, both bounds s (Some at) None t h.1)

pub refused_on_ring : (bounds : Bounds) (s : Declarations) (notes : Notes) (table_at number at first : ℕ) → IsFirstOnRing s.tables s.tables (Some table_at)
    → first ≡ (if number == 9 then min table_at at else table_at) → BuildsTypes (Err (Refused number at)) bounds s notes
    → Builds (Err (Refused 9 first)) bounds s notes
refused_on_ring bounds s notes table_at number at first t is (inl h) =
    let here : first ≡ min table_at at = rw (is, h.0) refl in
    inl (refl, subst (λ (n : ℕ). FindsRing bounds s (Some n)) (sym here) (both bounds s (Some table_at) (Some at) t h.1))
refused_on_ring bounds s notes table_at number at first t is (inr (inl h)) =
    let here : first ≡ table_at = rw (is, h.0) refl in
    inl (refl, subst (λ (n : ℕ). FindsRing bounds s (Some n)) (sym here) (both bounds s (Some table_at) None t h.1))
refused_on_ring bounds s notes table_at number at first t is (inr (inr h)) =
    let here : first ≡ table_at = rw (is, h.0) refl in
    inl (refl, subst (λ (n : ℕ). FindsRing bounds s (Some n)) (sym here) (both bounds s (Some table_at) None t h.1))
