-- What a lattice that is built, or refused, says of the types that are declared.
use Rattle.std.proofs.Common.{◌≡◌, ◌+◌, ◌++◌, take, inl, inr, ℕ, zero, suc, ℤ, true, false, drop, List, [], ◌∷◌, refl, sym, ap, ◌∙◌, subst, arith}
use Rattle.std.specs.Prelude.{All, not, is_some, if◌then◌else◌, Option, Some, None, Result, Ok, Err}
use Rattle.std.proofs.lemmas.List.Elements.{All-head, All-tail}
use Rattle.cl_table.specs.Names.{declared_at}
use Rattle.cl_syntax.specs.StandardTypes.{standard_named}
use Rattle.cl_syntax.specs.declared.type_decls.CommandType.{CommandType}
use Rattle.cl_syntax.specs.declared.type_decls.HostBound.{HostBound}
use Rattle.cl_syntax.specs.declared.type_decls.PlacedSpec.{PlacedSpec}
use Rattle.cl_syntax.specs.declared.type_decls.TypeDecl.{TypeDecl}
use Rattle.cl_syntax.specs.declared.type_names.StandardType.{StandardType}
use Rattle.cl_syntax.specs.TypeSpecTree.{TypeSpecTree}
use Rattle.cl_application.specs.declared.declarations.ArgumentDecl.{ArgumentDecl}
use Rattle.cl_application.specs.declared.declarations.HostDecl.{HostDecl}
use Rattle.cl_expressions.specs.Load.{Notes}
use Rattle.cl_forms.specs.declared.refusals.FormRefusal.{FormRefusal}
use Rattle.cl_forms.specs.declared.refusals.FormRefusal.TheVariants.{Refused, Memory}
use Rattle.cl_declare.specs.declared.declarations.Declarations.{Declarations}
use Rattle.cl_lattice.specs.Building.{NoRing}
use Rattle.cl_lattice.specs.Firsts.{IsFirst, IsFirstLarge, InheritsTooMuch, IsTooLarge, StandsOnRing, is_past, offset_of}
use Rattle.cl_lattice.specs.Laws.{AllFit}
use Rattle.cl_lattice.specs.Sizes.{fits, inherited_by}
use Rattle.cl_lattice.specs.World.{World, kind_named, world_with}
use Rattle.cl_lattice.specs.declared.declared_types.TypeKind.{TypeKind}
use Rattle.cl_lattice.specs.declared.declared_types.TypeKind.TheVariants as kind
use Rattle.cl_arguments.specs.Misfits.{IsMisfit}
use Rattle.cl_load.specs.Settling.{BuildsTypes, Fits}
use Rattle.cl_load.specs.Types.{Bounds, FindsLarge, FindsMisfit, argument_types, bound_with, command_types, declared_types, first_missing, host_bound, host_bounds}

-- ---- there is one first

module _ {A : Type 0} where
  pub list_once : (P : A → Type 0) (at : A → ℕ) (all : List A) (r q : Option ℕ) → IsFirst P at all r → IsFirst P at all q → r ≡ q
  list_once P at [] None None x y = refl
  list_once P at [] None (Some n) x y = absurd y
  list_once P at [] (Some m) q x y = absurd x
  list_once P at (a ∷ all) None None x y = refl
  list_once P at (a ∷ all) None (Some n) x (inl y) = absurd (x.0 y.0)
  list_once P at (a ∷ all) None (Some n) x (inr y) = list_once P at all None (Some n) x.1 y.1
  list_once P at (a ∷ all) (Some m) None (inl x) y = absurd (y.0 x.0)
  list_once P at (a ∷ all) (Some m) None (inr x) y = list_once P at all (Some m) None x.1 y.1
  list_once P at (a ∷ all) (Some m) (Some n) (inl x) (inl y) = ap (λ (k : ℕ). Some k) (sym x.1 ∙ y.1)
  list_once P at (a ∷ all) (Some m) (Some n) (inl x) (inr y) = absurd (y.0 x.0)
  list_once P at (a ∷ all) (Some m) (Some n) (inr x) (inl y) = absurd (x.0 y.0)
  list_once P at (a ∷ all) (Some m) (Some n) (inr x) (inr y) = list_once P at all (Some m) (Some n) x.1 y.1

  not_first : (P : A → Type 0) (at : A → ℕ) (all : List A) (n : ℕ) → IsFirst P at all (Some n) → IsFirst P at all None → ⊥
  not_first P at all n x y =
      let same : ◌≡◌ {A = Option ℕ} (Some n) None = list_once P at all (Some n) None x y in
      cc

abbrev at_of : PlacedSpec → ℕ
at_of p = p.at

pub misfit_once : (s : Declarations) (notes : Notes) (r q : Option ℕ) → FindsMisfit s notes r → FindsMisfit s notes q → r ≡ q
misfit_once s notes r q x y = list_once (IsMisfit s.types) at_of notes.specifiers r q x y

first_large_once : (w : World) (specs : List PlacedSpec) (types : List (List ℕ × TypeDecl)) (r q : Option ℕ) → IsFirstLarge w specs types r → IsFirstLarge w specs types q → r ≡ q
first_large_once w specs types None None x y = refl
first_large_once w specs types None (Some n) x (inl y) = absurd (not_first (IsTooLarge w) at_of specs n y x.0)
first_large_once w specs types None (Some n) x (inr y) = list_once (InheritsTooMuch w) offset_of types None (Some n) x.1 y.1
first_large_once w specs types (Some m) None (inl x) y = absurd (not_first (IsTooLarge w) at_of specs m x y.0)
first_large_once w specs types (Some m) None (inr x) y = list_once (InheritsTooMuch w) offset_of types (Some m) None x.1 y.1
first_large_once w specs types (Some m) (Some n) (inl x) (inl y) = list_once (IsTooLarge w) at_of specs (Some m) (Some n) x y
first_large_once w specs types (Some m) (Some n) (inl x) (inr y) = absurd (not_first (IsTooLarge w) at_of specs m x y.0)
first_large_once w specs types (Some m) (Some n) (inr x) (inl y) = absurd (not_first (IsTooLarge w) at_of specs n y x.0)
first_large_once w specs types (Some m) (Some n) (inr x) (inr y) = list_once (InheritsTooMuch w) offset_of types (Some m) (Some n) x.1 y.1

pub large_once : (bounds : Bounds) (s : Declarations) (notes : Notes) (r q : Option ℕ) → FindsLarge bounds s notes r → FindsLarge bounds s notes q → r ≡ q
large_once bounds s notes r q x y = first_large_once (declared_types bounds s) notes.specifiers s.types r q x y

-- ---- in a lattice none is found

pub none_on_ring : (w : World) (types : List (List ℕ × TypeDecl)) → NoRing w → IsFirst (StandsOnRing w) offset_of types None
none_on_ring w [] ringless = tt
none_on_ring w (e ∷ types) ringless = (ringless e.1.name, none_on_ring w types ringless)

none_large : (w : World) (specs : List PlacedSpec) → All (λ p. fits w p.spec ≡ true) specs → IsFirst (IsTooLarge w) at_of specs None
none_large w [] fit = tt
none_large w (p ∷ specs) fit =
    let here : fits w p.spec ≡ true = All-head (λ p. fits w p.spec ≡ true) p specs fit in
    ((λ large. cc), none_large w specs (All-tail (λ p. fits w p.spec ≡ true) p specs fit))

inherits_little : (w : World) (x : List ℕ) (t : Option StandardType) (k : Option TypeKind) → AllFit w → standard_named x ≡ t → kind_named x w ≡ k
    → is_past w (inherited_by t k) ≡ true → ⊥
inherits_little w x (Some t) k all own declared past = cc
inherits_little w x None None all own declared past = cc
inherits_little w x None (Some kind.Record) all own declared past = cc
inherits_little w x None (Some (kind.Host low high)) all own declared past = cc
inherits_little w x None (Some (kind.User u)) all own declared past =
    let fit : fits w u.inherit_from ≡ true = all.fits_each x u (record { own = own; declared = declared }) in
    let not_fit : not (fits w u.inherit_from) ≡ false = ap not fit in
    cc

none_inherits : (w : World) (types : List (List ℕ × TypeDecl)) → AllFit w → IsFirst (InheritsTooMuch w) offset_of types None
none_inherits w [] all = tt
none_inherits w (e ∷ types) all =
    (inherits_little w e.1.name (standard_named e.1.name) (kind_named e.1.name w) all refl refl, none_inherits w types all)

pub all_small : (w : World) (specs : List PlacedSpec) (types : List (List ℕ × TypeDecl)) → All (λ p. fits w p.spec ≡ true) specs → AllFit w → IsFirstLarge w specs types None
all_small w specs types fit all = (none_large w specs fit, none_inherits w types all)

-- a host type keeps its name
pub bound_name : (bounds : Bounds) (h : HostDecl) → (host_bound bounds h).name ≡ h.name
bound_name bounds h = by (bounds h.name)
  where
    by : (b : Option (ℤ × ℤ)) → (bound_with h b).name ≡ h.name
    by None = refl
    by (Some b) = refl

-- ---- what building answers

-- the world of the declarations, by the tables that are made of them
pub world_is : (bounds : Bounds) (s : Declarations) (hosts : List (List ℕ × HostBound)) (commands : List (List ℕ × CommandType)) → hosts ≡ host_bounds bounds s.hosts
    → commands ≡ command_types s.commands → world_with s.records s.types hosts commands ≡ declared_types bounds s
world_is bounds s hosts commands bounded typed = rw (typed, bounded) refl

types_fit : (bounds : Bounds) (s : Declarations) (notes : Notes) (w v : World) → v ≡ declared_types bounds s → w ≡ v → NoRing w
    → All (λ p. fits w p.spec ≡ true) notes.specifiers → AllFit w → FindsMisfit s notes None → BuildsTypes (Ok w) bounds s notes
types_fit bounds s notes w v world same ringless fit all free =
    let is : w ≡ declared_types bounds s = same ∙ world in (
      is,
      subst (λ (u : World). IsFirst (StandsOnRing u) offset_of s.types None) is (none_on_ring w s.types ringless),
      free,
      subst (λ (u : World). IsFirstLarge u notes.specifiers s.types None) is (all_small w notes.specifiers s.types fit all),
    )

-- a lattice that was built, by the misfit that was found
pub types_built : (r : Result World FormRefusal) (bounds : Bounds) (s : Declarations) (notes : Notes) (w v : World) (misfit : Option ℕ) → v ≡ declared_types bounds s
    → w ≡ v → NoRing w → All (λ p. fits w p.spec ≡ true) notes.specifiers → FindsMisfit s notes misfit → Fits r w misfit → BuildsTypes r bounds s notes
types_built (Ok u) bounds s notes w v misfit world same ringless fit found h =
    let all : AllFit w = subst AllFit h.0 h.1 in
    subst (λ (x : World). BuildsTypes (Ok x) bounds s notes) (sym h.0)
    (types_fit bounds s notes w v world same ringless fit all (subst (FindsMisfit s notes) h.2 found))
types_built (Err (Refused number at)) bounds s notes w v misfit world same ringless fit found h =
    let is : w ≡ declared_types bounds s = same ∙ world in
    inr (inl (
      h.0,
      subst (λ (u : World). IsFirst (StandsOnRing u) offset_of s.types None) is (none_on_ring w s.types ringless),
      subst (FindsMisfit s notes) h.1 found,
    ))
types_built (Err Memory) bounds s notes w v misfit world same ringless fit found h = absurd h

pub types_ring : (bounds : Bounds) (s : Declarations) (notes : Notes) (at : ℕ) (v : World) → v ≡ declared_types bounds s → IsFirst (StandsOnRing v) offset_of s.types (Some at)
    → BuildsTypes (Err (Refused 9 at)) bounds s notes
types_ring bounds s notes at v world first = inl (refl, subst (λ (u : World). IsFirst (StandsOnRing u) offset_of s.types (Some at)) world first)

pub types_misfit : (bounds : Bounds) (s : Declarations) (notes : Notes) (at : ℕ) (v : World) → v ≡ declared_types bounds s → NoRing v → FindsMisfit s notes (Some at)
    → BuildsTypes (Err (Refused 6 at)) bounds s notes
types_misfit bounds s notes at v world ringless found =
    inr (inl (refl, subst (λ (u : World). IsFirst (StandsOnRing u) offset_of s.types None) world (none_on_ring v s.types ringless), found))

pub types_large : (bounds : Bounds) (s : Declarations) (notes : Notes) (at : ℕ) (v : World) → v ≡ declared_types bounds s → NoRing v → FindsMisfit s notes None
    → IsFirstLarge v notes.specifiers s.types (Some at) → BuildsTypes (Err (Refused 13 at)) bounds s notes
types_large bounds s notes at v world ringless free first =
    inr (inr (
      refl,
      subst (λ (u : World). IsFirst (StandsOnRing u) offset_of s.types None) world (none_on_ring v s.types ringless),
      free,
      subst (λ (u : World). IsFirstLarge u notes.specifiers s.types (Some at)) world first,
    ))

-- ---- host types of which there are none

-- what is missing from a place on
pub missing_next : (bounds : Bounds) (hosts : List (List ℕ × HostDecl)) (i : ℕ) (d : HostDecl) → Some d ≡ declared_at i hosts
    → first_missing bounds (drop i hosts) ≡ (if is_some (bounds d.name) then first_missing bounds (drop (suc i) hosts) else Some d.at)
missing_next bounds [] zero d h = cc
missing_next bounds [] (suc i) d h = cc
missing_next bounds (e ∷ hosts) zero d h = grind arith
missing_next bounds (e ∷ hosts) (suc i) d h = missing_next bounds hosts i d h

-- there is one at this place
pub missing_on : (bounds : Bounds) (hosts : List (List ℕ × HostDecl)) (i : ℕ) (d : HostDecl) → Some d ≡ declared_at i hosts
    → first_missing bounds (drop i hosts) ≡ first_missing bounds hosts → is_some (bounds d.name) ≡ true → first_missing bounds (drop (i + 1) hosts) ≡ first_missing bounds hosts
missing_on bounds hosts i d h same there =
    let one : first_missing bounds (drop i hosts) ≡ first_missing bounds (drop (suc i) hosts) =
    missing_next bounds hosts i d h ∙ ap (λ b. if b then first_missing bounds (drop (suc i) hosts) else Some d.at) there in
    let next : i + 1 ≡ suc i = omega arith in
    rw next (sym one ∙ same)

-- there is none at this place
pub missing_here : (bounds : Bounds) (hosts : List (List ℕ × HostDecl)) (i : ℕ) (d : HostDecl) → Some d ≡ declared_at i hosts
    → first_missing bounds (drop i hosts) ≡ first_missing bounds hosts → is_some (bounds d.name) ≡ false → Some d.at ≡ first_missing bounds hosts
missing_here bounds hosts i d h same gone =
    let one : first_missing bounds (drop i hosts) ≡ Some d.at =
    missing_next bounds hosts i d h ∙ ap (λ b. if b then first_missing bounds (drop (suc i) hosts) else Some d.at) gone in
    sym one ∙ same

-- ---- the types of arguments

-- of one argument more
pub types_more : (t : List (List ℕ × ArgumentDecl)) (i : ℕ) (d : ArgumentDecl) → Some d ≡ declared_at i t
    → argument_types (take (suc i) t) ≡ argument_types (take i t) ++ d.spec ∷ []
types_more [] zero d h = cc
types_more [] (suc i) d h = cc
types_more (a ∷ t) zero d h = grind arith
types_more (a ∷ t) (suc i) d h = ap (λ (ts : List TypeSpecTree). a.1.spec ∷ ts) (types_more t i d h)
