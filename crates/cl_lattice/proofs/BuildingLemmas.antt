-- What is found of declarations is so of their lattice.
use Rattle.std.proofs.Common.{◌≡◌, ◌++◌, ◌==◌, ℕ, zero, suc, Bool, true, false, List, [], ◌∷◌, Option, Some, None, map, refl, sym, ap, ◌∙◌, subst}
use Rattle.std.specs.Prelude.{All, if◌then◌else◌, not}
use Rattle.std.specs.Cmp.Lexicographic.{pointwise}
use Rattle.std.proofs.lemmas.List.Elements.{All-nil, All-cons, All-head, All-tail, All-weaker}
use Rattle.cl_syntax.specs.TypeSpecTree.{TypeSpecTree, specifier}
use Rattle.cl_syntax.specs.StandardTypes.{standard_named}
use Rattle.cl_syntax.specs.declared.type_decls.CommandType.{CommandType}
use Rattle.cl_syntax.specs.declared.type_decls.PlacedSpec.{PlacedSpec}
use Rattle.cl_syntax.specs.declared.type_decls.TypeDecls.{TypeDecls}
use Rattle.cl_table.specs.Names.{named, with_first}
use Rattle.cl_lattice.specs.Building.{IsLatticeOf, IsSound, NoRing}
use Rattle.cl_lattice.specs.Firsts.{IsFirst, InheritsTooMuch, IsTooLarge, StandsOnRing, is_past, offset_of}
use Rattle.cl_lattice.specs.Laws.{AllFit, IsLattice}
use Rattle.cl_lattice.specs.Listing.{IsListed, Lists}
use Rattle.cl_lattice.specs.Precedence.{precedence, precedence_by, precedence_within}
use Rattle.cl_lattice.specs.RingSearch.{has, inherited}
use Rattle.cl_lattice.specs.Rings.{IsOnRing, IsUserType, Mentions, mentions, Reaches, directly, through}
use Rattle.cl_lattice.specs.Sizes.{both, fits, inherited_by, inherited_size, is_small, most_depth, nodes_within, sized_args}
use Rattle.cl_lattice.specs.World.{World, host_entry, kind_in, record_entry, user_entry, with_all, world_of}
use Rattle.cl_lattice.specs.declared.declared_types.DeclaredType.{DeclaredType}
use Rattle.cl_lattice.specs.declared.declared_types.TypeKind.TheVariants as kind
use Rattle.cl_lattice.specs.declared.declared_types.UserType.{UserType}
use Rattle.cl_lattice.proofs.BuildingEntries.{either, named_last}
use Rattle.cl_lattice.proofs.RingEntries.{same_name}
use Rattle.cl_lattice.proofs.RingParts.{inherited_is}

-- ---- where none is first, none has the property

module _ {A : Type 0} where
  none_first : (P : A → Type 0) (at : A → ℕ) (all : List A) → IsFirst P at all None → All (λ a. P a → ⊥) all
  none_first P at [] h = All-nil (λ a. P a → ⊥)
  none_first P at (a ∷ all) h = All-cons (λ a. P a → ⊥) a all h.0 (none_first P at all h.1)

module _ {A B : Type 0} where
  all_map : (P : A → Type 0) (Q : B → Type 0) (f : A → B) → ((a : A) → P a → Q (f a)) → (all : List A) → All P all → All Q (map f all)
  all_map P Q f more [] h = All-nil Q
  all_map P Q f more (a ∷ all) h = All-cons Q (f a) (map f all) (more a (All-head P a all h)) (all_map P Q f more all (All-tail P a all h))

  all_of : (Q : B → Type 0) (f : A → B) → ((a : A) → Q (f a)) → (all : List A) → All Q (map f all)
  all_of Q f each [] = All-nil Q
  all_of Q f each (a ∷ all) = All-cons Q (f a) (map f all) (each a) (all_of Q f each all)

-- ---- what a name of the world stands for was declared

abbrev pub Table : Type 0
Table = List (List ℕ × DeclaredType)

by_entry : (x : List ℕ) (Q : DeclaredType → Type 0) (v d : DeclaredType) (o : Option DeclaredType) (b : Bool) → pointwise ◌==◌ x v.name ≡ b → (x ≡ v.name → Q v)
    → (o ≡ Some d → Q d) → either o (if b then Some v else None) ≡ Some d → Q d
by_entry x Q v d (Some t) b e new old h = old h
by_entry x Q v d None true e new old h =
    let same : v ≡ d = cc in
    subst Q same (new (same_name x v.name e))
by_entry x Q v d None false e new old h = cc

first_found : (b : Bool) (x : List ℕ) (Q : DeclaredType → Type 0) (v : DeclaredType) (t : Table) → (x ≡ v.name → Q v) → ((d : DeclaredType) → named x t ≡ Some d → Q d)
    → (d : DeclaredType) → named x (if b then t else t ++ (v.name, v) ∷ []) ≡ Some d → Q d
first_found true x Q v t new old d h = old d h
first_found false x Q v t new old d h =
    by_entry x Q v d (named x t) (pointwise ◌==◌ x v.name) refl new (old d) (sym (named_last x v.name v t) ∙ h)

all_found : (x : List ℕ) (Q : DeclaredType → Type 0) (vs : List DeclaredType) (t : Table) → All (λ v. x ≡ v.name → Q v) vs → ((d : DeclaredType) → named x t ≡ Some d → Q d)
    → (d : DeclaredType) → named x (with_all vs t) ≡ Some d → Q d
all_found x Q [] t all old = old
all_found x Q (v ∷ vs) t all old =
    all_found x Q vs (with_first (λ t. t.name) t v) (All-tail (λ v. x ≡ v.name → Q v) v vs all)
    (first_found (has v.name t) x Q v t (All-head (λ v. x ≡ v.name → Q v) v vs all) old)

abbrev pub IsNoUser : DeclaredType → Type 0
IsNoUser d = (u : UserType) → d.kind ≡ kind.User u → ⊥

no_user : (ds : TypeDecls) (P : List ℕ → Type 0) (x : List ℕ) → All (λ e. P e.1.name → ⊥) ds.types.now → P x
    → (d : DeclaredType) → named x (world_of ds).types ≡ Some d → IsNoUser d
no_user ds P x all p =
    all_found x IsNoUser (map host_entry ds.hosts.now) (with_all (map user_entry ds.types.now) (with_all (map record_entry ds.records.now) []))
    (all_of (λ v. x ≡ v.name → IsNoUser v) host_entry (λ e same u h. cc) ds.hosts.now)
    (all_found x IsNoUser (map user_entry ds.types.now) (with_all (map record_entry ds.records.now) [])
    (all_map (λ e. P e.1.name → ⊥) (λ v. x ≡ v.name → IsNoUser v) user_entry (λ e no same u h. no (subst P same p)) ds.types.now all)
    (all_found x IsNoUser (map record_entry ds.records.now) [] (all_of (λ v. x ≡ v.name → IsNoUser v) record_entry (λ e same u h. cc) ds.records.now)
    (λ d h u k. cc)))

by_kind : (u : UserType) (o : Option DeclaredType) → ((d : DeclaredType) → o ≡ Some d → IsNoUser d) → kind_in o ≡ Some (kind.User u) → ⊥
by_kind u None none h = cc
by_kind u (Some d) none h =
    let same : d.kind ≡ kind.User u = cc in
    none d refl u same

-- a property that no declaration of a user type has, by its name, no user type has
none_has : (ds : TypeDecls) (P : List ℕ → Type 0) → All (λ e. P e.1.name → ⊥) ds.types.now → (x : List ℕ) (u : UserType) → IsUserType (world_of ds) x u → P x → ⊥
none_has ds P all x u is p = by_kind u (named x (world_of ds).types) (no_user ds P x all p) is.declared

-- ---- no ring

record RingUser (w : World) (x : List ℕ) : Type 0 where
  user : UserType
  is : IsUserType w x user

mentioning : (w : World) (x y : List ℕ) → Mentions w x y → RingUser w x
mentioning w x y (mentions u v i j m) = record { user = u; is = i }

ring_user : (w : World) (x z : List ℕ) → Reaches w x z → RingUser w x
ring_user w _ _ (directly x y m) = mentioning w x y m
ring_user w _ _ (through x y z m r) = mentioning w x y m

pub no_ring_found : (ds : TypeDecls) → IsFirst (StandsOnRing (world_of ds)) offset_of ds.types.now None → NoRing (world_of ds)
no_ring_found ds h x ring =
    let one : RingUser (world_of ds) x = ring_user (world_of ds) x x ring in
    none_has ds (IsOnRing (world_of ds)) (none_first (StandsOnRing (world_of ds)) offset_of ds.types.now h) x one.user one.is ring

-- ---- sizes

or_past : (w : World) (s : TypeSpecTree) (b : Bool) → fits w s ≡ b → (is_past w (Some s) ≡ true → ⊥) → fits w s ≡ true
or_past w s true e never = e
or_past w s false e never = absurd (never (ap not e))

all_fit : (ds : TypeDecls) → IsFirst (InheritsTooMuch (world_of ds)) offset_of ds.types.now None → AllFit (world_of ds)
all_fit ds h = record {
  fits_each = λ x u is.
      let w : World = world_of ds in
      or_past w u.inherit_from (fits w u.inherit_from) refl
      (λ past. none_has ds (λ y. is_past w (inherited w y) ≡ true) (none_first (InheritsTooMuch w) offset_of ds.types.now h) x u is (ap (is_past w) (inherited_is w x u is) ∙ past));
}

or_fits : (b : Bool) → (b ≡ false → ⊥) → b ≡ true
or_fits true never = refl
or_fits false never = absurd (never refl)

-- where no declaration is on a ring, no user type is
pub ring_found : (ds : TypeDecls) (w : World) (o : Option ℕ) → w ≡ world_of ds → o ≡ None → IsFirst (StandsOnRing w) offset_of ds.types.now o → NoRing w
ring_found ds w o same e h =
    let first : IsFirst (StandsOnRing w) offset_of ds.types.now None = subst (λ (r : Option ℕ). IsFirst (StandsOnRing w) offset_of ds.types.now r) e h in
    subst NoRing (sym same) (no_ring_found ds (subst (λ (v : World). IsFirst (StandsOnRing v) offset_of ds.types.now None) same first))

-- where no placed specifier is too large, each is within the limits
placed_small : (w : World) (specs : List PlacedSpec) → IsFirst (IsTooLarge w) (λ p. p.at) specs None → All (λ p. fits w p.spec ≡ true) specs
placed_small w specs h =
    All-weaker (λ p. IsTooLarge w p → ⊥) (λ p. fits w p.spec ≡ true) (λ p no. or_fits (fits w p.spec) no) specs
    (none_first (IsTooLarge w) (λ p. p.at) specs h)

pub record Made (ds : TypeDecls) (w : World) (ps : Lists) : Type 0 where
  pub is_lattice : IsLattice w ps
  pub is_of : IsLatticeOf ds w

sound_made : (ds : TypeDecls) (ps : Lists) → IsSound ds (world_of ds) → IsListed (world_of ds) ps → Made ds (world_of ds) ps
sound_made ds ps sound listed = record {
  is_lattice = record { fit = all_fit ds sound.types; listed = listed };
  is_of = record {
    is_world = refl;
    no_ring = no_ring_found ds sound.no_ring;
    placed_fit = placed_small (world_of ds) ds.specs.now sound.placed;
  };
}

-- what is made of the types and of copies of the commands
pub made : (ds : TypeDecls) (w : World) (t : Table) (cs copied : List (List ℕ × CommandType)) (ps : Lists) → record { types = t; commands = cs } ≡ w → w ≡ world_of ds → IsSound ds w
    → IsListed w ps → copied ≡ cs → Made ds (record { types = t; commands = copied }) ps
made ds w t cs copied ps view same sound listed copies =
    let whole : record { types = t; commands = copied } ≡ world_of ds = ap (λ (ds : List (List ℕ × CommandType)). record { types = t; commands = ds }) copies ∙ view ∙ same in
    subst (λ (v : World). Made ds v ps) (sym whole) (sound_made ds ps (subst (IsSound ds) same sound) (subst (λ (v : World). IsListed v ps) same listed))
