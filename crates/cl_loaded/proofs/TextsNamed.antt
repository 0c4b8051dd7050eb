-- What a user type of the world of an application inherits from is what its declaration says.
use Rattle.std.proofs.Common.{◌≡◌, ◌++◌, ◌==◌, ◌⊎◌, inl, inr, ℕ, Bool, true, false, List, [], ◌∷◌, Option, Some, None, map, refl, sym, ap, ◌∙◌}
use Rattle.std.specs.Prelude.{All, if◌then◌else◌, is_some}
use Rattle.std.specs.Cmp.Lexicographic.{pointwise}
use Rattle.std.proofs.lemmas.List.Elements.{All-head, All-tail}
use Rattle.cl_syntax.specs.declared.type_decls.CommandType.{CommandType}
use Rattle.cl_syntax.specs.declared.type_decls.HostBound.{HostBound}
use Rattle.cl_syntax.specs.declared.type_decls.RecordDecl.{RecordDecl}
use Rattle.cl_syntax.specs.declared.type_decls.TypeDecl.{TypeDecl}
use Rattle.cl_table.specs.Names.{named, with_first}
use Rattle.cl_lattice.specs.World.{host_entry, kind_in, kind_named, record_entry, user_entry, with_all, world_with}
use Rattle.cl_lattice.specs.declared.declared_types.DeclaredType.{DeclaredType}
use Rattle.cl_lattice.specs.declared.declared_types.TypeKind.{TypeKind}
use Rattle.cl_lattice.specs.declared.declared_types.TypeKind.TheVariants as kind
use Rattle.cl_lattice.specs.declared.declared_types.UserType.{UserType}
use Rattle.cl_lattice.proofs.BuildingEntries.{either, named_last}
use Rattle.cl_lattice.proofs.RingEntries.{same_name}

-- the first declaration of this name is one of what the user type inherits from
pub record Declares (types : List (List ℕ × TypeDecl)) (x : List ℕ) (u : UserType) : Type 0 where
  pub decl : TypeDecl
  pub found : named x types ≡ Some decl
  pub inherits : decl.inherit_from ≡ u.inherit_from

-- ---- the first of a name

abbrev Table : Type 0
Table = List (List ℕ × DeclaredType)

abbrev first_of : List ℕ → List DeclaredType → Option DeclaredType
first_of x [] = None
first_of x (d ∷ ds) = if pointwise ◌==◌ x d.name then Some d else first_of x ds

either_none : (o : Option DeclaredType) → either o None ≡ o
either_none None = refl
either_none (Some d) = refl

either_is : (o : Option DeclaredType) (d : Option DeclaredType) → is_some o ≡ true → either o d ≡ o
either_is None d h = cc
either_is (Some e) d h = refl

three : (o : Option DeclaredType) (b : Bool) (d : DeclaredType) (p : Option DeclaredType)
    → either (either o (if b then Some d else None)) p ≡ either o (if b then Some d else p)
three None true d p = refl
three None false d p = refl
three (Some e) b d p = refl

behind : (x : List ℕ) (d : DeclaredType) (t : Table) (has same : Bool) → is_some (named d.name t) ≡ has → pointwise ◌==◌ x d.name ≡ same
    → named x (if has then t else t ++ (d.name, d) ∷ []) ≡ either (named x t) (if same then Some d else None)
behind x d t true true h e =
    sym (either_is (named x t) (Some d) (ap (λ (y : List ℕ). is_some (named y t)) (same_name x d.name e) ∙ h))
behind x d t true false h e = sym (either_none (named x t))
behind x d t false same h e = named_last x d.name d t ∙ ap (λ (b : Bool). either (named x t) (if b then Some d else None)) e

-- what stands in a table goes before what is put behind
all_named : (x : List ℕ) (ds : List DeclaredType) (t : Table) → named x (with_all ds t) ≡ either (named x t) (first_of x ds)
all_named x [] t = sym (either_none (named x t))
all_named x (d ∷ ds) t =
    all_named x ds (with_first (λ e. e.name) t d)
    ∙ ap (λ (o : Option DeclaredType). either o (first_of x ds)) (behind x d t (is_some (named d.name t)) (pointwise ◌==◌ x d.name) refl refl)
    ∙ three (named x t) (pointwise ◌==◌ x d.name) d (first_of x ds)

-- ---- the kinds of what is declared

abbrev IsUser : Option DeclaredType → UserType → Type 0
IsUser o u = kind_in o ≡ Some (kind.User u)

one_of : (o p : Option DeclaredType) (u : UserType) → IsUser (either o p) u → IsUser o u ⊎ IsUser p u
one_of None p u h = inr h
one_of (Some d) p u h = inl h

no_record : (x : List ℕ) (u : UserType) (rs : List (List ℕ × RecordDecl)) → IsUser (first_of x (map record_entry rs)) u → ⊥
no_record x u [] h = cc
no_record x u (r ∷ rs) h = by_name (pointwise ◌==◌ x r.1.name) (no_record x u rs) h
  where
    by_name : (b : Bool) → (IsUser (first_of x (map record_entry rs)) u → ⊥) → IsUser (if b then Some (record_entry r) else first_of x (map record_entry rs)) u → ⊥
    by_name true rest h = cc
    by_name false rest h = rest h

no_host : (x : List ℕ) (u : UserType) (hs : List (List ℕ × HostBound)) → IsUser (first_of x (map host_entry hs)) u → ⊥
no_host x u [] h = cc
no_host x u (e ∷ hs) h = by_name (pointwise ◌==◌ x e.1.name) (no_host x u hs) h
  where
    by_name : (b : Bool) → (IsUser (first_of x (map host_entry hs)) u → ⊥) → IsUser (if b then Some (host_entry e) else first_of x (map host_entry hs)) u → ⊥
    by_name true rest h = cc
    by_name false rest h = rest h

abbrev user_of : TypeDecl → UserType
user_of d = record { parameters = d.parameters; inherit_from = d.inherit_from; satisfies = d.satisfies }

same_user : (u v : UserType) → ◌≡◌ {A = Option TypeKind} (Some (kind.User u)) (Some (kind.User v)) → u ≡ v
same_user u v h = cc

-- of declarations that stand under their own names the first under a name is the first of it
user_declared : (x : List ℕ) (u : UserType) (ts : List (List ℕ × TypeDecl)) → All (λ e. e.0 ≡ e.1.name) ts → IsUser (first_of x (map user_entry ts)) u
    → Declares ts x u
user_declared x u [] own h = cc
user_declared x u (e ∷ ts) own h =
    by_name (pointwise ◌==◌ x e.1.name)
    (ap (λ (y : List ℕ). pointwise ◌==◌ x y) (All-head (λ e. e.0 ≡ e.1.name) e ts own))
    (user_declared x u ts (All-tail (λ e. e.0 ≡ e.1.name) e ts own)) h
  where
    by_name : (b : Bool) → pointwise ◌==◌ x e.0 ≡ b → (IsUser (first_of x (map user_entry ts)) u → Declares ts x u)
        → IsUser (if b then Some (user_entry e) else first_of x (map user_entry ts)) u → Declares (e ∷ ts) x u
    by_name true same rest h = record {
      decl = e.1;
      found = ap (λ (b : Bool). if b then Some e.1 else named x ts) same;
      inherits = ap (λ (v : UserType). v.inherit_from) (same_user (user_of e.1) u h);
    }
    by_name false other rest h =
        let one : Declares ts x u = rest h in
        record {
          decl = one.decl;
          found = ap (λ (b : Bool). if b then Some e.1 else named x ts) other ∙ one.found;
          inherits = one.inherits;
        }

-- ---- the world

pub user_named : (records : List (List ℕ × RecordDecl)) (types : List (List ℕ × TypeDecl)) (hosts : List (List ℕ × HostBound))
    (commands : List (List ℕ × CommandType)) → All (λ e. e.0 ≡ e.1.name) types → (x : List ℕ) (u : UserType)
    → kind_named x (world_with records types hosts commands) ≡ Some (kind.User u) → Declares types x u
user_named records types hosts commands own x u h =
    let rs = map record_entry records in
    let ts = map user_entry types in
    let hs = map host_entry hosts in
    let whole : IsUser (either (either (first_of x rs) (first_of x ts)) (first_of x hs)) u =
    ap kind_in (sym (all_named x hs (with_all ts (with_all rs []))
    ∙ ap (λ (o : Option DeclaredType). either o (first_of x hs)) (all_named x ts (with_all rs [])
    ∙ ap (λ (o : Option DeclaredType). either o (first_of x ts)) (all_named x rs [])))) ∙ h in
    by_last (one_of (either (first_of x rs) (first_of x ts)) (first_of x hs) u whole)
  where
    by_first : IsUser (first_of x (map record_entry records)) u ⊎ IsUser (first_of x (map user_entry types)) u → Declares types x u
    by_first (inl k) = absurd (no_record x u records k)
    by_first (inr k) = user_declared x u types own k

    by_last : IsUser (either (first_of x (map record_entry records)) (first_of x (map user_entry types))) u ⊎ IsUser (first_of x (map host_entry hosts)) u
        → Declares types x u
    by_last (inl k) = by_first (one_of (first_of x (map record_entry records)) (first_of x (map user_entry types)) u k)
    by_last (inr k) = absurd (no_host x u hosts k)
