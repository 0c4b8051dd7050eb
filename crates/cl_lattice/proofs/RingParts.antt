-- The names in a specifier and the size of what its names inherit from: what a ring goes through nests without end.
use Rattle.std.proofs.Common.{◌≡◌, ◌≤◌, ◌<◌, ◌++◌, ◌⊎◌, inl, inr, ℕ, zero, suc, Bool, true, false, length, get_or, List, [], ◌∷◌, Option, Some, None, refl, sym, ap, ◌∙◌, subst, arith}
use Rattle.std.specs.Prelude.{◌||◌, is_some}
use Rattle.std.specs.Str.{bytes_eq}
use Rattle.std.proofs.lemmas.Slice.Eq.{bytes_eq-Decides}
use Rattle.cl_syntax.specs.StandardTypes.{standard_named}
use Rattle.cl_syntax.specs.TypeSpec.{arg_tree_of}
use Rattle.cl_syntax.specs.TypeSpecTree.{TypeSpecTree, specifier, TypeArgTree, Constant, Any, Param, Spec, Names, TypeArgTrees, none, argument, nodes_all, nodes_of_arg}
use Rattle.cl_syntax.specs.declared.type_names.StandardType.{StandardType}
use Rattle.cl_syntax.specs.declared.type_specs.TypeArg.{TypeArg}
use Rattle.cl_syntax.specs.declared.type_specs.TypeOptions.{TypeOptions}
use Rattle.cl_lattice.specs.Arguments.{trees_of}
use Rattle.cl_lattice.specs.Members.{is_token}
use Rattle.cl_lattice.specs.RingSearch.{inherited}
use Rattle.cl_lattice.specs.Rings.{names_in, names_in_all, names_in_arg, IsUserType, Mentions, mentions, Reaches, directly, through}
use Rattle.cl_lattice.specs.Sizes.{both, fits, inherited_by, inherited_size, is_small, most_depth, nodes_within, sized_arg, sized_args}
use Rattle.cl_lattice.specs.World.{World, kind_named}
use Rattle.cl_lattice.specs.declared.declared_types.TypeKind.{TypeKind}
use Rattle.cl_lattice.specs.declared.declared_types.TypeKind.TheVariants as kind
use Rattle.cl_lattice.specs.declared.declared_types.UserType.{UserType}

-- an argument has no more nodes than the arguments among which it stands
pub arg_nodes : (ts : List TypeArg) (i : ℕ) (a : TypeArg) → i < length ts → a ≡ get_or ts i a → nodes_of_arg (arg_tree_of a) ≤ nodes_all (trees_of ts)
arg_nodes [] i a l e = absurd (omega (arith, l))
arg_nodes (b ∷ bs) zero a l e = rw e (omega arith)
arg_nodes (b ∷ bs) (suc i) a l e = omega (arith, arg_nodes bs i a (omega (arith, l)) e)

-- ---- user types by what they inherit from

pub record Inherits (w : World) (x : List ℕ) (s : TypeSpecTree) : Type 0 where
  pub user : UserType
  pub is : IsUserType w x user
  pub same : user.inherit_from ≡ s

by_kind : (w : World) (x : List ℕ) (s : TypeSpecTree) (o : Option StandardType) (k : Option TypeKind) → standard_named x ≡ o → kind_named x w ≡ k → inherited_by o k ≡ Some s → Inherits w x s
by_kind w x s (Some t) k e f h = cc
by_kind w x s None None e f h = cc
by_kind w x s None (Some kind.Record) e f h = cc
by_kind w x s None (Some (kind.Host low high)) e f h = cc
by_kind w x s None (Some (kind.User u)) e f h = record { user = u; is = record { own = e; declared = f }; same = cc }

pub inherits : (w : World) (x : List ℕ) (s : TypeSpecTree) → inherited w x ≡ Some s → Inherits w x s
inherits w x s h = by_kind w x s (standard_named x) (kind_named x w) refl refl h

pub inherited_is : (w : World) (x : List ℕ) (u : UserType) → IsUserType w x u → inherited w x ≡ Some u.inherit_from
inherited_is w x u i = rw (i.own, i.declared) refl

pub mention : (w : World) (x y : List ℕ) (s t : TypeSpecTree) → inherited w x ≡ Some s → inherited w y ≡ Some t → is_token (names_in s) y ≡ true → Mentions w x y
mention w x y s t e f h =
    let u : Inherits w x s = inherits w x s e in
    let v : Inherits w y t = inherits w y t f in
    mentions u.user v.user u.is v.is (ap (λ (r : TypeSpecTree). is_token (names_in r) y) u.same ∙ h)

-- ---- sizes one inside another

some_both : (m n : Option ℕ) → is_some (both m n) ≡ true → (is_some m ≡ true) × (is_some n ≡ true)
some_both None n h = cc
some_both (Some m) None h = cc
some_both (Some m) (Some n) h = (refl, refl)

both_some : (m n : Option ℕ) → is_some m ≡ true → is_some n ≡ true → is_some (both m n) ≡ true
both_some None n h k = cc
both_some (Some m) None h k = cc
both_some (Some m) (Some n) h k = refl

arg_more : (f g : TypeSpecTree → Option ℕ) → ((s : TypeSpecTree) → is_some (f s) ≡ true → is_some (g s) ≡ true) → (a : TypeArgTree)
    → is_some (sized_arg f a) ≡ true → is_some (sized_arg g a) ≡ true
arg_more f g more (Constant d) h = refl
arg_more f g more Any h = refl
arg_more f g more (Param x) h = refl
arg_more f g more (Spec s) h = more s h
arg_more f g more (Names xs) h = refl

args_more : (f g : TypeSpecTree → Option ℕ) → ((s : TypeSpecTree) → is_some (f s) ≡ true → is_some (g s) ≡ true) → (ts : TypeArgTrees)
    → is_some (sized_args f ts) ≡ true → is_some (sized_args g ts) ≡ true
args_more f g more none h = refl
args_more f g more (argument a ts) h =
    let two = some_both (sized_arg f a) (sized_args f ts) h in
    both_some (sized_arg g a) (sized_args g ts) (arg_more f g more a two.0) (args_more f g more ts two.1)

inherited_more : (f g : TypeSpecTree → Option ℕ) → ((s : TypeSpecTree) → is_some (f s) ≡ true → is_some (g s) ≡ true) → (o : Option TypeSpecTree)
    → is_some (inherited_size f o) ≡ true → is_some (inherited_size g o) ≡ true
inherited_more f g more None h = refl
inherited_more f g more (Some s) h = more s h

-- a specifier that nests at most so many names nests at most one more
pub deeper : (w : World) (n : ℕ) (s : TypeSpecTree) → is_some (nodes_within n w s) ≡ true → is_some (nodes_within (suc n) w s) ≡ true
deeper w zero s h = cc
deeper w (suc n) (specifier x ts o) h =
    let inner = some_both (Some 1) (both (sized_args (nodes_within n w) ts) (inherited_size (nodes_within n w) (inherited w x))) h in
    let parts = some_both (sized_args (nodes_within n w) ts) (inherited_size (nodes_within n w) (inherited w x)) inner.1 in
    both_some (Some 1) (both (sized_args (nodes_within (suc n) w) ts) (inherited_size (nodes_within (suc n) w) (inherited w x))) refl
    (both_some (sized_args (nodes_within (suc n) w) ts) (inherited_size (nodes_within (suc n) w) (inherited w x))
    (args_more (nodes_within n w) (nodes_within (suc n) w) (deeper w n) ts parts.0)
    (inherited_more (nodes_within n w) (nodes_within (suc n) w) (deeper w n) (inherited w x) parts.1))

-- the two parts of what nests at most so many names
pub parts_within : (w : World) (n : ℕ) (x : List ℕ) (ts : TypeArgTrees) (o : TypeOptions) → is_some (nodes_within (suc n) w (specifier x ts o)) ≡ true
    → (is_some (sized_args (nodes_within n w) ts) ≡ true) × (is_some (inherited_size (nodes_within n w) (inherited w x)) ≡ true)
parts_within w n x ts o h =
    let inner = some_both (Some 1) (both (sized_args (nodes_within n w) ts) (inherited_size (nodes_within n w) (inherited w x))) h in
    some_both (sized_args (nodes_within n w) ts) (inherited_size (nodes_within n w) (inherited w x)) inner.1

-- ---- along a mention one name less nests

first_or : (b c : Bool) → (b || c) ≡ true → (b ≡ true) ⊎ (c ≡ true)
first_or true c h = inl refl
first_or false c h = inr h

append_or : (xs ys : List (List ℕ)) (y : List ℕ) → is_token (xs ++ ys) y ≡ true → (is_token xs y ≡ true) ⊎ (is_token ys y ≡ true)
append_or [] ys y h = inr h
append_or (x ∷ xs) ys y h = by_name (bytes_eq x y) h (λ k. append_or xs ys y k)
  where
    by_name : (b : Bool) → (b || is_token (xs ++ ys) y) ≡ true → (is_token (xs ++ ys) y ≡ true → (is_token xs y ≡ true) ⊎ (is_token ys y ≡ true))
        → ((b || is_token xs y) ≡ true) ⊎ (is_token ys y ≡ true)
    by_name true k more = inl refl
    by_name false k more = more k

inherited_within : (f : TypeSpecTree → Option ℕ) (o : Option TypeSpecTree) (t : TypeSpecTree) → o ≡ Some t → is_some (inherited_size f o) ≡ true → is_some (f t) ≡ true
inherited_within f None t e h = cc
inherited_within f (Some s) t e h =
    let same : s ≡ t = cc in
    subst (λ (r : TypeSpecTree). is_some (f r) ≡ true) same h

-- where a specifier mentions a user type, what that inherits from nests one name less
abbrev pub Falls : World → List ℕ → TypeSpecTree → TypeSpecTree → Type 0
Falls w y t s = (n : ℕ) → is_some (nodes_within (suc n) w s) ≡ true → is_token (names_in s) y ≡ true → is_some (nodes_within n w t) ≡ true

abbrev pub FallsArg : World → List ℕ → TypeSpecTree → TypeArgTree → Type 0
FallsArg w y t a = (n : ℕ) → is_some (sized_arg (nodes_within n w) a) ≡ true → is_token (names_in_arg a) y ≡ true → is_some (nodes_within n w t) ≡ true

by_place : (w : World) (y : List ℕ) (t : TypeSpecTree) (x : List ℕ) (ts : TypeArgTrees) (n : ℕ) → inherited w y ≡ Some t
    → (is_some (sized_args (nodes_within n w) ts) ≡ true) × (is_some (inherited_size (nodes_within n w) (inherited w x)) ≡ true)
    → (is_token (names_in_all ts) y ≡ true → is_some (nodes_within n w t) ≡ true)
    → (bytes_eq x y ≡ true) ⊎ (is_token (names_in_all ts) y ≡ true) → is_some (nodes_within n w t) ≡ true
by_place w y t x ts n e parts more (inl h) =
    let same : x ≡ y = (bytes_eq-Decides x y).0 h in
    inherited_within (nodes_within n w) (inherited w x) t (ap (inherited w) same ∙ e) parts.1
by_place w y t x ts n e parts more (inr h) = more h

by_arg : (w : World) (y : List ℕ) (t : TypeSpecTree) (a : TypeArgTree) (ts : TypeArgTrees) (n : ℕ)
    → (is_token (names_in_arg a) y ≡ true → is_some (nodes_within n w t) ≡ true) → (is_token (names_in_all ts) y ≡ true → is_some (nodes_within n w t) ≡ true)
    → (is_token (names_in_arg a) y ≡ true) ⊎ (is_token (names_in_all ts) y ≡ true) → is_some (nodes_within n w t) ≡ true
by_arg w y t a ts n here more (inl h) = here h
by_arg w y t a ts n here more (inr h) = more h

mutual
  falls : (w : World) (y : List ℕ) (t : TypeSpecTree) → inherited w y ≡ Some t → (s : TypeSpecTree) → Falls w y t s
  falls w y t e (specifier x ts o) n h k =
      let parts = parts_within w n x ts o h in
      by_place w y t x ts n e parts (falls_all w y t e ts n parts.0) (first_or (bytes_eq x y) (is_token (names_in_all ts) y) k)

  falls_all : (w : World) (y : List ℕ) (t : TypeSpecTree) → inherited w y ≡ Some t → (ts : TypeArgTrees) (n : ℕ)
      → is_some (sized_args (nodes_within n w) ts) ≡ true → is_token (names_in_all ts) y ≡ true → is_some (nodes_within n w t) ≡ true
  falls_all w y t e none n h k = cc
  falls_all w y t e (argument a ts) n h k =
      let parts = some_both (sized_arg (nodes_within n w) a) (sized_args (nodes_within n w) ts) h in
      by_arg w y t a ts n (falls_arg w y t e a n parts.0) (falls_all w y t e ts n parts.1) (append_or (names_in_arg a) (names_in_all ts) y k)

  falls_arg : (w : World) (y : List ℕ) (t : TypeSpecTree) → inherited w y ≡ Some t → (a : TypeArgTree) → FallsArg w y t a
  falls_arg w y t e (Constant d) n h k = cc
  falls_arg w y t e Any n h k = cc
  falls_arg w y t e (Param x) n h k = cc
  falls_arg w y t e (Names xs) n h k = cc
  falls_arg w y t e (Spec s) zero h k = cc
  falls_arg w y t e (Spec s) (suc n) h k = deeper w n t (falls w y t e s n h k)

-- ---- no ring through what is within the limits

some_inherited : (w : World) (x : List ℕ) (u : UserType) (s : TypeSpecTree) → IsUserType w x u → inherited w x ≡ Some s → u.inherit_from ≡ s
some_inherited w x u s i e =
    let same : Some u.inherit_from ≡ Some s = sym (inherited_is w x u i) ∙ e in
    cc

along : (w : World) (x y : List ℕ) (s t : TypeSpecTree) (n : ℕ) → Mentions w x y → inherited w x ≡ Some s → inherited w y ≡ Some t
    → is_some (nodes_within (suc n) w s) ≡ true → is_some (nodes_within n w t) ≡ true
along w x y s t n (mentions u v i j m) e f h =
    falls w y t f s n h (ap (λ (r : TypeSpecTree). is_token (names_in r) y) (sym (some_inherited w x u s i e)) ∙ m)

record Between (w : World) (x y : List ℕ) : Type 0 where
  to : TypeSpecTree
  is : inherited w y ≡ Some to

between : (w : World) (x y : List ℕ) → Mentions w x y → Between w x y
between w x y (mentions u v i j m) = record { to = v.inherit_from; is = inherited_is w y v j }

reached : (w : World) (x z : List ℕ) (s t : TypeSpecTree) (n : ℕ) → Reaches w x z → inherited w x ≡ Some s → inherited w z ≡ Some t
    → is_some (nodes_within (suc n) w s) ≡ true → is_some (nodes_within n w t) ≡ true
reached w _ _ s t n (directly x z m) e f h = along w x z s t n m e f h
reached w _ _ s t zero (through x y z m r) e f h =
    let b : Between w x y = between w x y m in
    let no : is_some (nodes_within 0 w b.to) ≡ true = along w x y s b.to 0 m e b.is h in
    cc
reached w _ _ s t (suc n) (through x y z m r) e f h =
    let b : Between w x y = between w x y m in
    deeper w n t (reached w y z b.to t n r b.is f (along w x y s b.to (suc n) m e b.is h))

never : (w : World) (x : List ℕ) (s : TypeSpecTree) (n : ℕ) → Reaches w x x → inherited w x ≡ Some s → is_some (nodes_within n w s) ≡ true → ⊥
never w x s zero r e h = cc
never w x s (suc n) r e h = never w x s n r e (reached w x x s s n r e e h)

small_some : (o : Option ℕ) → is_small o ≡ true → is_some o ≡ true
small_some None h = cc
small_some (Some n) h = refl

-- a user type that inherits from what is within the limits stands on no ring
pub fits_no_ring : (w : World) (x : List ℕ) (s : TypeSpecTree) → inherited w x ≡ Some s → fits w s ≡ true → Reaches w x x → ⊥
unfolding fits
fits_no_ring w x s e h r = never w x s most_depth r e (small_some (nodes_within most_depth w s) h)
