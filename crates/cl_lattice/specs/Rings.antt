-- Rings of user types.
use Rattle.std.specs.Prelude.{◌≡◌, ℕ, true, List, [], ◌∷◌, ◌++◌, Some, None}
use Rattle.cl_syntax.specs.TypeSpecTree.{TypeSpecTree, specifier, TypeArgTree, Constant, Any, Param, Spec, Names, TypeArgTrees, none, argument}
use Rattle.cl_syntax.specs.StandardTypes.{standard_named}
use Rattle.cl_lattice.specs.Members.{is_token}
use Rattle.cl_lattice.specs.World.{World, kind_named}
use Rattle.cl_lattice.specs.declared.declared_types.TypeKind.TheVariants as kind
use Rattle.cl_lattice.specs.declared.declared_types.UserType.{UserType}

-- the names of types in a specifier
abbrev mutual
  pub names_in : TypeSpecTree → List (List ℕ)
  names_in (specifier x ts o) = x ∷ names_in_all ts

  -- the names of types in arguments
  pub names_in_all : TypeArgTrees → List (List ℕ)
  names_in_all none = []
  names_in_all (argument a ts) = names_in_arg a ++ names_in_all ts

  -- the names of types in an argument
  pub names_in_arg : TypeArgTree → List (List ℕ)
  names_in_arg (Constant d) = []
  names_in_arg Any = []
  names_in_arg (Param x) = []
  names_in_arg (Spec s) = names_in s
  names_in_arg (Names xs) = []

-- a user type of the world, by a name that is none of a standard type
pub record IsUserType (w : World) (x : List ℕ) (u : UserType) : Type 0 where
  pub own : standard_named x ≡ None
  pub declared : kind_named x w ≡ Some (kind.User u)

-- what a user type inherits from mentions another user type
pub data Mentions (w : World) (x y : List ℕ) : Type 0 where
  mentions : (u v : UserType) → IsUserType w x u → IsUserType w y v → is_token (names_in u.inherit_from) y ≡ true → Mentions w x y

-- from one user type to another along mentions
pub data Reaches (w : World) : List ℕ → List ℕ → Type 0 where
  directly : (x y : List ℕ) → Mentions w x y → Reaches w x y
  through : (x y z : List ℕ) → Mentions w x y → Reaches w y z → Reaches w x z

-- a user type that reaches itself
abbrev pub IsOnRing : World → List ℕ → Type 0
IsOnRing w x = Reaches w x x
