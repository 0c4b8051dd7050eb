-- What a precedence list has to do with subtypes.
use Rattle.std.specs.Prelude.{◌≡◌, ℕ, Bool, true, false, ◌&&◌, if◌then◌else◌, List, [], ◌∷◌, Option, Some, None, codes}
use Rattle.std.specs.Str.{bytes_eq}
use Rattle.cl_syntax.specs.StandardTypes.{standard_named}
use Rattle.cl_syntax.specs.TypeSpecTree.{TypeSpecTree, specifier, Constant, Any, Param, Spec, Names, TypeArgTrees, none, argument}
use Rattle.cl_syntax.specs.declared.type_names.StandardType.{StandardType}
use Rattle.cl_syntax.specs.declared.type_names.StandardType.TheVariants as standard
use Rattle.cl_lattice.specs.Rings.{IsUserType}
use Rattle.cl_lattice.specs.World.{World, kind_named}
use Rattle.cl_lattice.specs.declared.declared_types.TypeKind.{TypeKind}
use Rattle.cl_lattice.specs.declared.declared_types.TypeKind.TheVariants as kind
use Rattle.cl_lattice.specs.declared.declared_types.UserType.{UserType}

-- a declaration has no parameters
abbrev pub is_none_given : List (List ℕ) → Bool
is_none_given [] = true
is_none_given (x ∷ xs) = false

-- the standard types whose name may stand alone
abbrev pub standard_stands_alone : StandardType → Bool
standard_stands_alone standard.T = true
standard_stands_alone standard.Nil = true
standard_stands_alone standard.Boolean = true
standard_stands_alone standard.Integer = true
standard_stands_alone standard.String = true
standard_stands_alone standard.Symbol = true
standard_stands_alone standard.Member = false
standard_stands_alone standard.Subset = false
standard_stands_alone standard.Sequence = false
standard_stands_alone standard.Or = false
standard_stands_alone standard.And = false
standard_stands_alone standard.NullOrType = false
standard_stands_alone standard.TokenOrType = false
standard_stands_alone standard.BlankArea = true
standard_stands_alone standard.Command = true
standard_stands_alone standard.DialogChoice = true

-- whether the name of a type may stand alone, by what it stands for
abbrev pub stands_alone_by : Option StandardType → Option TypeKind → Bool
stands_alone_by (Some t) k = standard_stands_alone t
stands_alone_by None None = false
stands_alone_by None (Some kind.Record) = true
stands_alone_by None (Some (kind.Host low high)) = true
stands_alone_by None (Some (kind.User u)) = is_none_given u.parameters

-- whether the name of a type may stand alone: the type takes no arguments, or these may be left out
abbrev pub stands_alone : World → List ℕ → Bool
stands_alone w x = stands_alone_by (standard_named x) (kind_named x w)

-- there are no arguments
abbrev pub is_empty : TypeArgTrees → Bool
is_empty none = true
is_empty (argument a ts) = false

-- a user type without parameters is given no arguments
abbrev pub is_bare_by : Option StandardType → Option TypeKind → TypeArgTrees → Bool
is_bare_by (Some t) k ts = true
is_bare_by None None ts = true
is_bare_by None (Some kind.Record) ts = true
is_bare_by None (Some (kind.Host low high)) ts = true
is_bare_by None (Some (kind.User u)) ts = if is_none_given u.parameters then is_empty ts else true

-- a specifier gives a user type without parameters no arguments
abbrev pub is_bare : World → TypeSpecTree → Bool
is_bare w (specifier x ts o) = is_bare_by (standard_named x) (kind_named x w) ts

-- the same of each specifier among arguments
abbrev pub parts_bare : World → TypeArgTrees → Bool
parts_bare w none = true
parts_bare w (argument (Constant d) ts) = parts_bare w ts
parts_bare w (argument Any ts) = parts_bare w ts
parts_bare w (argument (Param x) ts) = parts_bare w ts
parts_bare w (argument (Spec s) ts) = is_bare w s && parts_bare w ts
parts_bare w (argument (Names xs) ts) = parts_bare w ts

-- the same of the direct supertypes that a specifier names
abbrev pub supers_bare : World → TypeSpecTree → Bool
supers_bare w (specifier x ts o) = if bytes_eq x (codes "and") then parts_bare w ts else is_bare w (specifier x ts o)

-- no user type without parameters is given arguments where another type inherits from it
pub record AllBare (w : World) : Type 0 where
  pub bare_each : (x : List ℕ) (u : UserType) → IsUserType w x u → supers_bare w u.inherit_from ≡ true
