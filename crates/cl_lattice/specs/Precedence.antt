-- The precedence list of a type: its name, then the lists of its direct supertypes in their order, each name at its last occurrence.
use Rattle.std.specs.Prelude.{ℕ, zero, suc, if◌then◌else◌, List, [], ◌∷◌, ◌++◌, Option, Some, None, codes}
use Rattle.std.specs.Str.{bytes_eq}
use Rattle.cl_syntax.specs.StandardTypes.{standard_named}
use Rattle.cl_syntax.specs.TypeSpecTree.{TypeSpecTree, specifier, TypeArgTree, Constant, Any, Param, Spec, Names, TypeArgTrees, none, argument, name_of}
use Rattle.cl_syntax.specs.declared.type_names.StandardType.{StandardType}
use Rattle.cl_lattice.specs.Expansion.{most_levels}
use Rattle.cl_lattice.specs.World.{World, kind_named}
use Rattle.cl_lattice.specs.declared.declared_types.TypeKind.{TypeKind}
use Rattle.cl_lattice.specs.declared.declared_types.TypeKind.TheVariants as kind
use Rattle.cl_lattice.specs.Members.{is_token}

-- each name at its last occurrence
abbrev pub last_kept : List (List ℕ) → List (List ℕ)
last_kept [] = []
last_kept (x ∷ xs) = if is_token xs x then last_kept xs else x ∷ last_kept xs

-- the name of the specifier that an argument is
abbrev pub part_name : TypeArgTree → List (List ℕ)
part_name (Constant d) = []
part_name Any = []
part_name (Param x) = []
part_name (Spec s) = name_of s ∷ []
part_name (Names ts) = []

-- the names of the specifiers among arguments
abbrev pub part_names : TypeArgTrees → List (List ℕ)
part_names none = []
part_names (argument a ts) = part_name a ++ part_names ts

-- the direct supertypes of a user type: the parts of its `and`, or what it inherits from
abbrev pub supertypes : TypeSpecTree → List (List ℕ)
supertypes (specifier x ts o) = if bytes_eq x (codes "and") then part_names ts else x ∷ []

-- t has itself alone, and each other standard type itself and t
abbrev pub standard_precedence : List ℕ → List (List ℕ)
standard_precedence x = if bytes_eq x (codes "t") then x ∷ [] else x ∷ codes "t" ∷ []

-- a list that is there
abbrev pub listed : Option (List (List ℕ)) → List (List ℕ)
listed None = []
listed (Some xs) = xs

-- the lists of names, joined
abbrev pub joined : (List ℕ → Option (List (List ℕ))) → List (List ℕ) → List (List ℕ)
joined list_of [] = []
joined list_of (x ∷ xs) = listed (list_of x) ++ joined list_of xs

-- a type's own name, and the lists of its direct supertypes
abbrev pub behind_own : (List ℕ → Option (List (List ℕ))) → List ℕ → List (List ℕ) → List (List ℕ)
behind_own list_of x supers = last_kept (x ∷ joined list_of supers)

-- the precedence list of a declared type, by its kind; None where the name is not declared
abbrev pub declared_precedence : (List ℕ → Option (List (List ℕ))) → Option TypeKind → List ℕ → Option (List (List ℕ))
declared_precedence list_of None x = None
declared_precedence list_of (Some kind.Record) x = Some (x ∷ codes "t" ∷ [])
declared_precedence list_of (Some (kind.Host low high)) x = Some (x ∷ codes "integer" ∷ codes "t" ∷ [])
declared_precedence list_of (Some (kind.User u)) x = Some (behind_own list_of x (supertypes u.inherit_from))

-- the precedence list of a standard type, or of a declared one
abbrev pub precedence_by : (List ℕ → Option (List (List ℕ))) → Option StandardType → Option TypeKind → List ℕ → Option (List (List ℕ))
precedence_by list_of (Some t) k x = Some (standard_precedence x)
precedence_by list_of None k x = declared_precedence list_of k x

-- through so many types one inside another
abbrev pub precedence_within : ℕ → World → List ℕ → Option (List (List ℕ))
precedence_within zero w x = None
precedence_within (suc n) w x = precedence_by (precedence_within n w) (standard_named x) (kind_named x w) x

-- the precedence list of a name; None where no such type is. No type of a lattice inherits through more than eight names.
unfoldable pub precedence : World → List ℕ → Option (List (List ℕ))
precedence w x = precedence_within most_levels w x
