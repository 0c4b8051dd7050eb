-- What texts of values are made and read by: an application, its types, and the host types with their names.
use Rattle.std.specs.Prelude.{ℕ, List, [], Option, Some, None}
use Rattle.cl_application.specs.declared.applications.App.{App}
use Rattle.cl_lattice.specs.Expansion.{next_spec}
use Rattle.cl_ptext.specs.Hosts.{NameEntries}
use Rattle.cl_lattice.specs.World.{World, kind_named}
use Rattle.cl_lattice.specs.declared.declared_types.TypeKind.{TypeKind}
use Rattle.cl_lattice.specs.declared.declared_types.TypeKind.TheVariants as kind
use Rattle.cl_syntax.specs.TypeSpecTree.{TypeSpecTree, specifier, plain_type, TypeArgTrees, none}

-- an application, its types, and the names of its host types
pub record Book : Type 0 where
  pub app : App
  pub world : World
  -- the names of a host type, by the name of the type
  pub hosts : List ℕ → NameEntries

-- ---- specifiers beside their expansions

-- the arguments of a specifier
abbrev pub args_of : TypeSpecTree → TypeArgTrees
args_of (specifier x ts o) = ts

-- the separator that is given, else a comma
abbrev pub separator_given : Option ℕ → ℕ
separator_given None = 44
separator_given (Some b) = b

-- the byte between the parts of a text: that of the specifier's `:separator`, else a comma
abbrev pub separator_of : TypeSpecTree → ℕ
separator_of (specifier x ts o) = separator_given o.separator

-- the specifier there; one without a name where there is none
abbrev pub spec_there : Option (TypeSpecTree × TypeArgTrees) → TypeSpecTree
spec_there None = plain_type []
spec_there (Some p) = p.0

-- the arguments there; none where there is no specifier
abbrev pub args_there : Option (TypeSpecTree × TypeArgTrees) → TypeArgTrees
args_there None = none
args_there (Some p) = p.1

-- the first specifier among arguments
abbrev pub first_spec : TypeArgTrees → TypeSpecTree
first_spec args = spec_there (next_spec args)

-- the arguments behind the first specifier
abbrev pub behind_first : TypeArgTrees → TypeArgTrees
behind_first args = args_there (next_spec args)

-- the first specifier among the arguments of one
abbrev pub inner_spec : TypeSpecTree → TypeSpecTree
inner_spec s = first_spec (args_of s)

-- what a user type inherits from; a specifier itself for every other kind
abbrev pub inherited_in : TypeSpecTree → Option TypeKind → TypeSpecTree
inherited_in s None = s
inherited_in s (Some kind.Record) = s
inherited_in s (Some (kind.Host low high)) = s
inherited_in s (Some (kind.User u)) = u.inherit_from

-- the specifier that a user type inherits from
abbrev pub inherited_spec : Book → List ℕ → TypeSpecTree → TypeSpecTree
inherited_spec b x s = inherited_in s (kind_named x b.world)
