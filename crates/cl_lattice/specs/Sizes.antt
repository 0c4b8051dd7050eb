-- The size of an expanded specifier: the type names in it, those of what its user types inherit from included, and the arguments that are no
-- specifiers.
use Rattle.std.specs.Prelude.{ℕ, zero, suc, ◌+◌, nat_le, Bool, false, length, Option, Some, None}
use Rattle.cl_syntax.specs.StandardTypes.{standard_named}
use Rattle.cl_syntax.specs.TypeSpecTree.{TypeSpecTree, specifier, TypeArgTree, Constant, Any, Param, Spec, Names, TypeArgTrees, none, argument}
use Rattle.cl_syntax.specs.declared.type_names.StandardType.{StandardType}
use Rattle.cl_lattice.specs.World.{World, kind_named}
use Rattle.cl_lattice.specs.declared.declared_types.TypeKind.{TypeKind}
use Rattle.cl_lattice.specs.declared.declared_types.TypeKind.TheVariants as kind

-- two sizes together; None where one is none
abbrev pub both : Option ℕ → Option ℕ → Option ℕ
both None n = None
both (Some m) None = None
both (Some m) (Some n) = Some (m + n)

-- the specifier that a name stands for beside its own arguments: what a user type inherits from
abbrev pub inherited_by : Option StandardType → Option TypeKind → Option TypeSpecTree
inherited_by (Some t) k = None
inherited_by None None = None
inherited_by None (Some kind.Record) = None
inherited_by None (Some (kind.Host low high)) = None
inherited_by None (Some (kind.User u)) = Some u.inherit_from

-- the size of what a user type inherits from; 0 for every other type
abbrev pub inherited_size : (TypeSpecTree → Option ℕ) → Option TypeSpecTree → Option ℕ
inherited_size size None = Some 0
inherited_size size (Some s) = size s

-- an argument that is no specifier counts one, and a token each
abbrev pub sized_arg : (TypeSpecTree → Option ℕ) → TypeArgTree → Option ℕ
sized_arg size (Constant d) = Some 1
sized_arg size Any = Some 1
sized_arg size (Param x) = Some 1
sized_arg size (Spec s) = size s
sized_arg size (Names xs) = Some (length xs)

-- the sizes of arguments together
abbrev pub sized_args : (TypeSpecTree → Option ℕ) → TypeArgTrees → Option ℕ
sized_args size none = Some 0
sized_args size (argument a ts) = both (sized_arg size a) (sized_args size ts)

-- the nodes of a specifier that nests at most so many names one inside another; None where it nests deeper
abbrev pub nodes_within : ℕ → World → TypeSpecTree → Option ℕ
nodes_within zero w s = None
nodes_within (suc n) w (specifier x ts o) =
    both (Some 1) (both (sized_args (nodes_within n w) ts) (inherited_size (nodes_within n w) (inherited_by (standard_named x) (kind_named x w))))

-- how many names may nest one inside another
abbrev pub most_depth : ℕ
most_depth = 8

-- how many nodes an expanded specifier may have
abbrev pub most_nodes : ℕ
most_nodes = 256

-- a size that is there and within the limit
abbrev pub is_small : Option ℕ → Bool
is_small None = false
is_small (Some n) = nat_le n most_nodes

-- at most eight names one inside another, and at most 256 nodes
unfoldable pub fits : World → TypeSpecTree → Bool
fits w s = is_small (nodes_within most_depth w s)
