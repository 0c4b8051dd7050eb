-- What the rows of membership are, each by the value alone.
use Rattle.std.specs.Prelude.{Bool, false, ◌&&◌, ◌||◌, List}
use Rattle.cl_value.specs.Data.{Data}
use Rattle.cl_syntax.specs.declared.type_specs.TypeArg.{TypeArg}
use Rattle.cl_lattice.specs.Arguments.{given_by, trees_of}
use Rattle.cl_lattice.specs.Expanded.{Expanded, ExpandedTypes, none, part}
use Rattle.cl_lattice.specs.Expansion.{expand_parts, own_type}
use Rattle.cl_lattice.specs.Members.{Answers, asks, every, inside, is_command, is_in, is_in_each, is_in_some, is_list}
use Rattle.cl_lattice.specs.World.{World}
use Rattle.cl_lattice.specs.declared.arguments.Bound.{Bound}

-- the types among arguments, with the parameters of the declaration around put in
abbrev pub parts_under : World → Bound → List TypeArg → ExpandedTypes
parts_under w b ts = expand_parts w (own_type w) (given_by b) (trees_of ts)

-- a value is a member of an expanded type
abbrev pub in_type : World → Answers → Data → Expanded → Bool
in_type w p d t = is_in w p d (inside w p d) t

-- a value is a member of some of the types
abbrev pub in_some : World → Answers → Data → ExpandedTypes → Bool
in_some w p d ts = is_in_some w p d (inside w p d) ts

-- a value is a member of each of the types
abbrev pub in_each : World → Answers → Data → ExpandedTypes → Bool
in_each w p d ts = is_in_each w p d (inside w p d) ts

-- a value is the symbol of a command that is declared, with arguments that are members of its types
abbrev pub in_command : World → Answers → Data → Bool
in_command w p d = is_command w d (inside w p d)

-- lists of members of the first part; none where there is no part
abbrev pub in_sequence : World → Answers → Data → ExpandedTypes → Bool
in_sequence w p d none = false
in_sequence w p d (part t ts) = is_list d && every (inside w p d) t

-- what is taken beside the first part, and its members; none where there is no part
abbrev pub in_beside : World → Answers → Data → Bool → ExpandedTypes → Bool
in_beside w p d beside none = false
in_beside w p d beside (part t ts) = beside || in_type w p d t

-- whether a predicate may be asked for members of the first part
abbrev pub first_asks : Bool → ExpandedTypes → Bool
first_asks c none = false
first_asks c (part t ts) = asks c t
