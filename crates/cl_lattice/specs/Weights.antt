-- A number that falls where members of a value are looked for: the value's parts are smaller, or the type is.
use Rattle.std.specs.Prelude.{ℕ, ◌+◌, ◌*◌, List, [], ◌∷◌}
use Rattle.cl_syntax.specs.TypeSpecTree.{TypeSpecTree}
use Rattle.cl_syntax.specs.declared.type_decls.CommandType.{CommandType}
use Rattle.cl_lattice.specs.Expanded.{ExpandedTypes, none, part, weight}
use Rattle.cl_lattice.specs.Expansion.{expansion}
use Rattle.cl_lattice.specs.World.{World}

-- a number above the size of each argument of a command
abbrev pub args_weight : World → List TypeSpecTree → ℕ
args_weight w [] = 0
args_weight w (s ∷ ss) = weight (expansion w [] s) + 1 + args_weight w ss

-- such numbers of all commands together
abbrev pub all_weights : World → List (List ℕ × CommandType) → ℕ
all_weights w [] = 0
all_weights w (e ∷ es) = args_weight w e.1.args + all_weights w es

-- a number above that of all arguments of a command
unfoldable pub span : World → ℕ
span w = 4 * all_weights w w.commands + 4

-- of a value of this size, and so much of a type
abbrev pub falling : World → ℕ → ℕ → ℕ
falling w size more = size * span w + more

-- the size of the first part; 0 where there is no part
abbrev pub first_weight : ExpandedTypes → ℕ
first_weight none = 0
first_weight (part t ts) = weight t
