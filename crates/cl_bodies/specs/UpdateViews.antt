-- What the keys of an update say, as the program holds it.
use Rattle.std.specs.Prelude.{option_map}
use Rattle.cl_syntax.specs.ExprTree.{expr_trees_of}
use Rattle.cl_bodies.specs.Updates.{Said}
use Rattle.cl_bodies.specs.declared.updates.Said as program

-- what a `Said` of the program is
abbrev pub said_of : program.Said → Said
said_of s = record { id = s.id; cache = option_map (λ ts. expr_trees_of ts.items) s.cache }
