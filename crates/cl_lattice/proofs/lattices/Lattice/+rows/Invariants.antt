use Rattle.std.proofs.Common.{◌+◌, ◌*◌, ◌^◌, length}
use Rattle.cl_lattice.specs.Arguments.{given_by, trees_of}
use Rattle.cl_lattice.specs.Expanded.{weight, weight_all}
use Rattle.cl_lattice.specs.Expansion.{expand_parts, expansion, own_type}
use Rattle.cl_lattice.specs.SubtypeHeads.{head_type}
use Rattle.cl_lattice.proofs.lattices.Lattice.+rows.Given as goal

abbrev pub decreases-row : goal.decreases-row
decreases-row l = 2 ^ 65 * weight (expansion l.self.now (given_by l.bound.now) l.first.now) + 6

abbrev pub decreases-head_row : goal.decreases-head_row
decreases-head_row l = 2 ^ 65 * weight (head_type l.self.now (given_by l.bound.now) l.first.now) + 5

abbrev pub decreases-filled_row : goal.decreases-filled_row
decreases-filled_row l = 2 ^ 65 * weight (head_type l.self.now (given_by l.bound.now) l.first.now) + 4

abbrev pub decreases-firsts : goal.decreases-firsts
decreases-firsts l = 2 ^ 65 * weight (head_type l.self.now (given_by l.bound.now) l.first.now) + 4

abbrev pub decreases-inner_row : goal.decreases-inner_row
decreases-inner_row l = 2 ^ 65 * weight (head_type l.self.now (given_by l.bound.now) l.first.now) + 3

abbrev pub decreases-each_row : goal.decreases-each_row
decreases-each_row l = 2 ^ 65 * weight_all (expand_parts l.self.now (own_type l.self.now) (given_by l.bound.now) (trees_of l.parts.now)) + length l.parts.now

abbrev pub decreases-some_row : goal.decreases-some_row
decreases-some_row l = 2 ^ 65 * weight_all (expand_parts l.self.now (own_type l.self.now) (given_by l.bound.now) (trees_of l.parts.now)) + length l.parts.now
