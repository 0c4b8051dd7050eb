use Rattle.std.proofs.Common.{◌+◌, [], length}
use Rattle.cl_lattice.specs.Arguments.{given_by, trees_of}
use Rattle.cl_lattice.specs.Expanded.{weight, weight_all}
use Rattle.cl_lattice.specs.Expansion.{expand_parts, expansion, own_type}
use Rattle.cl_lattice.specs.SubtypeHeads.{head_type}
use Rattle.cl_lattice.proofs.SubtypeMeasures.{measure}
use Rattle.cl_lattice.proofs.lattices.Lattice.+subtypes.Given as goal

abbrev pub decreases-is_subtype : goal.decreases-is_subtype
decreases-is_subtype l =
    measure (weight (expansion l.self.now (given_by l.bound.now) l.first.now)) (weight (expansion l.self.now [] l.second.now)) 6

abbrev pub decreases-spec_is_below : goal.decreases-spec_is_below
decreases-spec_is_below l =
    measure (weight (expansion l.self.now (given_by l.bound.now) l.first.now)) (weight (head_type l.self.now [] l.second.now)) 6

abbrev pub decreases-is_below_spec : goal.decreases-is_below_spec
decreases-is_below_spec l =
    measure (weight (head_type l.self.now (given_by l.bound.now) l.first.now)) (weight (expansion l.self.now [] l.second.now)) 6

abbrev pub decreases-is_below : goal.decreases-is_below
decreases-is_below l =
    measure (weight (head_type l.self.now (given_by l.bound.now) l.first.now)) (weight (head_type l.self.now [] l.second.now)) 5

abbrev pub decreases-is_below_whole : goal.decreases-is_below_whole
decreases-is_below_whole l =
    measure (weight (head_type l.self.now (given_by l.bound.now) l.first.now)) (weight (head_type l.self.now [] l.second.now)) 4

abbrev pub decreases-is_below_either : goal.decreases-is_below_either
decreases-is_below_either l =
    measure (weight (head_type l.self.now (given_by l.bound.now) l.first.now)) (weight (head_type l.self.now [] l.second.now)) 3

abbrev pub decreases-each_is_below : goal.decreases-each_is_below
decreases-each_is_below l =
    measure (weight_all (expand_parts l.self.now (own_type l.self.now) (given_by l.bound.now) (trees_of l.parts.now))) (weight (head_type l.self.now [] l.second.now)) 0 + length l.parts.now

abbrev pub decreases-some_is_below : goal.decreases-some_is_below
decreases-some_is_below l =
    measure (weight_all (expand_parts l.self.now (own_type l.self.now) (given_by l.bound.now) (trees_of l.parts.now))) (weight (head_type l.self.now [] l.second.now)) 0 + length l.parts.now

abbrev pub decreases-is_below_each : goal.decreases-is_below_each
decreases-is_below_each l =
    measure (weight (head_type l.self.now (given_by l.bound.now) l.first.now)) (weight_all (expand_parts l.self.now (own_type l.self.now) [] (trees_of l.parts.now))) 0 + length l.parts.now

abbrev pub decreases-by_first : goal.decreases-by_first
decreases-by_first l =
    measure (weight (head_type l.self.now (given_by l.bound.now) l.first.now)) (weight (head_type l.self.now [] l.second.now)) 1

abbrev pub decreases-by_second : goal.decreases-by_second
decreases-by_second l =
    measure (weight (head_type l.self.now (given_by l.bound.now) l.first.now)) (weight (head_type l.self.now [] l.second.now)) 2

abbrev pub decreases-by_second_spec : goal.decreases-by_second_spec
decreases-by_second_spec l =
    measure (weight (head_type l.self.now (given_by l.bound.now) l.first.now)) (weight (expansion l.self.now [] l.second.now)) 3

abbrev pub decreases-by_some_second : goal.decreases-by_some_second
decreases-by_some_second l =
    measure (weight (head_type l.self.now (given_by l.bound.now) l.first.now)) (weight_all (expand_parts l.self.now (own_type l.self.now) [] (trees_of l.parts.now))) 0 + length l.parts.now

abbrev pub decreases-by_heads : goal.decreases-by_heads
decreases-by_heads l =
    measure (weight (head_type l.self.now (given_by l.bound.now) l.first.now)) (weight (head_type l.self.now [] l.second.now)) 1

abbrev pub decreases-inner_is_below : goal.decreases-inner_is_below
decreases-inner_is_below l =
    measure (weight (head_type l.self.now (given_by l.bound.now) l.first.now)) (weight (head_type l.self.now [] l.second.now)) 0
