use Rattle.std.proofs.Common.{◌+◌, ◌*◌, ◌^◌, [], drop, length}
use Rattle.cl_lattice.specs.Arguments.{given_by, tokens_in, trees_of}
use Rattle.cl_lattice.specs.Expanded.{each_of, null_or, sequence, some_of, token_or, weight, weight_all}
use Rattle.cl_lattice.specs.Expansion.{expand_parts, expansion, own_type}
use Rattle.cl_lattice.specs.SubtypeHeads.{head_type}
use Rattle.cl_lattice.specs.SubtypeRows.{row_of}
use Rattle.cl_lattice.proofs.SubtypeLoopLemmas.{EachLeft, SomeLeft}
use Rattle.cl_lattice.proofs.lattices.Lattice.+filling.Given as goal

abbrev pub decreases-fill : goal.decreases-fill
decreases-fill l = 2 ^ 65 * weight (expansion l.self.now [] l.second.now) + 7

abbrev pub decreases-fill_named : goal.decreases-fill_named
decreases-fill_named l = 2 ^ 65 * weight (expansion l.self.now [] l.second.now) + 6

abbrev pub decreases-fill_head : goal.decreases-fill_head
decreases-fill_head l = 2 ^ 65 * weight (head_type l.self.now [] l.second.now) + 5

abbrev pub decreases-fill_or : goal.decreases-fill_or
decreases-fill_or l = 2 ^ 65 * weight (some_of (expand_parts l.self.now (own_type l.self.now) [] (trees_of l.parts.now))) + 4

abbrev pub decreases-fill_and : goal.decreases-fill_and
decreases-fill_and l = 2 ^ 65 * weight (each_of (expand_parts l.self.now (own_type l.self.now) [] (trees_of l.parts.now))) + 4

abbrev pub decreases-fill_sequence : goal.decreases-fill_sequence
decreases-fill_sequence l = 2 ^ 65 * weight (sequence (expansion l.self.now [] l.part.now)) + 4

abbrev pub decreases-fill_null : goal.decreases-fill_null
decreases-fill_null l = 2 ^ 65 * weight (null_or (expansion l.self.now [] l.part.now)) + 4

abbrev pub decreases-fill_token : goal.decreases-fill_token
decreases-fill_token l = 2 ^ 65 * weight (token_or (tokens_in (trees_of l.args.now)) (expansion l.self.now [] l.part.now)) + 4

abbrev pub decreases-fill_some : goal.decreases-fill_some
decreases-fill_some l = 2 ^ 65 * weight_all (expand_parts l.self.now (own_type l.self.now) [] (trees_of l.parts.now)) + length l.parts.now

abbrev pub decreases-fill_each : goal.decreases-fill_each
decreases-fill_each l = 2 ^ 65 * weight_all (expand_parts l.self.now (own_type l.self.now) [] (trees_of l.parts.now)) + length l.parts.now

abbrev pub invariant-fill_some-loop-arg : goal.invariant-fill_some-loop-arg
invariant-fill_some-loop-arg l =
    SomeLeft (head_type l.self (given_by l.bound) l.first) (expand_parts l.self (own_type l.self) [] (trees_of l.parts))
    (expand_parts l.self (own_type l.self) [] (trees_of (drop l.arg-index l.parts))) l.initial.out.items l.out.items l.some (row_of l.known.firsts.now) l.known.inner.now

abbrev pub invariant-fill_each-loop-arg : goal.invariant-fill_each-loop-arg
invariant-fill_each-loop-arg l =
    EachLeft (head_type l.self (given_by l.bound) l.first) (expand_parts l.self (own_type l.self) [] (trees_of l.parts))
    (expand_parts l.self (own_type l.self) [] (trees_of (drop l.arg-index l.parts))) l.initial.out.items l.out.items l.each (row_of l.known.firsts.now) l.known.inner.now
