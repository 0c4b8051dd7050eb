use Rattle.std.proofs.Common.{◌≡◌, ◌+◌, ◌*◌, [], drop}
use Rattle.cl_value.specs.Data.{size_of, size_of_items}
use Rattle.cl_value.specs.Value.{data_of, parts_of}
use Rattle.cl_lattice.specs.Arguments.{given, given_by, tokens_in, trees_of, values_of}
use Rattle.cl_lattice.specs.Expanded.{weight, weight_all}
use Rattle.cl_lattice.specs.Expansion.{declared_type, expand_parts, expansion, own_type, standard_type}
use Rattle.cl_lattice.specs.Members.{every, memberships}
use Rattle.cl_lattice.specs.Weights.{args_weight, falling, first_weight}
use Rattle.cl_lattice.specs.World.{kind_named}
use Rattle.cl_lattice.proofs.lattices.Lattice.+member.Given as goal

abbrev pub decreases-member_under : goal.decreases-member_under
decreases-member_under g l = falling l.self.now (size_of (data_of l.value.now)) (4 * weight (expansion l.self.now (given_by l.bound.now) l.spec.now) + 2)

abbrev pub decreases-standard_holds : goal.decreases-standard_holds
decreases-standard_holds g l =
    falling l.self.now (size_of (data_of l.value.now)) (4 * weight (standard_type l.standard [] (values_of (given_by l.bound.now) (trees_of l.args.now)) (tokens_in (trees_of l.args.now)) (expand_parts l.self.now (own_type l.self.now) (given_by l.bound.now) (trees_of l.args.now))) + 1)

abbrev pub decreases-declared_holds : goal.decreases-declared_holds
decreases-declared_holds g l =
    falling l.self.now (size_of (data_of l.value.now)) (4 * weight (declared_type (own_type l.self.now) (kind_named l.name.now l.self.now) l.name.now (values_of (given_by l.bound.now) (trees_of l.args.now))) + 1)

abbrev pub decreases-user_holds : goal.decreases-user_holds
decreases-user_holds g l =
    falling l.self.now (size_of (data_of l.value.now)) (4 * weight (expansion l.self.now (given l.own.now.parameters (values_of (given_by l.bound.now) (trees_of l.args.now))) l.own.now.inherit_from) + 3)

abbrev pub decreases-sequence_holds : goal.decreases-sequence_holds
decreases-sequence_holds g l = falling l.self.now (size_of (data_of l.value.now)) (4 * first_weight (expand_parts l.self.now (own_type l.self.now) (given_by l.bound.now) (trees_of l.args.now)) + 3)

abbrev pub decreases-beside_holds : goal.decreases-beside_holds
decreases-beside_holds g l = falling l.self.now (size_of (data_of l.value.now)) (4 * first_weight (expand_parts l.self.now (own_type l.self.now) (given_by l.bound.now) (trees_of l.args.now)) + 3)

abbrev pub decreases-some_holds : goal.decreases-some_holds
decreases-some_holds g l = falling l.self.now (size_of (data_of l.value.now)) (4 * weight_all (expand_parts l.self.now (own_type l.self.now) (given_by l.bound.now) (trees_of l.args.now)) + 3)

abbrev pub decreases-each_holds : goal.decreases-each_holds
decreases-each_holds g l = falling l.self.now (size_of (data_of l.value.now)) (4 * weight_all (expand_parts l.self.now (own_type l.self.now) (given_by l.bound.now) (trees_of l.args.now)) + 3)

abbrev pub decreases-all_hold : goal.decreases-all_hold
decreases-all_hold g l = falling l.self.now (size_of_items (parts_of l.values.now)) (4 * weight (expansion l.self.now (given_by l.bound.now) l.spec.now) + 3)

abbrev pub decreases-command_holds : goal.decreases-command_holds
decreases-command_holds g l = falling l.self.now (size_of (data_of l.value.now)) 4

abbrev pub decreases-list_is_command : goal.decreases-list_is_command
decreases-list_is_command g l = falling l.self.now (1 + size_of_items (parts_of l.parts.now)) 3

abbrev pub decreases-fit_command : goal.decreases-fit_command
decreases-fit_command g l = falling l.self.now (1 + size_of_items (parts_of l.values.now)) 0

abbrev pub decreases-fit : goal.decreases-fit
decreases-fit g l = falling l.self.now (size_of_items (parts_of l.values.now)) (4 * args_weight l.self.now l.specs.now + 3)

abbrev pub invariant-all_hold-loop-value : goal.invariant-all_hold-loop-value
invariant-all_hold-loop-value g l =
    every (memberships l.self (g.P.Predicates.answers l.preds) (parts_of (drop l.value-index l.values))) (expansion l.self (given_by l.bound) l.spec)
    ≡ every (memberships l.self (g.P.Predicates.answers l.preds) (parts_of l.values)) (expansion l.self (given_by l.bound) l.spec)
