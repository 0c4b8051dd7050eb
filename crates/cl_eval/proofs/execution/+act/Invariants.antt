use Rattle.std.proofs.Common.{◌≡◌, ◌+◌, ◌*◌, ◌^◌, drop, map}
use Rattle.cl_value.specs.Value.{data_of}
use Rattle.cl_syntax.specs.ActTree.{act_trees_of}
use Rattle.cl_eval.specs.Statements.{in_turn, for_each}
use Rattle.cl_eval.specs.Stage.{played_on}
use Rattle.cl_eval.proofs.execution.+act.Given as goal

abbrev pub decreases-act : goal.decreases-act
decreases-act g l = l.here.now.left * 2 ^ 66

abbrev pub decreases-act_parts : goal.decreases-act_parts
decreases-act_parts g l = l.here.now.left * 2 ^ 66 + 2 ^ 65

abbrev pub decreases-act_all : goal.decreases-act_all
decreases-act_all g l = l.here.now.left * 2 ^ 66 + 2

abbrev pub decreases-act_in : goal.decreases-act_in
decreases-act_in g l = l.here.now.left * 2 ^ 66 + 3

abbrev pub decreases-act_each : goal.decreases-act_each
decreases-act_each g l = l.here.now.left * 2 ^ 66 + 3

abbrev pub invariant-act_all-loop-statement : goal.invariant-act_all-loop-statement
invariant-act_all-loop-statement g l = record {
  meaning : played_on g.T.Types.holds l.here in_turn (act_trees_of (drop l.statement-index l.statements)) l.effects l.meter.cost l.meter.deepest
      ≡ played_on g.T.Types.holds l.here in_turn (act_trees_of l.statements) l.initial.effects l.initial.meter.cost l.initial.meter.deepest;
  ledger : l.steps + l.initial.meter.cost ≡ l.initial.steps + l.meter.cost;
}

abbrev pub invariant-act_each-loop-item : goal.invariant-act_each-loop-item
invariant-act_each-loop-item g l = record {
  meaning : played_on g.T.Types.holds l.here for_each l.name (act_trees_of l.body) (map data_of (drop l.item-index l.list)) l.effects l.meter.cost l.meter.deepest
      ≡ played_on g.T.Types.holds l.here for_each l.name (act_trees_of l.body) (map data_of l.list) l.initial.effects l.initial.meter.cost l.initial.meter.deepest;
  ledger : l.steps + l.initial.meter.cost ≡ l.initial.steps + l.meter.cost;
}
