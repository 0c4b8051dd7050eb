use Rattle.std.proofs.Common.{◌≡◌, ◌∙◌, ◌∷◌, suc, drop, drop-cons, map, ap, sym}
use Rattle.std.proofs.lemmas.Result.{err_from_is_err_and}
use Rattle.cl_value.specs.Value.{data_of}
use Rattle.cl_value.specs.declared.Value.{Value}
use Rattle.cl_syntax.specs.ActTree as act
use Rattle.cl_syntax.specs.ActTree.{act_trees_of}
use Rattle.cl_syntax.specs.Act.{act_tree_of}
use Rattle.cl_syntax.specs.Expr.{bindings_of}
use Rattle.cl_syntax.specs.declared.statements.Act.{Act}
use Rattle.cl_eval.specs.Scope.{variables_of}
use Rattle.cl_eval.specs.Stage.{doing_on, meaning_on}
use Rattle.cl_eval.proofs.StatementLemmas.{does-entered, grows-on, stop-in_turn, stop-for_each, stop-acts_in, stop-choice, stop-when, stop-dolist}
use Rattle.cl_eval.proofs.execution.+act.Goals as goal

pub act-returns-clause-meaning : goal.act-returns-clause-meaning
act-returns-clause-meaning g t c =
    rw (does-entered c.args.here.now.left c.args.here.now.program.now.limits.budget c.args.here.now.program.now.app.now
    (g.T.Types.holds c.args.here.now.program.now.types.now) c.args.here.now.level (variables_of c.args.here.now.scope.now) c.args.statement.now
    c.args.effects.now c.args.meter.now.cost c.args.meter.now.deepest _ _ c.in_ok-enter.ensures.meaning)
    c.act_parts.ensures.meaning

pub act_parts-returns-in_err-is_true-in-If-clause-meaning : goal.act_parts-returns-in_err-is_true-in-If-clause-meaning
act_parts-returns-in_err-is_true-in-If-clause-meaning g t c =
    let p = err_from_is_err_and c.from_residual-in_err-is_true-in-If.result c.from_residual-in_err-is_true-in-If.ensures.1 in
    let whole : c.args.statement.now ≡ act.If c.in-If.choice.value.test c.in-If.choice.value.then c.in-If.choice.value.other =
    sym c.statement.view_is ∙ ap act_tree_of c.in-If.is in
    let stop = rw c.deref.ensures at c.in_err-is_true-in-If.ensures.meaning in
    rw (p.1, p.2, whole)
    (stop-choice c.args.here.now.program.now.app.now (g.T.Types.holds c.args.here.now.program.now.types.now) (meaning_on c.args.here.now)
    (doing_on g.T.Types.holds c.args.here.now) (grows-on g.T.Types.holds c.args.here.now) c.args.here.now.level
    (variables_of c.args.here.now.scope.now) c.in-If.choice.value.test c.in-If.choice.value.then c.in-If.choice.value.other c.args.effects.now
    c.args.effects.now c.in_err-is_true-in-If.field-0.0 c.is_true.new.meter c.args.meter.now.cost c.args.meter.now.deepest stop)

pub act_parts-returns-in_err-is_true-in-When-clause-meaning : goal.act_parts-returns-in_err-is_true-in-When-clause-meaning
act_parts-returns-in_err-is_true-in-When-clause-meaning g t c =
    let p = err_from_is_err_and c.from_residual-in_err-is_true-in-When.result c.from_residual-in_err-is_true-in-When.ensures.1 in
    let whole : c.args.statement.now ≡ act.When c.in-When.test (act_trees_of c.in-When.body) = sym c.statement.view_is ∙ ap act_tree_of c.in-When.is in
    rw (p.1, p.2, whole)
    (stop-when c.args.here.now.program.now.app.now (g.T.Types.holds c.args.here.now.program.now.types.now) (meaning_on c.args.here.now)
    (doing_on g.T.Types.holds c.args.here.now) (grows-on g.T.Types.holds c.args.here.now) c.args.here.now.level
    (variables_of c.args.here.now.scope.now) c.in-When.test (act_trees_of c.in-When.body) c.args.effects.now c.args.effects.now
    c.in_err-is_true-in-When.field-0.0 c.is_true-in-When.new.meter c.args.meter.now.cost c.args.meter.now.deepest
    c.in_err-is_true-in-When.ensures.meaning)

pub act_parts-returns-in_err-list-in-Dolist-clause-meaning : goal.act_parts-returns-in_err-list-in-Dolist-clause-meaning
act_parts-returns-in_err-list-in-Dolist-clause-meaning g t c =
    let p = err_from_is_err_and c.from_residual-in_err-list-in-Dolist.result c.from_residual-in_err-list-in-Dolist.ensures.1 in
    let whole : c.args.statement.now ≡ act.Dolist c.in-Dolist.name c.in-Dolist.list (act_trees_of c.in-Dolist.body) = sym c.statement.view_is ∙ ap act_tree_of c.in-Dolist.is in
    rw (p.1, p.2, whole)
    (stop-dolist c.args.here.now.program.now.app.now (g.T.Types.holds c.args.here.now.program.now.types.now) (meaning_on c.args.here.now)
    (doing_on g.T.Types.holds c.args.here.now) (grows-on g.T.Types.holds c.args.here.now) c.args.here.now.level
    (variables_of c.args.here.now.scope.now) c.in-Dolist.name c.in-Dolist.list (act_trees_of c.in-Dolist.body) c.args.effects.now c.args.effects.now
    c.in_err-list-in-Dolist.field-0.0 c.list_of.new.meter c.args.meter.now.cost c.args.meter.now.deepest
    c.in_err-list-in-Dolist.ensures.meaning)

pub act_all-returns-in_err-act-clause-meaning : goal.act_all-returns-in_err-act-clause-meaning
act_all-returns-in_err-act-clause-meaning g t c =
    let p = err_from_is_err_and c.from_residual.result c.from_residual.ensures.1 in
    let at = c.loop-statement.statement-index in
    let rest = drop (suc at) c.args.statements.now in
    let step : drop at c.args.statements.now ≡ c.statement-item.result ∷ rest =
    drop-cons c.args.statements.now at c.statement-item.result c.loop-statement-test.true ∙ ap (λ (a : Act). a ∷ rest) (sym c.statement-item.is) in
    rw (p.1, p.2, ← c.loop-statement.invariant.meaning, step)
    (stop-in_turn (doing_on g.T.Types.holds c.args.here.now) (grows-on g.T.Types.holds c.args.here.now) c.args.here.now.level
    (variables_of c.args.here.now.scope.now) c.statement-item.result (act_trees_of rest) c.loop-statement.effects c.act.new.effects
    c.in_err-act.field-0.0 c.act.new.meter c.loop-statement.meter.cost c.loop-statement.meter.deepest
    c.in_err-act.ensures.meaning)

pub act_in-returns-in_err-frame-clause-meaning : goal.act_in-returns-in_err-frame-clause-meaning
act_in-returns-in_err-frame-clause-meaning g t c =
    let p = err_from_is_err_and c.from_residual.result c.from_residual.ensures.1 in
    rw (p.1, p.2)
    (stop-acts_in (meaning_on c.args.here.now c.args.effects.now.slots) (doing_on g.T.Types.holds c.args.here.now)
    (grows-on g.T.Types.holds c.args.here.now) c.args.here.now.level (bindings_of c.args.bindings.now) (act_trees_of c.args.body.now)
    (variables_of c.args.here.now.scope.now) (variables_of c.args.here.now.scope.now) c.args.effects.now c.args.effects.now c.in_err-frame.field-0.0
    c.frame_of.new.meter c.args.meter.now.cost c.args.meter.now.deepest c.in_err-frame.ensures.meaning)

pub act_each-returns-in_err-act_all-clause-meaning : goal.act_each-returns-in_err-act_all-clause-meaning
act_each-returns-in_err-act_all-clause-meaning g t c =
    let p = err_from_is_err_and c.from_residual.result c.from_residual.ensures.1 in
    let at = c.loop-item.item-index in
    let rest = drop (suc at) c.args.list.now in
    let step : drop at c.args.list.now ≡ c.item-item.result ∷ rest =
    drop-cons c.args.list.now at c.item-item.result c.loop-item-test.true ∙ ap (λ (a : Value). a ∷ rest) (sym c.item-item.is) in
    rw (p.1, p.2, ← c.loop-item.invariant.meaning, step)
    (stop-for_each (doing_on g.T.Types.holds c.args.here.now) (grows-on g.T.Types.holds c.args.here.now) c.args.here.now.level
    (variables_of c.args.here.now.scope.now) c.args.name.now (act_trees_of c.args.body.now) (data_of c.item-item.result) (map data_of rest)
    c.loop-item.effects c.act_all.new.effects c.in_err-act_all.field-0.0 c.act_all.new.meter c.loop-item.meter.cost c.loop-item.meter.deepest
    c.in_err-act_all.ensures.meaning)
