use Rattle.cl_cover.proofs.UpdateTurns.{form_passed, form_told}
use Rattle.cl_cover.proofs.updates.+uncovered_in_form.Goals as goal

pub uncovered_in_forms-returns-in-Some : goal.uncovered_in_forms-returns-in-Some
uncovered_in_forms-returns-in-Some t c =
    form_told c.args.app.now c.args.forms.now c.loop-form.form-index c.form-item.result c.in_ok-found.field-0 c.in-Some.found c.loop-form-test.true
    c.form-item.is c.in_ok-found.ensures c.in-Some.is c.loop-form.invariant

pub uncovered_in_forms-loop-form-preserved : goal.uncovered_in_forms-loop-form-preserved
uncovered_in_forms-loop-form-preserved t c =
    form_passed c.args.app.now c.args.forms.now c.loop-form.form-index c.form-item.result c.in_ok-found.field-0 c.loop-form-test.true c.form-item.is
    c.in_ok-found.ensures c.in_default.is c.loop-form.invariant
