use Rattle.std.proofs.Common.{drop}
use Rattle.std.proofs.lemmas.Result.{err_from_is_err_and}
use Rattle.cl_value.specs.Value.{parts_of}
use Rattle.cl_ptext.specs.Texts.{plain}
use Rattle.cl_ptext.proofs.CostLemmas.{joined-rises, plain-rises}
use Rattle.cl_ptext.proofs.putting.put_joined.Goals as goal

pub returns-in_err-put_separator-clause-text : goal.returns-in_err-put_separator-clause-text
returns-in_err-put_separator-clause-text c =
    let p = err_from_is_err_and c.from_residual.result c.from_residual.ensures.1 in
    rw (p.1, p.2, ← c.loop-value.invariant.text)
    (joined-rises c.loop-value.first c.args.separator plain plain-rises (parts_of (drop c.loop-value.value-index c.args.values.now)) c.loop-value.writing.bytes.items
    c.loop-value.writing.meter.cost c.loop-value.writing.meter.deepest)

pub returns-in_err-put_plain-clause-text : goal.returns-in_err-put_plain-clause-text
returns-in_err-put_plain-clause-text c =
    let p = err_from_is_err_and c.from_residual-in_err-put_plain.result c.from_residual-in_err-put_plain.ensures.1 in
    rw (p.1, p.2, ← c.loop-value.invariant.text)
    (joined-rises c.loop-value.first c.args.separator plain plain-rises (parts_of (drop c.loop-value.value-index c.args.values.now)) c.loop-value.writing.bytes.items
    c.loop-value.writing.meter.cost c.loop-value.writing.meter.deepest)
