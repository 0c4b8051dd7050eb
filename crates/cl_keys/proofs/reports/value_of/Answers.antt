use Rattle.std.proofs.Common.{arith}
use Rattle.cl_keys.proofs.Numbers.{digit_at, value_below, value_more}
use Rattle.cl_keys.proofs.reports.value_of.Goals as goal

pub overflow_mul-value : goal.overflow_mul-value
overflow_mul-value c =
    let ds = c.args.digits.now in let n = c.loop-digit.digit-index in
    omega (arith, value_below ds n c.requires (omega arith), c.loop-digit.invariant)

pub overflow_add-value : goal.overflow_add-value
overflow_add-value c =
    let ds = c.args.digits.now in let n = c.loop-digit.digit-index in
    let digit = digit_at ds n c.requires (omega arith) in
    omega (arith, value_below ds n c.requires (omega arith), c.loop-digit.invariant, digit, c.from.ensures)

pub loop-digit-preserved : goal.loop-digit-preserved
loop-digit-preserved c =
    let ds = c.args.digits.now in let n = c.loop-digit.digit-index in
    omega (arith, value_more ds n c.requires (omega arith), c.loop-digit.invariant, c.from.ensures)
