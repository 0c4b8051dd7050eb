use Rattle.std.proofs.Common.{arith}
use Rattle.cl_gesture.proofs.Numbers.{digit_at, value_below, value_more}
use Rattle.cl_gesture.proofs.pointing.value_of.Goals as goal

-- src/pointing.rt:74:17
pub overflow_mul-value : goal.overflow_mul-value
overflow_mul-value c =
    let ds = c.args.digits.now in let n = c.loop-digit.digit-index in
    omega (arith, value_below ds n c.requires (omega arith), c.loop-digit.invariant)

-- src/pointing.rt:74:17
pub overflow_add-value : goal.overflow_add-value
overflow_add-value c =
    let ds = c.args.digits.now in let n = c.loop-digit.digit-index in
    let digit = digit_at ds n c.requires (omega arith) in
    omega (arith, value_below ds n c.requires (omega arith), c.loop-digit.invariant, digit, c.from.ensures)

-- src/pointing.rt:73:5
pub loop-digit-preserved : goal.loop-digit-preserved
loop-digit-preserved c =
    let ds = c.args.digits.now in let n = c.loop-digit.digit-index in
    omega (arith, value_more ds n c.requires (omega arith), c.loop-digit.invariant, c.from.ensures)
