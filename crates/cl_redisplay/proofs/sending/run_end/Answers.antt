use Rattle.std.proofs.Common.{arith, refl}
use Rattle.cl_redisplay.proofs.EvenRows.{even_part}
use Rattle.cl_redisplay.proofs.sending.run_end.Goals as goal

pub returns-then-inks-end : goal.returns-then-inks-end
returns-then-inks-end c = record {
  some = omega arith;
  most = omega arith;
  same = c.loop-end.invariant;
  ends = λ less. c.if-inks-end.true;
}

pub returns-then-is_even : goal.returns-then-is_even
returns-then-is_even c = record {
  some = c.requires.some;
  most = omega arith;
  same = λ k from less. even_part c.args.inks.now c.args.from c.args.right k c.requires.columns (c.if-is_even.ensures refl) from less;
  ends = λ less. absurd (omega (arith, less));
}

pub returns : goal.returns
returns c = record {
  some = c.requires.some;
  most = omega arith;
  same = λ k from less. c.loop-end.invariant k from (omega (arith, less, c.loop-end-test.false));
  ends = λ less. absurd (omega (arith, less));
}
