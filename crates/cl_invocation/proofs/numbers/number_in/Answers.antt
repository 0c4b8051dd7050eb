use Rattle.std.proofs.Common.{sym, arith}
use Rattle.cl_invocation.proofs.NumberLemmas.{no_number, unparsed}
use Rattle.cl_invocation.proofs.numbers.number_in.Goals as goal

pub returns-in_default : goal.returns-in_default
returns-in_default c =
    no_number c.args.least c.args.most c.args.text.now (unparsed _ c.args.text.now c.in_default.field-0 c.in_default.ensures.value.0
    (sym c.if-not-is_all_digits.ensures) (omega arith))
