use Rattle.std.proofs.Common.{◌≡◌, ◌<◌, ◌-ℤ◌, rules, arith}
use Rattle.cl_eval.specs.Operators.{count_to, numbers_from}
use Rattle.cl_eval.proofs.ListLemmas.{numbers_within}
use Rattle.cl_eval.proofs.lists.numbers.Goals as goal

pub returns : goal.returns
returns c =
    let count = c.count_between-count.result in
    let made : c.in_ok-numbers_from.field-0 ≡ numbers_from c.args.first count = search rules in
    let counted : count ≡ count_to (c.args.last -ℤ c.args.first) = search rules in
    let few : count < 65536 = omega arith in
    rw (made, ← counted) (numbers_within _ _ few)
