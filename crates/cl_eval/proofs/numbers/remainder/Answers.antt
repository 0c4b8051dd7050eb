use Rattle.std.proofs.Common.{◌≡◌, pos, ◌-ℤ◌, to_z, of_z, rules, arith}
use Rattle.std.proofs.lemmas.Int.{ints}
use mir.Syntax.{w128}
use Rattle.cl_eval.proofs.NumberLemmas.{left_negated, negated_fits}
use Rattle.cl_eval.proofs.numbers.remainder.Goals as goal

pub returns-else-second-gt0 : goal.returns-else-second-gt0
returns-else-second-gt0 c =
    let x = c.args.first in
    let y = c.args.second in
    let first : c.from-first.result ≡ x = search rules in
    let second : c.from-second.result ≡ y = search rules in
    let minus_first : to_z w128 (of_z w128 (pos 0 -ℤ to_z w128 (of_z w128 x))) ≡ pos 0 -ℤ x = omega (arith, ints) in
    let minus_second : to_z w128 (of_z w128 (pos 0 -ℤ to_z w128 (of_z w128 y))) ≡ pos 0 -ℤ y = omega (arith, ints) in
    let same_second : to_z w128 (of_z w128 y) ≡ y = omega (arith, ints) in
    let left = rw (first, second, minus_first, minus_second) at c.rem_euclid-else-second-gt0.ensures.value in
    let sign = rw (second, same_second) at c.if-second-gt0.false in
    let b = left_negated x y _ sign (search rules) left in
    rw b.0 (negated_fits _ b.1 (omega (arith, ints, b.2)))
