use Rattle.std.proofs.Common.{◌≡◌, ◌-◌, ◌^◌, ◌<◌, min, drop}
use Rattle.cl_sexp.specs.Numbers.{decimal_after}
use Rattle.cl_sexp.proofs.word.magnitude_of.Given as goal

abbrev pub invariant-loop-digit : goal.invariant-loop-digit
invariant-loop-digit l =
    (l.value < 2 ^ 64) × (min (decimal_after l.value (drop l.digit-index l.digits)) (2 ^ 64 - 1) ≡ min (decimal_after 0 l.digits) (2 ^ 64 - 1))
