use Rattle.std.proofs.Common.{◌≡◌, ◌++◌, drop, filter}
use Rattle.std.specs.List.{list_any}
use Rattle.cl_translate.specs.Highs.{has_high}
use Rattle.cl_translate.proofs.highs.add_highs.Given as goal

abbrev pub invariant-loop-high : goal.invariant-loop-high
invariant-loop-high l =
    l.highs.items ++ filter (λ high. list_any (has_high l.gesture high) l.translators) (drop l.high-index l.digits)
    ≡ l.initial.highs.items ++ filter (λ high. list_any (has_high l.gesture high) l.translators) l.digits
