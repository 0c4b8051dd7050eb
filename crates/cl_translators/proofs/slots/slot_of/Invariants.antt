use Rattle.std.proofs.Common.{◌≡◌, ◌++◌, ℕ, List, drop, filter}
use Rattle.cl_translators.specs.Groups.{group_of, is_from}
use Rattle.cl_translators.proofs.slots.slot_of.Given as goal

abbrev pub invariant-loop-translator : goal.invariant-loop-translator
invariant-loop-translator l =
    (from : List ℕ) → group_of from l.groups ++ filter (is_from l.slot from) (drop l.translator-index l.translators) ≡ filter (is_from l.slot from) l.translators
