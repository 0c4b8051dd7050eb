use Rattle.std.proofs.Common.{◌≡◌, drop}
use Rattle.cl_opening.proofs.ReadingLemmas.{TypesLeft}
use Rattle.cl_opening.proofs.readings.first_type.Given as goal

abbrev pub invariant-loop-place : goal.invariant-loop-place
invariant-loop-place l = record { whole : l.search ≡ l.initial.search; left : TypesLeft l.initial.search l.types (drop l.place l.types) }
