use Rattle.std.proofs.Common.{◌≡◌, drop}
use Rattle.cl_opening.proofs.ReadingLemmas.{CommandsLeft}
use Rattle.cl_opening.proofs.readings.first_command.Given as goal

abbrev pub invariant-loop-place : goal.invariant-loop-place
invariant-loop-place l = record { whole : l.search ≡ l.initial.search; left : CommandsLeft l.initial.search l.commands (drop l.place l.commands) }
