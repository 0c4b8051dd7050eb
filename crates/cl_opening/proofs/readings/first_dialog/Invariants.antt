use Rattle.std.proofs.Common.{◌≡◌, drop}
use Rattle.cl_opening.proofs.DialogReadings.{DialogsLeft}
use Rattle.cl_opening.proofs.readings.first_dialog.Given as goal

abbrev pub invariant-loop-place : goal.invariant-loop-place
invariant-loop-place l = record { whole : l.search ≡ l.initial.search; left : DialogsLeft l.initial.search l.dialogs (drop l.place l.dialogs) }
