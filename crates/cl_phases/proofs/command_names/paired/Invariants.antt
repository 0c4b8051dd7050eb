use Rattle.std.proofs.Common.{◌≡◌, length, map}
use Rattle.cl_forms.specs.DatumView.{datum_of}
use Rattle.cl_phases.specs.CommandNames.{paired}
use Rattle.cl_phases.proofs.command_names.paired.Given as goal

abbrev pub invariant-loop-rest : goal.invariant-loop-rest
invariant-loop-rest l = paired l.key (map datum_of l.rest) ≡ paired l.key (map datum_of l.pairs)

abbrev pub decreases-loop-rest : goal.decreases-loop-rest
decreases-loop-rest l = length l.rest
