use Rattle.cl_display.proofs.SiblingLaws.{taken-noted}
use Rattle.cl_display.proofs.laws.ids_are_taken_once_noted.Goals as goal

pub returns-clause-noted : goal.returns-clause-noted
returns-clause-noted c = taken-noted
