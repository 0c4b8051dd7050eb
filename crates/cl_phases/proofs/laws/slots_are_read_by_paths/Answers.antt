use Rattle.cl_phases.proofs.PathUseLemmas.{slot_is_path}
use Rattle.cl_phases.proofs.laws.slots_are_read_by_paths.Goals as goal

pub returns : goal.returns
returns c = slot_is_path
