use Rattle.cl_loaded.proofs.Reused.{loaded_reuse}
use Rattle.cl_loaded.proofs.reuse.loaded_applications_can_be_reused.Goals as goal

pub returns : goal.returns
returns c = loaded_reuse
