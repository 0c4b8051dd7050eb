use Rattle.cl_faults.proofs.LoadedText.{loaded_declared}
use Rattle.cl_faults.proofs.laws.what_loads_is_declared.Goals as goal

pub returns : goal.returns
returns c bounds bytes app loads = loaded_declared bounds bytes app loads
