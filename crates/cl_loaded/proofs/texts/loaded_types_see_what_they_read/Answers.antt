use Rattle.cl_loaded.proofs.TextsOwned.{loaded-owned}
use Rattle.cl_loaded.proofs.TextsSeen.{owned-sees}
use Rattle.cl_loaded.proofs.TextsStable.{of-text-sees}
use Rattle.cl_loaded.proofs.texts.loaded_types_see_what_they_read.Goals as goal

pub returns-clause-owned : goal.returns-clause-owned
returns-clause-owned c = owned-sees

pub returns-clause-loaded : goal.returns-clause-loaded
returns-clause-loaded c = λ bounds bytes names app loads. owned-sees bounds names app (loaded-owned bounds bytes app loads)

pub returns-clause-of_text : goal.returns-clause-of_text
returns-clause-of_text c = of-text-sees
