use Rattle.cl_loaded.proofs.SitesTexts.{loaded_apart}
use Rattle.cl_loaded.proofs.sites.updates_of_loaded_applications_are_apart.Goals as goal

pub returns : goal.returns
returns c = loaded_apart
