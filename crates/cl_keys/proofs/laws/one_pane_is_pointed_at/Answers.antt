use Rattle.cl_keys.proofs.Pointing as lemmas
use Rattle.cl_keys.proofs.laws.one_pane_is_pointed_at.Goals as goal

pub returns : goal.returns
returns c = lemmas.one_pane_is_pointed_at
