use Rattle.cl_keys.proofs.Cutting as lemmas
use Rattle.cl_keys.proofs.laws.cuts_are_free.Goals as goal

pub returns : goal.returns
returns c = lemmas.cuts_are_free
