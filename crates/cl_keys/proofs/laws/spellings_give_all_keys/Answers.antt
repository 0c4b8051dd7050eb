use Rattle.cl_keys.proofs.Spelled as lemmas
use Rattle.cl_keys.proofs.laws.spellings_give_all_keys.Goals as goal

pub returns : goal.returns
returns c = lemmas.spellings_give_all_keys
