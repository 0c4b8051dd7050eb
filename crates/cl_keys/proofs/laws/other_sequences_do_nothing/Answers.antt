use Rattle.cl_keys.proofs.Others as lemmas
use Rattle.cl_keys.proofs.laws.other_sequences_do_nothing.Goals as goal

pub returns : goal.returns
returns c = lemmas.other_sequences_do_nothing
