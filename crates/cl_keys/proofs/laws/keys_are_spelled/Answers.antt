use Rattle.cl_keys.proofs.Standing as lemmas
use Rattle.cl_keys.proofs.laws.keys_are_spelled.Goals as goal

pub returns : goal.returns
returns c = lemmas.keys_are_spelled
