use Rattle.cl_line.proofs.LyingLemmas as lying
use Rattle.cl_line.proofs.laws.tokens_lie.Goals as goal

pub returns : goal.returns
returns c = lying.tokens_lie
