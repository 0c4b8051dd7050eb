use Rattle.cl_line.proofs.QuoteLemmas.{quotes_read_back}
use Rattle.cl_line.proofs.laws.quoted_texts_read_back.Goals as goal

pub returns : goal.returns
returns c = quotes_read_back
