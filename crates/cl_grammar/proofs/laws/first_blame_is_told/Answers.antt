use Rattle.cl_grammar.proofs.Verdicts.{refused_so}
use Rattle.cl_grammar.proofs.laws.first_blame_is_told.Goals as goal

pub returns : goal.returns
returns c w d env from to u number offset lie = refused_so w d env from to lie u number offset
