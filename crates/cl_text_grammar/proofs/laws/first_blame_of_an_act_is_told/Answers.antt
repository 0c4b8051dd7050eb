use Rattle.cl_text_grammar.proofs.FormVerdicts.{act_told}
use Rattle.cl_text_grammar.proofs.laws.first_blame_of_an_act_is_told.Goals as goal

pub returns : goal.returns
returns c w d env from to u number offset lie = act_told w d env from to u number offset lie
