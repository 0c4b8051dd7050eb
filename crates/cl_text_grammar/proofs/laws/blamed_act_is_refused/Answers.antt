use Rattle.cl_text_grammar.proofs.FormVerdicts.{act_refused}
use Rattle.cl_text_grammar.proofs.laws.blamed_act_is_refused.Goals as goal

pub returns : goal.returns
returns c w d env from to u v s number offset lie blamed = act_refused w d env from to u v s number offset lie blamed
