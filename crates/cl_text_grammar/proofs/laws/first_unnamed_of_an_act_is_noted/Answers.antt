use Rattle.cl_text_grammar.proofs.FormVerdicts.{act_noted}
use Rattle.cl_text_grammar.proofs.laws.first_unnamed_of_an_act_is_noted.Goals as goal

pub returns : goal.returns
returns c w d env from to u v s lie read = act_noted w d env from to u v s lie read
