use Rattle.cl_text_grammar.proofs.FormVerdicts.{shape_refused}
use Rattle.cl_text_grammar.proofs.laws.blamed_shape_is_refused.Goals as goal

pub returns : goal.returns
returns c w d env from to u v f number offset lie blamed = shape_refused w d env from to u v f number offset lie blamed
