use Rattle.cl_text_grammar.proofs.FormVerdicts.{shape_told}
use Rattle.cl_text_grammar.proofs.laws.first_blame_of_a_shape_is_told.Goals as goal

pub returns : goal.returns
returns c w d env from to u number offset lie = shape_told w d env from to u number offset lie
