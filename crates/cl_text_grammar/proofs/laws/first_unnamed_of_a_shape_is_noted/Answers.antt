use Rattle.cl_text_grammar.proofs.FormVerdicts.{shape_noted}
use Rattle.cl_text_grammar.proofs.laws.first_unnamed_of_a_shape_is_noted.Goals as goal

pub returns : goal.returns
returns c w d env from to u v f lie read = shape_noted w d env from to u v f lie read
