use Rattle.cl_declaration_grammar.proofs.TextVerdicts.{text_noted}
use Rattle.cl_declaration_grammar.proofs.laws.first_unnamed_of_a_text_is_noted.Goals as goal

pub returns : goal.returns
returns c w ds u v s lie = text_noted w ds u lie v s
