use Rattle.cl_declaration_grammar.proofs.TextVerdicts.{text_told}
use Rattle.cl_declaration_grammar.proofs.laws.first_blame_of_a_text_is_told.Goals as goal

pub returns : goal.returns
returns c w ds u number offset lie = text_told w ds u lie number offset
