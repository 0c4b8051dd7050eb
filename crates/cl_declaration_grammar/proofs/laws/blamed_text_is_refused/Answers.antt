use Rattle.cl_declaration_grammar.proofs.TextVerdicts.{text_refused}
use Rattle.cl_declaration_grammar.proofs.laws.blamed_text_is_refused.Goals as goal

pub returns : goal.returns
returns c w ds u v s number offset lie blamed = text_refused w ds u lie v s number offset blamed
