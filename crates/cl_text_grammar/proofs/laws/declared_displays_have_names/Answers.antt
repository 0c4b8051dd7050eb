use Rattle.cl_text_grammar.proofs.DisplaysNamed.{displays_named}
use Rattle.cl_text_grammar.proofs.laws.declared_displays_have_names.Goals as goal

pub returns : goal.returns
returns c forms = displays_named forms
