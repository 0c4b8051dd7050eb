use Rattle.cl_grammar.proofs.Declared.{declared_named}
use Rattle.cl_grammar.proofs.laws.declared_functions_have_names.Goals as goal

pub returns : goal.returns
returns c forms = declared_named forms
