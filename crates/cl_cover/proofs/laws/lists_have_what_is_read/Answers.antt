use Rattle.cl_cover.proofs.ReadLemmas.{expression_listed, forms_listed}
use Rattle.cl_cover.proofs.laws.lists_have_what_is_read.Goals as goal

pub returns-clause-expressions : goal.returns-clause-expressions
returns-clause-expressions c = λ app t p. expression_listed app p t

pub returns-clause-forms : goal.returns-clause-forms
returns-clause-forms c = λ app fs p. forms_listed app p fs
