use Rattle.cl_dialog_laws.proofs.DisplayLemmas.{displays_covered, first_own, others_covered}
use Rattle.cl_dialog_laws.proofs.laws.forms_of_dialogs_are_covered.Goals as goal

pub returns-clause-forms : goal.returns-clause-forms
returns-clause-forms c = displays_covered

pub returns-clause-alone : goal.returns-clause-alone
returns-clause-alone c = others_covered

pub returns-clause-first : goal.returns-clause-first
returns-clause-first c = first_own
