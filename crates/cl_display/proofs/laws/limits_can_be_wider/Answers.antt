use Rattle.cl_display.proofs.LimitLemmas.{widens-forms, widens-fresh}
use Rattle.cl_display.proofs.laws.limits_can_be_wider.Goals as goal

pub returns-clause-forms : goal.returns-clause-forms
returns-clause-forms c = widens-forms

pub returns-clause-display : goal.returns-clause-display
returns-clause-display c = widens-fresh
