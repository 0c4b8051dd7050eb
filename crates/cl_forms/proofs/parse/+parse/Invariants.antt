use Rattle.std.proofs.Common.{◌+◌, ◌*◌, length}
use Rattle.cl_forms.specs.Spelled.{AreRead}
use Rattle.cl_forms.proofs.parse.+parse.Given as goal

abbrev pub decreases-form_at : goal.decreases-form_at
decreases-form_at l = 2 * length l.tokens.now

abbrev pub decreases-forms_in : goal.decreases-forms_in
decreases-forms_in l = 2 * length l.tokens.now + 1

abbrev pub invariant-forms_in-forms : goal.invariant-forms_in-forms
invariant-forms_in-forms l = AreRead l.text l.depth l.tokens l.forms l.rest

abbrev pub decreases-forms_in-forms : goal.decreases-forms_in-forms
decreases-forms_in-forms l = length l.rest
