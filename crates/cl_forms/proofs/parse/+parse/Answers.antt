use Rattle.std.proofs.Common.{ap, length, arith}
use Rattle.cl_forms.proofs.Reading.{parts_read, atom_read, more_read, opens_nests, tail_inside}
use Rattle.cl_forms.proofs.parse.+parse.Goals as goal

pub form_at-forms_in-requires : goal.form_at-forms_in-requires
form_at-forms_in-requires t c =
    let e = c.in-Some.ensures.cases.0 in
    (omega (arith, ap length e, c.decreases), (opens_nests _ _ _ _ e c.in-Open.is c.requires.nested, tail_inside _ _ _ _ e c.requires.inside))

pub form_at-returns-in-Some-split_first : goal.form_at-returns-in-Some-split_first
form_at-returns-in-Some-split_first t c =
    parts_read _ _ _ _ _ _ _ _ _ c.in-Some.ensures.cases.0 c.in-Open.is c.in_ok-parts-in-Open.ensures.read c.in_ok-parts-in-Open.ensures.ends c.in-Some-split_first.ensures.cases.0

pub form_at-returns-in_ok-atom-in_default-kind : goal.form_at-returns-in_ok-atom-in_default-kind
form_at-returns-in_ok-atom-in_default-kind t c = atom_read _ _ _ _ _ _ c.in-Some.ensures.cases.0 c.requires.nested c.requires.inside c.in_default-kind.not-Open c.requires.begins c.in_ok-atom-in_default-kind.ensures

pub forms_in-forms-preserved : goal.forms_in-forms-preserved
forms_in-forms-preserved t c = rw c.in_ok-push.ensures.ok (more_read _ _ _ _ _ _ _ c.forms.invariant c.in_ok-form.ensures)
