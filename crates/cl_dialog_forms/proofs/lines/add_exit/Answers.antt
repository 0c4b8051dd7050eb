use Rattle.cl_dialog_forms.proofs.LineLemmas.{three_behind}
use Rattle.cl_dialog_forms.proofs.lines.add_exit.Goals as goal

pub returns : goal.returns
returns c =
    rw (c.in_ok-add_choice-2.ensures, c.in_ok-push.ensures.ok, c.in_ok-add_choice.ensures, c.in_ok-written.ensures)
    (three_behind c.args.forms.now _ _ _)
