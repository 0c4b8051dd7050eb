use Rattle.std.proofs.Common.{append_assoc}
use Rattle.std.proofs.lemmas.List.{take_min}
use Rattle.cl_interactor.proofs.rows.put_row.Goals as goal

pub returns : goal.returns
returns c =
    simp (c.in_ok-extend_from_slice.ensures.items, c.in_ok-put_shown.ensures, c.in_ok-put_start.ensures, c.min.ensures, take_min 78 c.args.text.now, append_assoc)
