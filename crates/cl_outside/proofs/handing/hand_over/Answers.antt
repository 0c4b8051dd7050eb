use Rattle.std.proofs.lemmas.List.{take_rest}
use Rattle.cl_outside.proofs.Copies.{handed_over}
use Rattle.cl_outside.proofs.handing.hand_over.Goals as goal

pub returns-clause-bytes : goal.returns-clause-bytes
returns-clause-bytes c =
    handed_over c.args.content.now c.copy_from_slice.new.self c.args.buf.now c.args.at c.min-n.result
    (simp take_rest at c.copy_from_slice.ensures.after) (simp take_rest at c.min-n.ensures) c.requires.room c.requires.within
