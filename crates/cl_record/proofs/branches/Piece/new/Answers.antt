use Rattle.std.proofs.Common.{sym, subst}
use Rattle.cl_region.specs.Places.{IsInRange}
use Rattle.cl_record.proofs.Moves.{moved-still}
use Rattle.cl_record.proofs.branches.Piece.new.Goals as goal

pub invariant_of-result : goal.invariant_of-result
invariant_of-result g c =
    rw c.in_ok-body.ensures.ok
    (record { sound = (c.summary.ensures.sound, (c.requires, subst IsInRange (sym (moved-still c.args.head.measures.extent)) c.requires.range)) })
