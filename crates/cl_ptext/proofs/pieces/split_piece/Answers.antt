use Rattle.std.proofs.Common.{◌≡◌, ◌+◌, ◌-◌, length, take, drop, length-drop}
use Rattle.std.proofs.Math.Seq.{take-length}
use Rattle.cl_ptext.proofs.PieceLemmas.{first_piece}
use Rattle.cl_ptext.proofs.pieces.split_piece.Goals as goal

pub returns-then-count-text-clause-split : goal.returns-then-count-text-clause-split
returns-then-count-text-clause-split c =
    let text = c.args.text.now in
    let n = c.piece_length-count.result in
    let rest : take (length text - (n + 1)) (drop (n + 1) text) ≡ drop (n + 1) text = rw (← length-drop (n + 1) text) (take-length (drop (n + 1) text)) in
    rw (rest, c.piece_length-count.ensures.length) (first_piece c.args.separator text (rw c.piece_length-count.ensures.length at c.if-count-text.true))
