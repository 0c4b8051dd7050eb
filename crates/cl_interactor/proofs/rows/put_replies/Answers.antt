use Rattle.std.proofs.Common.{◌∙◌, ◌++◌, ◌+◌, ◌-◌, append_assoc, ap, ℕ, List}
use Rattle.std.specs.List.{before_first}
use Rattle.cl_interactor.specs.Rows.{is_feed, reply_rows, row_bytes}
use Rattle.cl_interactor.proofs.Lines.{rows-more}
use Rattle.cl_interactor.proofs.rows.put_replies.Goals as goal

pub loop-row-preserved : goal.loop-row-preserved
loop-row-preserved c =
    let y = c.args.first + c.loop-row.row in let behind = reply_rows (c.args.first + (c.loop-row.row + 1)) (4 - (c.loop-row.row + 1)) in
    ap (λ (xs : List ℕ). xs ++ behind c.cut_line.result.1.now) c.in_ok-put_row.ensures
    ∙ (append_assoc c.loop-row.bytes.items (row_bytes y c.cut_line.result.0.now) (behind c.cut_line.result.1.now)
    ∙ (ap (λ (xs : List ℕ). c.loop-row.bytes.items ++ (row_bytes y xs ++ behind c.cut_line.result.1.now)) c.cut_line.ensures.line
    ∙ (ap (λ (xs : List ℕ). c.loop-row.bytes.items ++ (row_bytes y (before_first is_feed c.loop-row.rest.now) ++ behind xs)) c.cut_line.ensures.rest
    ∙ (ap (λ (xs : List ℕ). c.loop-row.bytes.items ++ xs) (rows-more c.args.first c.loop-row.row c.loop-row.rest.now c.loop-row-test.true)
    ∙ c.loop-row.invariant))))
