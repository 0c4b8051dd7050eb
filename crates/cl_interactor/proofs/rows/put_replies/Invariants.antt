use Rattle.std.proofs.Common.{◌≡◌, ◌++◌, ◌+◌, ◌-◌}
use Rattle.cl_interactor.specs.Rows.{reply_rows}
use Rattle.cl_interactor.proofs.rows.put_replies.Given as goal

abbrev pub invariant-loop-row : goal.invariant-loop-row
invariant-loop-row l = l.bytes.items ++ reply_rows (l.first + l.row) (4 - l.row) l.rest ≡ l.initial.bytes.items ++ reply_rows l.first 4 l.lines
