use Rattle.std.proofs.Common.{◌≡◌, ◌++◌, drop}
use Rattle.cl_session.specs.Runs.{ok_lines, text_lines}
use Rattle.cl_session.proofs.running.ok_lines.Given as goal

abbrev pub invariant-loop-reply : goal.invariant-loop-reply
invariant-loop-reply l = l.lines ++ text_lines (drop l.reply-index l.replies) ≡ ok_lines l.name l.replies
