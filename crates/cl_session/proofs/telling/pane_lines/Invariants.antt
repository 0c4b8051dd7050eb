use Rattle.std.proofs.Common.{◌≡◌, ◌++◌, drop}
use Rattle.cl_session.specs.Step.{headed_lines}
use Rattle.cl_session.proofs.telling.pane_lines.Given as goal

abbrev pub invariant-loop-text : goal.invariant-loop-text
invariant-loop-text l = l.lines ++ drop l.text-index l.text-items ≡ headed_lines l.name l.text-items
