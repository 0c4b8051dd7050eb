use Rattle.std.proofs.Common.{◌≡◌, drop}
use Rattle.cl_tables.specs.Enabled.{with_switches}
use Rattle.cl_tables.proofs.enabled.Enabled.apply.Given as goal

abbrev pub invariant-loop-command : goal.invariant-loop-command
invariant-loop-command l = with_switches (drop l.command-index l.switches) l.self ≡ with_switches l.switches l.initial.self
