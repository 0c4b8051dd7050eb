use Rattle.std.proofs.Common.{sym, ◌∙◌}
use Rattle.cl_phases.proofs.RepeatLemmas.{repeated_here, repeated_past}
use Rattle.cl_phases.proofs.repeats.first_repeated.Goals as goal

pub returns-then-was_met : goal.returns-then-was_met
returns-then-was_met c =
    sym (repeated_here c.args.names.now c.loop-name.name-index c.name-item.result c.loop-name.met c.loop-name-test.true c.name-item.is (sym c.was_met.ensures ∙ c.if-was_met.true))
    ∙ c.loop-name.invariant

pub loop-name-preserved : goal.loop-name-preserved
loop-name-preserved c =
    rw c.in_ok-add_met.ensures
    (repeated_past c.args.names.now c.loop-name.name-index c.name-item.result c.loop-name.met c.loop-name-test.true c.name-item.is (sym c.was_met.ensures ∙ c.if-was_met.false)
    ∙ c.loop-name.invariant)
