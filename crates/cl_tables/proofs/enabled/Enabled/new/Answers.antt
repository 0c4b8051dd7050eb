use Rattle.std.proofs.Common.{sym, arith}
use Rattle.cl_tables.proofs.EnabledLemmas.{enables_more}
use Rattle.cl_tables.proofs.enabled.Enabled.new.Goals as goal

pub loop-place-preserved : goal.loop-place-preserved
loop-place-preserved c =
    enables_more c.args.places.now c.loop-place.place c.in-Some.command.now c.loop-place.states.entries c.add_enabled.new.states.entries
    (omega (arith, c.loop-place-test.true, c.len-place-end.ensures))
    c.is_table.ensures.owned (sym c.in-Some.ensures) (rw c.name.ensures at c.in_ok-add_enabled.ensures) c.loop-place.invariant
