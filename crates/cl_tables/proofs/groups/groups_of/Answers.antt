use Rattle.std.proofs.Common.{sym}
use Rattle.cl_tables.proofs.CommandLemmas.{groups_go_on}
use Rattle.cl_tables.proofs.groups.groups_of.Goals as goal

pub loop-place-preserved : goal.loop-place-preserved
loop-place-preserved c =
    groups_go_on c.args.places.now c.loop-place.place c.in-Some.command.now c.loop-place.groups.entries c.add_command.new.groups.entries (sym c.in-Some.ensures)
    (rw c.in_ok-copy.ensures at c.in_ok-add_command.ensures) c.loop-place.invariant
