use Rattle.std.proofs.Common.{sym}
use Rattle.cl_translators.proofs.GroupLemmas.{tables_go_on}
use Rattle.cl_translators.proofs.order.by_table.Goals as goal

pub loop-place-preserved : goal.loop-place-preserved
loop-place-preserved c =
    tables_go_on c.args.places.now c.loop-place.place c.in-Some.translator.now c.loop-place.groups c.add.new.self (sym c.in-Some.ensures)
    (rw c.in_ok-copy.ensures at c.in_ok-add.ensures) c.loop-place.invariant
