use Rattle.cl_lattice.proofs.PrecedenceLemmas.{next_list}
use Rattle.cl_lattice.proofs.precedences.add_declared.Goals as goal

pub loop-place-preserved : goal.loop-place-preserved
loop-place-preserved c =
    next_list c.args.known.now c.args.types.now c.loop-place.place c.in-Some.declared.now c.loop-place.table c.add_list.new.table _ c.in-Some.ensures c.in_ok-add_list.ensures c.loop-place.invariant
