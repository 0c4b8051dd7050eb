use Rattle.cl_load.proofs.SettlingLemmas.{slots_held, slots_last}
use Rattle.cl_load.proofs.settling.slots_by_types.Goals as goal

pub returns : goal.returns
returns g c =
    slots_last c.opening_slots.result (g.H.Hosts.bounds c.args.hosts.now) c.args.lattice.now c.args.app.now (rw c.first_missing.ensures at c.in_ok-pass.ensures)
    (slots_held c.opening_slots.result _ c.args.app.now _ c.args.lattice.now c.new-types.ensures.app c.new-types.ensures.lattice c.opening_slots.ensures)
