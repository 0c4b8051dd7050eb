use Rattle.std.proofs.Common.{subst}
use Rattle.cl_load.specs.Types.{FindsMisfit}
use Rattle.cl_load.proofs.TypeLemmas.{types_built, types_large, types_misfit, world_is}
use Rattle.cl_load.proofs.types.build_types.Goals as goal

pub returns-in-Ok : goal.returns-in-Ok
returns-in-Ok g c =
    types_built c.fitting.result (g.H.Hosts.bounds c.args.hosts.now) c.args.declarations.now c.args.notes.now c.in-Ok.lattice _ c.in_ok-misfit.misfit
    (world_is (g.H.Hosts.bounds c.args.hosts.now) c.args.declarations.now c.in_ok-bounds.bounds c.in_ok-commands.commands c.in_ok-bounds.ensures c.in_ok-commands.ensures)
    c.in-Ok.ensures.is_world c.in-Ok.ensures.no_ring (rw c.specifiers.ensures at c.in-Ok.ensures.placed_fit) (rw c.specifiers.ensures at c.in_ok-misfit.ensures) c.fitting.ensures

pub returns-in-Some : goal.returns-in-Some
returns-in-Some g c =
    let large = rw c.in-Err-Large.field-0-is at c.in-Err-Large.ensures in
    types_misfit (g.H.Hosts.bounds c.args.hosts.now) c.args.declarations.now c.args.notes.now c.in-Some.misfit_at _
    (world_is (g.H.Hosts.bounds c.args.hosts.now) c.args.declarations.now c.in_ok-bounds.bounds c.in_ok-commands.commands c.in_ok-bounds.ensures c.in_ok-commands.ensures)
    large.0 (subst (FindsMisfit c.args.declarations.now c.args.notes.now) c.in-Some.is (rw c.specifiers.ensures at c.in_ok-misfit.ensures))

pub returns-in-Err-Large : goal.returns-in-Err-Large
returns-in-Err-Large g c =
    let large = rw c.in-Err-Large.field-0-is at c.in-Err-Large.ensures in
    types_large (g.H.Hosts.bounds c.args.hosts.now) c.args.declarations.now c.args.notes.now c.in-Err-Large.at _
    (world_is (g.H.Hosts.bounds c.args.hosts.now) c.args.declarations.now c.in_ok-bounds.bounds c.in_ok-commands.commands c.in_ok-bounds.ensures c.in_ok-commands.ensures)
    large.0 (subst (FindsMisfit c.args.declarations.now c.args.notes.now) c.in-None.is (rw c.specifiers.ensures at c.in_ok-misfit.ensures))
    (rw c.specifiers.ensures at large.1)
