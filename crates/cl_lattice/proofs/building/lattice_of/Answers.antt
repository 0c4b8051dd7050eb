use Rattle.cl_lattice.proofs.BuildingLemmas.{made}
use Rattle.cl_lattice.proofs.building.lattice_of.Goals as goal

pub invariant_of-result : goal.invariant_of-result
invariant_of-result c =
    (made c.args.decls.now c.args.known c.known.inside.types c.known.inside.commands.now c.in_ok-commands.commands c.in_ok-precedences.precedences c.known.view_is c.requires.world c.requires.sound
    c.in_ok-precedences.ensures c.in_ok-commands.ensures).is_lattice

pub returns : goal.returns
returns c =
    (made c.args.decls.now c.args.known c.known.inside.types c.known.inside.commands.now c.in_ok-commands.commands c.in_ok-precedences.precedences c.known.view_is c.requires.world c.requires.sound
    c.in_ok-precedences.ensures c.in_ok-commands.ensures).is_of
