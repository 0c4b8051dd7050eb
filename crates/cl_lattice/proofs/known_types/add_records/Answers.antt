use Rattle.std.proofs.Common.{sym}
use Rattle.cl_lattice.specs.World.{record_entry}
use Rattle.cl_lattice.proofs.BuildingEntries.{next_all}
use Rattle.cl_lattice.proofs.known_types.add_records.Goals as goal

pub loop-place-preserved : goal.loop-place-preserved
loop-place-preserved c =
    next_all record_entry c.args.records.now c.loop-place.place c.in-Some.decl.now c.in_ok-record_type.field-0 c.loop-place.types c.add_first.new.self _ c.in-Some.ensures (λ x. sym c.in_ok-record_type.ensures)
    c.in_ok-add_first.ensures.ok c.loop-place.invariant
