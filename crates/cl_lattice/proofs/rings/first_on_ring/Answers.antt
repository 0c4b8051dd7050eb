use Rattle.std.proofs.Common.{◌≡◌, true}
use Rattle.cl_lattice.specs.Firsts.{StandsOnRing, offset_of}
use Rattle.cl_lattice.proofs.BuildingEntries.{next_entry}
use Rattle.cl_lattice.proofs.BuildingFirsts.{first_goes_on, first_stops}
use Rattle.cl_lattice.proofs.rings.first_on_ring.Goals as goal

pub returns-then-branch : goal.returns-then-branch
returns-then-branch c =
    let e = next_entry c.args.types.now c.loop-place.place c.in-Some.decl.now c.in-Some.ensures in
    first_stops (StandsOnRing c.args.known.now) offset_of c.args.types.now c.loop-place.place (e.0, c.in-Some.decl.now) e.1
    (rw c.as_slice.ensures at (c.in_ok-is_on_ring.ensures.0 c.if-branch.true)) c.loop-place.invariant

pub loop-place-preserved : goal.loop-place-preserved
loop-place-preserved c =
    let e = next_entry c.args.types.now c.loop-place.place c.in-Some.decl.now c.in-Some.ensures in
    first_goes_on (StandsOnRing c.args.known.now) offset_of c.args.types.now c.loop-place.place (e.0, c.in-Some.decl.now) e.1
    (λ ring. let yes : c.in_ok-is_on_ring.field-0 ≡ true = c.in_ok-is_on_ring.ensures.1 (rw c.as_slice.ensures ring) in cc)
    c.loop-place.invariant
