use Rattle.std.proofs.Common.{◌≡◌, true, sym, arith}
use Rattle.cl_tables.proofs.SearchLemmas.{here, parents_here, first_goes_on, first_stops, none_left, clear_of_rings}
use Rattle.cl_tables.proofs.rings.first_on_a_ring.Goals as goal

pub is_on_ring-requires-clause-declared : goal.is_on_ring-requires-clause-declared
is_on_ring-requires-clause-declared c =
    parents_here c.args.tables.now c.loop-place.place c.in-Some.decl.now
    (here c.args.tables.now c.loop-place.place c.in-Some.decl.now c.is_table.ensures (omega (arith, c.loop-place-test.true, c.len-place-end.ensures)) (sym c.in-Some.ensures))

pub returns-then-branch-clause-first : goal.returns-then-branch-clause-first
returns-then-branch-clause-first c =
    first_stops c.args.tables.now c.loop-place.place c.in-Some.decl.now
    (here c.args.tables.now c.loop-place.place c.in-Some.decl.now c.is_table.ensures (omega (arith, c.loop-place-test.true, c.len-place-end.ensures)) (sym c.in-Some.ensures))
    (c.in_ok-is_on_ring.ensures.0 c.if-branch.true) c.loop-place.invariant

pub loop-place-preserved : goal.loop-place-preserved
loop-place-preserved c =
    first_goes_on c.args.tables.now c.loop-place.place c.in-Some.decl.now
    (here c.args.tables.now c.loop-place.place c.in-Some.decl.now c.is_table.ensures (omega (arith, c.loop-place-test.true, c.len-place-end.ensures)) (sym c.in-Some.ensures))
    (λ ring. let is : c.in_ok-is_on_ring.field-0 ≡ true = c.in_ok-is_on_ring.ensures.1 ring in cc)
    c.loop-place.invariant

pub returns-clause-clear : goal.returns-clause-clear
returns-clause-clear c =
    clear_of_rings c.args.tables.now
    (none_left c.args.tables.now c.loop-place.place (omega (arith, c.loop-place-test.false, c.len-place-end.ensures)) c.loop-place.invariant)
