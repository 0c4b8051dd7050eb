use Rattle.std.proofs.Common.{◌≡◌, sym, ap, ◌∙◌, arith}
use Rattle.std.specs.Prelude.{is_some}
use Rattle.cl_lattice.specs.RingSearch.{has}
use Rattle.cl_lattice.proofs.RingLemmas.{search_begins, search_goes_on, is_there, search_falls, found_reaches, reaches_found, some_map}
use Rattle.cl_lattice.proofs.rings.reaches.Goals as goal

pub loop-place-init : goal.loop-place-init
loop-place-init c = rw (c.in_ok-add_mentions.ensures, c.new-found.ensures) (search_begins c.args.known.now c.args.name.now c.args.spec.now c.requires)

pub unreachable-requires : goal.unreachable-requires
unreachable-requires c =
    is_there c.args.known.now c.args.name.now c.args.spec.now c.loop-place.found c.loop-place.place c.loop-place.invariant (omega arith) (sym c.in_default.ensures)

pub loop-place-smaller : goal.loop-place-smaller
loop-place-smaller c =
    rw c.in_ok-add_mentions-2.ensures (search_falls c.args.known.now c.args.name.now c.in-Some.more.now c.loop-place.found c.loop-place.place (omega arith))

pub loop-place-preserved : goal.loop-place-preserved
loop-place-preserved c =
    rw c.in_ok-add_mentions-2.ensures
    (search_goes_on c.args.known.now c.args.name.now c.args.spec.now c.loop-place.found c.loop-place.place c.in-Some.more.now c.loop-place.invariant (omega arith) (sym c.in-Some.ensures))

pub returns : goal.returns
returns c =
    let is : c.is_some.result ≡ has c.args.name.now c.loop-place.found = c.is_some.ensures ∙ sym (some_map _ c.get.result) ∙ ap is_some c.get.ensures in (
      λ yes. found_reaches c.args.known.now c.args.name.now c.args.spec.now c.loop-place.found c.loop-place.place c.loop-place.invariant (sym is ∙ yes),
      λ ring. is ∙ reaches_found c.args.known.now c.args.name.now c.args.spec.now c.loop-place.found c.loop-place.place c.requires c.loop-place.invariant (omega arith) ring,
    )
