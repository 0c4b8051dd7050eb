use Rattle.std.proofs.Common.{refl, sym, ap, ◌∙◌, arith}
use Rattle.std.specs.Prelude.{option_map}
use Rattle.cl_arguments.proofs.SearchLemmas.{search_begins, is_there, search_finds, search_goes_on, search_ends, all_clear}
use Rattle.cl_arguments.proofs.misfits.misfits.Goals as goal

pub loop-place-init : goal.loop-place-init
loop-place-init c = rw (c.in_ok-add_own.ensures, c.len-place.ensures.len) (search_begins c.args.types.now c.args.spec.now c.args.found.now c.requires)

pub unreachable-requires : goal.unreachable-requires
unreachable-requires c = is_there c.loop-place.found c.loop-place.place (omega arith) (sym (ap (option_map (λ p. p.now)) c.in_default.is) ∙ c.at.ensures)

pub returns-then-is_wrong-clause-misfits : goal.returns-then-is_wrong-clause-misfits
returns-then-is_wrong-clause-misfits c = (
  λ yes. search_finds c.args.types.now c.args.spec.now c.args.found.now c.loop-place.found c.loop-place.place c.in-Some.probe.now c.loop-place.invariant (omega arith) c.in-Some.ensures
      (sym c.is_wrong.ensures ∙ c.if-is_wrong.true),
  λ misfits. refl,
)

pub loop-place-preserved : goal.loop-place-preserved
loop-place-preserved c =
    rw (c.in_ok-add_next.ensures, c.in_ok-probe.ensures)
    (search_goes_on c.args.types.now c.args.spec.now c.args.found.now c.loop-place.found c.loop-place.place c.in-Some.probe.now c.loop-place.invariant (omega arith) c.in-Some.ensures
    (sym c.is_wrong.ensures ∙ c.if-is_wrong.false))

pub returns-clause-misfits : goal.returns-clause-misfits
returns-clause-misfits c = (
  λ no. cc,
  λ misfits. absurd (search_ends c.args.types.now c.args.spec.now c.args.found.now c.loop-place.found c.loop-place.place c.loop-place.invariant (omega arith) misfits),
)

pub returns-clause-clear : goal.returns-clause-clear
returns-clause-clear c = all_clear c.args.types.now c.args.spec.now c.args.found.now c.loop-place.found c.loop-place.place c.loop-place.invariant (omega arith)
