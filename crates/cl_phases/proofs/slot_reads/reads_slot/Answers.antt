use Rattle.std.proofs.Common.{refl, sym, ◌∙◌, arith}
use Rattle.cl_phases.specs.SlotSearch.{calls, with_calls}
use Rattle.cl_phases.proofs.SearchLemmas.{AddsAll, reads_itself, search_begins, search_goes_on, search_ends, all_clear, found_reads, body_is_there, adds_all}
use Rattle.cl_phases.proofs.slot_reads.reads_slot.Goals as goal

pub returns-then-names_slot-clause-reads : goal.returns-then-names_slot-clause-reads
returns-then-names_slot-clause-reads c =
    (λ yes. reads_itself c.args.functions.now c.args.expr.now (sym c.names_slot.ensures ∙ c.if-names_slot.true), λ reads. refl)

pub loop-place-init : goal.loop-place-init
loop-place-init c =
    rw (c.in_ok-reach.ensures, c.len-place.ensures)
    (search_begins c.args.functions.now c.args.expr.now c.args.reached.now c.requires (sym c.names_slot.ensures ∙ c.if-names_slot.false))

pub unreachable-requires : goal.unreachable-requires
unreachable-requires c =
    body_is_there c.args.functions.now c.args.expr.now c.args.reached.now c.loop-place.reached c.loop-place.place c.loop-place.invariant (omega arith) (sym c.in_default.ensures)

pub returns-then-names_slot-2-clause-reads : goal.returns-then-names_slot-2-clause-reads
returns-then-names_slot-2-clause-reads c = (
  λ yes. found_reads c.args.functions.now c.args.expr.now c.args.reached.now c.loop-place.reached c.loop-place.place c.in-Some.body.now c.loop-place.invariant (omega arith)
      (sym c.in-Some.ensures) (sym c.names_slot-in-loop-place.ensures ∙ c.if-names_slot-2.true),
  λ reads. refl,
)

pub loop-place-smaller : goal.loop-place-smaller
loop-place-smaller c =
    let adds : AddsAll c.args.functions.now c.args.expr.now (calls c.in-Some.body.now) c.loop-place.reached (with_calls c.args.functions.now (calls c.in-Some.body.now) c.loop-place.reached) =
    adds_all c.args.functions.now c.args.expr.now (calls c.in-Some.body.now) c.loop-place.reached in
    rw c.in_ok-reach-2.ensures (omega (arith, adds.fewer))

pub loop-place-preserved : goal.loop-place-preserved
loop-place-preserved c =
    rw c.in_ok-reach-2.ensures
    (search_goes_on c.args.functions.now c.args.expr.now c.args.reached.now c.loop-place.reached c.loop-place.place c.in-Some.body.now c.loop-place.invariant (omega arith)
    (sym c.in-Some.ensures) (sym c.names_slot-in-loop-place.ensures ∙ c.if-names_slot-2.false))

pub returns-clause-reads : goal.returns-clause-reads
returns-clause-reads c = (
  λ no. cc,
  λ reads. absurd (search_ends c.args.functions.now c.args.expr.now c.args.reached.now c.loop-place.reached c.loop-place.place c.loop-place.invariant (omega arith) reads),
)

pub returns-clause-clear : goal.returns-clause-clear
returns-clause-clear c =
    all_clear c.args.functions.now c.args.expr.now c.args.reached.now c.loop-place.reached c.loop-place.place c.loop-place.invariant (omega arith)
