use Rattle.cl_phases.specs.SlotReads.{ReadsSlot}
use Rattle.cl_phases.proofs.OneHasLemmas.{here, next, not_both}
use Rattle.cl_phases.proofs.slot_reads.any_reads_slot.Goals as goal

pub loop-place-init : goal.loop-place-init
loop-place-init c = record { clear = c.requires; left = λ r. r }

pub returns-then-branch-clause-reads : goal.returns-then-branch-clause-reads
returns-then-branch-clause-reads c =
    here (λ s. ReadsSlot c.args.functions.now s.opening) c.args.slots.now c.loop-place.place c.in-Some.slot.now c.in-Some.ensures
    (c.in_ok-reads_slot.ensures.reads.0 c.if-branch.true)

pub loop-place-preserved : goal.loop-place-preserved
loop-place-preserved c = record {
  clear = rw c.if-branch.false at c.in_ok-reads_slot.ensures.clear;
  left = λ r.
      next (λ s. ReadsSlot c.args.functions.now s.opening) c.args.slots.now c.loop-place.place c.in-Some.slot.now c.in-Some.ensures
      (λ s. not_both c.in_ok-reads_slot.field-0 c.if-branch.false (c.in_ok-reads_slot.ensures.reads.1 s))
      (c.loop-place.invariant.left r);
}
