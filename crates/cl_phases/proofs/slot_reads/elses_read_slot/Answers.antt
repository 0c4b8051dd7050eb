use Rattle.std.proofs.Common.{refl}
use Rattle.cl_phases.specs.SlotReads.{ElseReads}
use Rattle.cl_phases.proofs.OneHasLemmas.{here, next, not_both}
use Rattle.cl_phases.proofs.slot_reads.elses_read_slot.Goals as goal

pub returns-then-branch-clause-reads : goal.returns-then-branch-clause-reads
returns-then-branch-clause-reads c = (
  λ yes. here (λ q. ElseReads c.args.functions.now q.condition) c.args.queries.now c.loop-place.place c.in-Some.query.now c.in-Some.ensures
      (c.in_ok-else_reads_slot.ensures.reads.0 c.if-branch.true),
  λ reads. refl,
)

pub loop-place-preserved : goal.loop-place-preserved
loop-place-preserved c = record {
  clear = rw c.if-branch.false at c.in_ok-else_reads_slot.ensures.clear;
  left = λ r.
      next (λ q. ElseReads c.args.functions.now q.condition) c.args.queries.now c.loop-place.place c.in-Some.query.now c.in-Some.ensures
      (λ s. not_both c.in_ok-else_reads_slot.field-0 c.if-branch.false (c.in_ok-else_reads_slot.ensures.reads.1 s))
      (c.loop-place.invariant.left r);
}
