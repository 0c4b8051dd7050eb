use Rattle.std.proofs.Common.{◌∙◌}
use Rattle.cl_opening.proofs.ReadingLemmas.{reads_not, types_next}
use Rattle.cl_opening.proofs.readings.first_type.Goals as goal

pub loop-place-preserved : goal.loop-place-preserved
loop-place-preserved c = record {
  whole = c.in_ok-predicate_reads.ensures.same ∙ c.loop-place.invariant.whole;
  left =
      types_next c.args.search.now c.args.types.now c.loop-place.place c.in-Some.decl.now c.in-Some.ensures
      (reads_not c.in_ok-predicate_reads.field-0 c.loop-place.search c.args.search.now c.in-Some.decl.now c.if-branch.false c.loop-place.invariant.whole
      c.in_ok-predicate_reads.ensures.reads)
      c.loop-place.invariant.left;
}
