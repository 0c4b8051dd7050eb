use Rattle.std.proofs.Common.{◌∙◌}
use Rattle.cl_opening.proofs.DialogReadings.{dialog_reads_not, dialogs_next}
use Rattle.cl_opening.proofs.readings.first_dialog.Goals as goal

pub loop-place-preserved : goal.loop-place-preserved
loop-place-preserved c = record {
  whole = c.in_ok-dialog_reads_slot.ensures.same ∙ c.loop-place.invariant.whole;
  left =
      dialogs_next c.args.search.now c.args.dialogs.now c.loop-place.place c.in-Some.dialog.now c.in-Some.ensures
      (dialog_reads_not c.in_ok-dialog_reads_slot.field-0 c.loop-place.search c.args.search.now c.in-Some.dialog.now c.if-branch.false c.loop-place.invariant.whole
      c.in_ok-dialog_reads_slot.ensures.reads)
      c.loop-place.invariant.left;
}
