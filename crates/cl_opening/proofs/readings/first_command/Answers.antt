use Rattle.std.proofs.Common.{◌∙◌}
use Rattle.cl_opening.proofs.ReadingLemmas.{command_reads_not, commands_next}
use Rattle.cl_opening.proofs.readings.first_command.Goals as goal

pub loop-place-preserved : goal.loop-place-preserved
loop-place-preserved c = record {
  whole = c.in_ok-command_reads_slot.ensures.same ∙ c.loop-place.invariant.whole;
  left =
      commands_next c.args.search.now c.args.commands.now c.loop-place.place c.in-Some.command.now c.in-Some.ensures
      (command_reads_not c.in_ok-command_reads_slot.field-0 c.loop-place.search c.args.search.now c.in-Some.command.now c.if-branch.false c.loop-place.invariant.whole
      c.in_ok-command_reads_slot.ensures.reads)
      c.loop-place.invariant.left;
}
