use Rattle.cl_gen.proofs.Lines.{are_counted, are_ended, are_lines}
use Rattle.cl_gen.proofs.laws.gestures_are_two_for_each_item_and_two.Goals as goal

pub returns-clause-lines : goal.returns-clause-lines
returns-clause-lines c = are_lines

pub returns-clause-count : goal.returns-clause-count
returns-clause-count c = are_counted

pub returns-clause-ended : goal.returns-clause-ended
returns-clause-ended c = are_ended
