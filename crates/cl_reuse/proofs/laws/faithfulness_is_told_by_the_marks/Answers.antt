use Rattle.cl_reuse.proofs.MarkedFaith.{marked-faithful, moved-recorded}
use Rattle.cl_reuse.proofs.ScriptFaith.{script-faithful}
use Rattle.cl_reuse.proofs.laws.faithfulness_is_told_by_the_marks.Goals as goal

pub returns-clause-histories : goal.returns-clause-histories
returns-clause-histories c = marked-faithful

pub returns-clause-updates : goal.returns-clause-updates
returns-clause-updates c = moved-recorded

pub returns-clause-displays : goal.returns-clause-displays
returns-clause-displays c = script-faithful
