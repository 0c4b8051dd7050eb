use Rattle.cl_reuse.proofs.MarkedNames.{display-named, marked-once, none-once}
use Rattle.cl_reuse.proofs.laws.histories_name_updates_once.Goals as goal

pub returns-clause-none : goal.returns-clause-none
returns-clause-none c = none-once

pub returns-clause-marks : goal.returns-clause-marks
returns-clause-marks c = marked-once

pub returns-clause-drawn : goal.returns-clause-drawn
returns-clause-drawn c = display-named
