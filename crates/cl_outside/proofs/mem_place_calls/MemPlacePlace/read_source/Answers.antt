use Rattle.cl_outside.proofs.PlaceFrames.{read_rose, read_later, read_others}
use Rattle.cl_outside.proofs.mem_place_calls.MemPlacePlace.read_source.Goals as goal

pub returns-in-Failed-clause-cause : goal.returns-in-Failed-clause-cause
returns-in-Failed-clause-cause c = read_rose c.args.self.now c.read.new.self c.args.self.now.source c.in-Failed.ensures.step

pub returns-in-Failed-clause-later : goal.returns-in-Failed-clause-later
returns-in-Failed-clause-later c = read_later c.args.self.now c.read.new.self c.args.self.now.source c.in-Failed.ensures.step

pub returns-in-Failed-clause-other_faults : goal.returns-in-Failed-clause-other_faults
returns-in-Failed-clause-other_faults c = read_others c.args.self.now c.read.new.self c.args.self.now.source c.in-Failed.ensures.step
