use Rattle.std.proofs.Common.{sym, arith}
use Rattle.cl_outside.specs.Memory.{one_more}
use Rattle.cl_outside.specs.Named.{count_of}
use Rattle.cl_outside.proofs.PlaceFrames.{count_of-kept, count_of-other, count_of-later, count_of-rose}
use Rattle.cl_outside.proofs.mem_place_calls.MemPlacePlace.open_source.Goals as goal

pub returns-in-Done-clause-cause : goal.returns-in-Done-clause-cause
returns-in-Done-clause-cause c = rw (c.in-Done.ensures.step, count_of-kept c.args.self.now.faults c.args.name.now c.args.name.now) (omega arith)

pub returns-in-Done-clause-later : goal.returns-in-Done-clause-later
returns-in-Done-clause-later c = λ other. rw (c.in-Done.ensures.step, count_of-kept c.args.self.now.faults c.args.name.now other) (omega arith)

pub returns-in-Done-clause-other_faults : goal.returns-in-Done-clause-other_faults
returns-in-Done-clause-other_faults c = λ other apart. rw c.in-Done.ensures.step (count_of-kept c.args.self.now.faults c.args.name.now other)

pub returns-in-Failed-clause-cause : goal.returns-in-Failed-clause-cause
returns-in-Failed-clause-cause c = rw c.in-Failed.ensures.step (count_of-rose c.args.self.now.faults c.args.name.now)

pub returns-in-Failed-clause-later : goal.returns-in-Failed-clause-later
returns-in-Failed-clause-later c = λ other. rw c.in-Failed.ensures.step (count_of-later c.args.self.now.faults c.args.name.now other)

pub returns-in-Failed-clause-other_faults : goal.returns-in-Failed-clause-other_faults
returns-in-Failed-clause-other_faults c = λ other apart.
    rw c.in-Failed.ensures.step (count_of-other c.args.self.now.faults c.args.name.now other (one_more (count_of c.args.self.now.faults c.args.name.now)) (λ e. apart (sym e)))
