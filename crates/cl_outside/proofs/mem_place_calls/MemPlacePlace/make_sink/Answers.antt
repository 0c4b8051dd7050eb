use Rattle.std.proofs.Common.{[], refl, sym}
use Rattle.cl_outside.proofs.Tables.{found-updated_same, found-updated_other}
use Rattle.cl_outside.proofs.PlaceFrames.{left_in-other}
use Rattle.cl_outside.proofs.mem_place_calls.MemPlacePlace.make_sink.Goals as goal

pub returns-in-Done-clause-files : goal.returns-in-Done-clause-files
returns-in-Done-clause-files c = λ other apart. rw (c.in-Done.ensures.step, found-updated_other c.args.self.now.files c.args.name.now other [] (λ e. apart (sym e))) refl

pub returns-in-Done-clause-left : goal.returns-in-Done-clause-left
returns-in-Done-clause-left c = λ apart. rw c.in-Done.ensures.step (left_in-other c.args.self.now.files c.args.self.now.source c.args.name.now [] apart)

pub returns-in-Done-clause-empty : goal.returns-in-Done-clause-empty
returns-in-Done-clause-empty c = rw (c.in-Done.ensures.step, found-updated_same c.args.self.now.files c.args.name.now []) refl

pub returns-in-Done-clause-taken : goal.returns-in-Done-clause-taken
returns-in-Done-clause-taken c = rw (c.in-Done.ensures.step, found-updated_same c.args.self.now.files c.args.name.now []) refl

pub returns-in-Done-clause-unused : goal.returns-in-Done-clause-unused
returns-in-Done-clause-unused c = rw (c.in-Done.ensures.step, found-updated_same c.args.self.now.files c.args.name.now []) refl
