use Rattle.std.proofs.Common.{add-one}
use Rattle.cl_damage.proofs.MeetLemmas.{rest-drop}
use Rattle.cl_damage.proofs.lents.after.Goals as goal

pub returns-then-place-keeps : goal.returns-then-place-keeps
returns-then-place-keeps c = rw (add-one c.args.place) (rest-drop c.args.keeps.now c.args.place c.if-place-keeps.true)
