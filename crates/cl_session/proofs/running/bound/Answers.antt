use Rattle.std.proofs.Common.{sym, ◌∙◌, drop, map}
use Rattle.cl_value.specs.Value.{data_of}
use Rattle.cl_session.proofs.BindingLemmas.{bound_none}
use Rattle.cl_session.proofs.running.bound.Goals as goal

pub returns-in_default : goal.returns-in_default
returns-in_default c =
    sym (bound_none c.args.arguments.now (map data_of (drop c.loop-place.place c.args.values.now)) c.loop-place.place c.loop-place.env
    (rw c.in_default.is at c.at.ensures))
    ∙ c.loop-place.invariant
