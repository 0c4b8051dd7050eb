use Rattle.std.proofs.Common.{rules}
use Rattle.cl_value.specs.Value.{data_of}
use Rattle.cl_updating.proofs.PlaceLemmas.{seen-in-range}
use Rattle.cl_updating.proofs.levels.Level.find.Goals as goal

pub returns-in-Some-clause-range : goal.returns-in-Some-clause-range
returns-in-Some-clause-range c =
    seen-in-range c.copied.result _ (search rules) (c.self.invariant.range c.args.site (data_of c.args.id.now))
