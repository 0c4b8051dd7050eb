use Rattle.std.proofs.Common.{◌-◌, sym, ◌∙◌, arith}
use Rattle.cl_expressions.proofs.ScopeLemmas.{among_there}
use Rattle.cl_expressions.proofs.scopes.is_one_of.Goals as goal

pub returns-then-eq : goal.returns-then-eq
returns-then-eq c =
    let same = rw c.as_slice.ensures at c.eq.ensures in
    sym
    (among_there c.args.name.now c.args.names.now (c.loop-left.left - 1) c.index-names-left.result (omega (arith, c.loop-left-test.true, c.loop-left.invariant.0)) c.index-names-left.is
    (sym same ∙ c.if-eq.true))
