use Rattle.std.proofs.Common.{sym, ◌∙◌}
use Rattle.cl_load.proofs.TypeLemmas.{missing_here, missing_on}
use Rattle.cl_load.proofs.types.first_missing.Goals as goal

pub returns-then-not-is_there : goal.returns-then-not-is_there
returns-then-not-is_there g c =
    missing_here (g.H.Hosts.bounds c.args.hosts.now) c.args.decls.now c.loop-place.place c.in-Some.decl.now c.in-Some.ensures c.loop-place.invariant
    (sym c.is_there.ensures ∙ c.if-not-is_there.true)

pub loop-place-preserved : goal.loop-place-preserved
loop-place-preserved g c =
    missing_on (g.H.Hosts.bounds c.args.hosts.now) c.args.decls.now c.loop-place.place c.in-Some.decl.now c.in-Some.ensures c.loop-place.invariant
    (sym c.is_there.ensures ∙ c.if-not-is_there.false)
