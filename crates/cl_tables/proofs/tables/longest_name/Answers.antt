use Rattle.std.proofs.Common.{◌≤◌, length, arith, take_all, subst}
use Rattle.cl_tables.specs.Indexes.{AreWithin}
use Rattle.cl_tables.proofs.SightLemmas.{within_more}
use Rattle.cl_tables.proofs.tables.longest_name.Goals as goal

pub loop-command-preserved : goal.loop-command-preserved
loop-command-preserved c =
    let grows : c.loop-command.most ≤ c.with_name-most.result = omega (arith, c.with_name-most.ensures) in
    let here : length c.command-item.result.line_name ≤ c.with_name-most.result = omega (arith, c.with_name-most.ensures) in
    within_more c.args.commands.now c.loop-command.command-index c.loop-command.most c.with_name-most.result c.command-item.result
    c.loop-command-test.true c.command-item.is grows here c.loop-command.invariant

pub returns : goal.returns
returns c = subst (AreWithin c.loop-command.most) (take_all c.loop-command.command-index c.args.commands.now (omega arith)) c.loop-command.invariant
