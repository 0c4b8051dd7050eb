use Rattle.cl_tables.proofs.IndexLemmas.{index_goes_on}
use Rattle.cl_tables.proofs.indexes.index_of.Goals as goal

pub loop-command-preserved : goal.loop-command-preserved
loop-command-preserved c =
    index_goes_on c.args.kind c.args.commands.now c.loop-command.command-index c.command-item.result c.loop-command.index c.add_command.new.index
    c.loop-command-test.true c.command-item.is c.in_ok-add_command.ensures c.loop-command.invariant
