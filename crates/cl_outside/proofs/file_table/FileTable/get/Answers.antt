use Rattle.std.proofs.Common.{sym}
use Rattle.cl_outside.proofs.Tables.{found-none}
use Rattle.cl_outside.proofs.file_table.FileTable.get.Goals as goal

pub returns-in-None : goal.returns-in-None
returns-in-None c = sym (found-none c.args.self.now.entries c.args.name.now c.in-None.ensures)
