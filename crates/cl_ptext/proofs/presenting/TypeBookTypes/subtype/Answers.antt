use Rattle.cl_ptext.proofs.SubtypingLemmas.{told}
use Rattle.cl_ptext.proofs.presenting.TypeBookTypes.subtype.Goals as goal

pub returns : goal.returns
returns g c = told c.args.self.now.lattice.now c.args.first.now c.args.second.now c.subtype.result c.subtype.ensures
