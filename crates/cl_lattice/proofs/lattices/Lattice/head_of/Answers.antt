use Rattle.cl_lattice.proofs.lattices.Lattice.head_of.Goals as goal

pub returns-in-Some-clause-declared : goal.returns-in-Some-clause-declared
returns-in-Some-clause-declared c = c.standard_head.ensures.declared c.args.self.now
