use Rattle.cl_lattice.proofs.precedences.add_or_types.Goals as goal

pub returns : goal.returns
returns c = rw (c.in_ok-add_standard.ensures, c.as_slice.ensures, c.as_slice-2.ensures) at c.add_standard-2.ensures
