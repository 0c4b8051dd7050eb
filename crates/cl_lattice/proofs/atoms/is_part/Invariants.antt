use Rattle.std.proofs.Common.{◌≡◌, drop}
use Rattle.cl_value.specs.Value.{data_of, parts_of}
use Rattle.cl_lattice.specs.Members.{is_part}
use Rattle.cl_lattice.proofs.atoms.is_part.Given as goal

abbrev pub invariant-loop-part : goal.invariant-loop-part
invariant-loop-part l = is_part (data_of l.value) (parts_of (drop l.part-index l.parts)) ≡ is_part (data_of l.value) (parts_of l.parts)
