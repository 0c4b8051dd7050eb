use Rattle.std.proofs.Common.{◌≡◌, drop}
use Rattle.cl_lattice.specs.Members.{is_token}
use Rattle.cl_lattice.proofs.precedences.has_name.Given as goal

abbrev pub invariant-loop-other : goal.invariant-loop-other
invariant-loop-other l = is_token (drop l.other-index l.names) l.name ≡ is_token l.names l.name
