use Rattle.std.proofs.Common.{◌≡◌, drop}
use Rattle.cl_lattice.specs.Members.{is_token}
use Rattle.cl_lattice.proofs.atoms.is_token.Given as goal

abbrev pub invariant-loop-token : goal.invariant-loop-token
invariant-loop-token l = is_token (drop l.token-index l.tokens) l.name ≡ is_token l.tokens l.name
