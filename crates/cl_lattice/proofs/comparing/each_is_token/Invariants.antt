use Rattle.std.proofs.Common.{◌≡◌, drop}
use Rattle.cl_lattice.specs.Subtypes.{all_tokens}
use Rattle.cl_lattice.proofs.comparing.each_is_token.Given as goal

abbrev pub invariant-loop-token : goal.invariant-loop-token
invariant-loop-token l = all_tokens (drop l.token-index l.tokens) l.others ≡ all_tokens l.tokens l.others
