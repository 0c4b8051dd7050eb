use Rattle.std.proofs.Common.{◌≡◌, drop}
use Rattle.cl_syntax.specs.Paths.{has_prefix}
use Rattle.cl_cover.proofs.paths.has_prefix.Given as goal

abbrev pub invariant-loop-one : goal.invariant-loop-one
invariant-loop-one l = has_prefix (drop l.one-index l.listed) l.path ≡ has_prefix l.listed l.path
