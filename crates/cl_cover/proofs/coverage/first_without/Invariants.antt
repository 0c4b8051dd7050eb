use Rattle.std.proofs.Common.{◌≡◌, drop}
use Rattle.cl_syntax.specs.Paths.{first_uncovered}
use Rattle.cl_cover.proofs.coverage.first_without.Given as goal

abbrev pub invariant-loop-path : goal.invariant-loop-path
invariant-loop-path l = first_uncovered l.listed (drop l.path-index l.paths) ≡ first_uncovered l.listed l.paths
