use Rattle.std.proofs.Common.{◌≡◌, ◌++◌, ◌∷◌, drop, map}
use Rattle.cl_value.specs.Data.{symbol}
use Rattle.cl_value.specs.Value.{data_of}
use Rattle.cl_translate.proofs.evaluating.listed.Given as goal

abbrev pub invariant-loop-argument : goal.invariant-loop-argument
invariant-loop-argument l = l.values ++ map data_of (drop l.argument-index l.arguments) ≡ symbol l.command ∷ map data_of l.arguments
