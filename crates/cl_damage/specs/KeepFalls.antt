-- What is kept of the updates inside of one is smaller, by which a recursion over it ends.
use Rattle.std.specs.Prelude.{◌+◌, ◌≤◌, List, [], ◌∷◌}
use Rattle.std.proofs.Common.{arith}
use Rattle.cl_damage.specs.Keeps.{size_of}
use Rattle.cl_damage.specs.KeepRows.{inside_of, keeps_of}
use Rattle.cl_damage.specs.declared.keeps.Keep.{Keep}
use Rattle.cl_damage.specs.declared.keeps.Keep.TheVariants as keep
use Rattle.cl_damage.specs.declared.keeps.Keeps.TheDeep.{deep-Keep}
use denote.Param.Weighed.{most}

-- of one update
pub deep-size : (k : Keep) → deep-Keep k ≤ 2 + size_of (inside_of k)
deep-size (keep.Kept v) = omega arith
deep-size (keep.Anew inside) = omega arith

-- of updates in a row
pub most-size : (ks : List Keep) → most deep-Keep ks ≤ size_of (keeps_of ks)
most-size [] = omega arith
most-size (k ∷ ks) = omega (arith, deep-size k, most-size ks)
