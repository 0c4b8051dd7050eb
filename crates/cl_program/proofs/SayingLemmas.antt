-- Bytes that are said behind others.
use Rattle.std.proofs.Common.{◌≤◌, ℕ, Bool, true, false, Option, List, [], ◌++◌}
use Rattle.std.specs.Io.KnownBytes.{Appends}
use Rattle.std.proofs.KnownBytes.{Appends-trans}
use Rattle.cl_outside.specs.Writing.{Says}
use Rattle.cl_outside.proofs.WritingLemmas.{CutShort-behind, Wrote-more, Wrote-whole}

-- the first were written whole
pub Says-after : (done : Bool) (a b c : Option (List ℕ)) (first second : List ℕ) (x y z : ℕ) → Appends a b first → x ≤ y
    → Says done b c second y z → Says done a c (first ++ second) x z
Says-after true a b c first second x y z p le h = Appends-trans a b c first second p h
Says-after false a b c first second x y z p le h =
    CutShort-behind a b c (first ++ second) second x y z (Wrote-more a b first [] second (Wrote-whole a b first p)) le h
