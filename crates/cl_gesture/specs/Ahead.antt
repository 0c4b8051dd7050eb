-- What the bytes ahead of a reader become.
use Rattle.std.specs.Prelude.{◌≡◌, ℕ, Option, List, ◌++◌, length}
use Rattle.std.specs.Io.KnownBytes.{Consumes, IsAtEnd, Keeps}
use Rattle.cl_outside.specs.declared.answers.Took.{Took}
use Rattle.cl_outside.specs.declared.answers.Took.TheVariants.{Bytes, Failed}

-- the bytes that were handed over stand behind those that were there; none only at the end
abbrev pub FillTook : Option (List ℕ) → Option (List ℕ) → List ℕ → List ℕ → Took → Type 0
FillTook old new ahead_old ahead_new (Bytes n) =
    (handed : List ℕ) × Consumes old new handed × (ahead_new ≡ ahead_old ++ handed) × (length handed ≡ n) × (n ≡ 0 → IsAtEnd new)
FillTook old new ahead_old ahead_new Failed = Keeps old new × (ahead_new ≡ ahead_old)
