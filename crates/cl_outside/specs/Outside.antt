-- What a read and a write do, by what they answer.
use Rattle.std.specs.Prelude.{◌≡◌, ℕ, ◌≤◌, ◌<◌, List, Option, length, take}
use Rattle.std.specs.Io.KnownBytes.{Appends, Consumes, IsAtEnd, Keeps}
use Rattle.cl_outside.specs.Causes.{Rose}
use Rattle.cl_outside.specs.declared.answers.Took.{Took}
use Rattle.cl_outside.specs.declared.answers.Took.TheVariants.{Bytes, Failed}

-- the bytes at the front of the buffer are those that were next; none only at the end; a read that failed handed over none
abbrev pub ReadTook : Option (List ℕ) → Option (List ℕ) → List ℕ → Took → Type 0
ReadTook old new buf (Bytes n) = (n ≤ length buf) × Consumes old new (take n buf) × (n ≡ 0 → IsAtEnd new)
ReadTook old new buf Failed = Keeps old new

-- bytes from the front of those that were offered stand behind those that were taken before, at least one; a write that failed took none
abbrev pub WriteTook : Option (List ℕ) → Option (List ℕ) → List ℕ → Took → Type 0
WriteTook old new bytes (Bytes n) = (0 < n) × (n ≤ length bytes) × Appends old new (take n bytes)
WriteTook old new bytes Failed = Keeps old new

-- no count falls, and one rose where the call failed
abbrev pub FailedRose : ℕ → ℕ → Took → Type 0
FailedRose before now (Bytes n) = before ≤ now
FailedRose before now Failed = (before ≤ now) × Rose before now
