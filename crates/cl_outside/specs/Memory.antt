-- What callers see of the objects in memory.
use Rattle.std.specs.Prelude.{◌≡◌, ℕ, ◌+◌, ◌-◌, ◌^◌, ◌<◌, min, max, List, [], ◌∷◌, length, slice_index, Contains}
use Rattle.cl_outside.specs.declared.answers.Took.{Took}
use Rattle.cl_outside.specs.declared.answers.Took.TheVariants.{Bytes, Failed}

-- one more of a count, which stands still at 2^64 - 1
abbrev pub one_more : ℕ → ℕ
one_more n = max n (min (n + 1) (2 ^ 64 - 1))

-- the numbers, from 1, of the calls that are to fail, and how many calls there were
pub record Plan : Type 0 where
  pub numbers : List ℕ
  pub calls : ℕ

-- the next call is to fail
abbrev pub IsToFail : Plan → Type 0
IsToFail plan = Contains plan.numbers (plan.calls + 1)

-- after one call
abbrev pub counted : Plan → Plan
counted plan = record { numbers = plan.numbers; calls = one_more plan.calls }

-- of calls that were not made yet
abbrev pub new_plan : List ℕ → Plan
new_plan numbers = record { numbers = numbers; calls = 0 }

-- a count of faults rises by one where the call failed
abbrev pub CountsFault : ℕ → ℕ → Took → Type 0
CountsFault before now (Bytes n) = now ≡ before
CountsFault before now Failed = now ≡ one_more before

-- reads: how many there were
pub record MemorySource : Type 0 where
  pub left : List ℕ
  pub plan : Plan
  pub faults : ℕ
  pub reads : ℕ

-- pieces are those of the writes to come
pub record MemorySink : Type 0 where
  pub taken : List ℕ
  pub room : ℕ
  pub pieces : List ℕ
  pub plan : Plan
  pub faults : ℕ

-- each of the numbers is greater than 0
abbrev pub AllPositive : List ℕ → Type 0
AllPositive numbers = (k : ℕ) → k < length numbers → 0 < slice_index numbers k

-- how many of so many bytes the next write takes, where room is enough
abbrev pub next_piece : List ℕ → ℕ → ℕ
next_piece [] offered = offered
next_piece (piece ∷ pieces) offered = min piece offered

-- the lengths of the pieces behind the first
abbrev pub later_pieces : List ℕ → List ℕ
later_pieces [] = []
later_pieces (piece ∷ pieces) = pieces

-- a read that does not fail hands over as much as the buffer holds and is left
abbrev pub ReadsAll : List ℕ → List ℕ → Took → Type 0
ReadsAll left buf (Bytes n) = n ≡ min (length buf) (length left)
ReadsAll left buf Failed = Unit {0}

-- a write that does not fail takes one piece
abbrev pub WritesPiece : MemorySink → MemorySink → List ℕ → Took → Type 0
WritesPiece old new bytes (Bytes n) = (n ≡ min (next_piece old.pieces (length bytes)) (old.room - length old.taken)) × (new.pieces ≡ later_pieces old.pieces)
WritesPiece old new bytes Failed = new.pieces ≡ old.pieces
