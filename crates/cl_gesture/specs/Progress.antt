-- How far a reader of lines is, and how it comes on.
use Rattle.std.specs.Prelude.{◌≡◌, ◌+◌, ℕ, Bool, true, false, Option, List, length}
use Rattle.cl_gesture.specs.declared.answers.Stop.{Stop}
use Rattle.cl_gesture.specs.declared.answers.Stop.TheVariants as stop
use Rattle.cl_gesture.specs.Lines.{Piece, Lines}

-- the most lines that a reader reads
abbrev pub most_lines : ℕ
most_lines = 1000000

-- how far a reader is: the bytes that its source has left (None: not told) and the source's faults, the bytes ahead, the
-- number of lines that were read, and where it stopped
pub record Progress : Type 0 where
  pub left : Option (List ℕ)
  pub faults : ℕ
  pub ahead : List ℕ
  pub count : ℕ
  pub stop : Stop

-- these pieces, and nothing else, were read on the way from the one state to the other, and each was counted
pub record Passes (old new : Progress) (finished : Bool) (ps : List Piece) : Type 0 where
  pub lines : Lines old.left new.left old.ahead new.ahead finished ps
  pub counted : new.count ≡ old.count + length ps

-- the source has ended, or more may come
abbrev pub stop_at : Bool → Stop
stop_at false = stop.Going
stop_at true = stop.AtEnd
