-- Sums of moves.
use Rattle.std.specs.Prelude.{ℤ, pos, neg_ℤ, ◌+ℤ◌, ◌≤ℤ◌}
use Rattle.cl_region.specs.declared.rects.Shift.{Shift}

-- no move
abbrev pub still : Shift
still = record { dx = pos 0; dy = pos 0 }

-- one move after the other
abbrev pub join_shifts : Shift → Shift → Shift
join_shifts v w = record { dx = v.dx +ℤ w.dx; dy = v.dy +ℤ w.dy }

-- no further are two near numbers from each other
abbrev pub MAX_SHIFT : ℤ
MAX_SHIFT = pos 2000000

-- a number from -2,000,000 to 2,000,000
pub record IsFar (z : ℤ) : Type 0 where
  pub low : neg_ℤ MAX_SHIFT ≤ℤ z
  pub high : z ≤ℤ MAX_SHIFT

-- a move of which neither part is too far
pub record IsShift (v : Shift) : Type 0 where
  pub dx : IsFar v.dx
  pub dy : IsFar v.dy
