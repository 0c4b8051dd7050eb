-- What callers see of a source that never fails.
use Rattle.std.specs.Prelude.{ℕ, List}

-- the bytes that are still to come, and how many reads there were
pub record SureBytes : Type 0 where
  pub left : List ℕ
  pub reads : ℕ
