-- What callers see of the adapters over the system.
use Rattle.std.specs.Prelude.{ℕ, Bool, List, Option}

-- over a reader: the bytes that it has left, where they are told, and how often it was read
pub record Reading : Type 0 where
  pub bytes : Option (List ℕ)
  pub faults : ℕ
  pub reads : ℕ

-- over a writer: the bytes that it holds, where they are told
pub record Adapter : Type 0 where
  pub bytes : Option (List ℕ)
  pub faults : ℕ

-- a place over the system's files: whether a source is open and a sink made, and one count of application faults for every name
pub record Filing : Type 0 where
  pub opened : Bool
  pub made : Bool
  pub app_faults : ℕ
  pub making_faults : ℕ
  pub writing_faults : ℕ
