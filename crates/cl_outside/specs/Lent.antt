-- What an object keeps through every call, of itself and of what it lends.
use Rattle.std.specs.Prelude.{ℕ, Bool, true, false, List, [], Option, None}

-- whether its bytes are told at all times; the names of the references that it holds, its own first; of a place the files that no write changes, by name
-- (outer None: not told, inner None: no such file), whether a source is open, and the counts of faults that no write raises
pub record Lent : Type 0 where
  pub told : Bool
  pub references : List ℕ
  pub files : List ℕ → Option (Option (List ℕ))
  pub opened : Bool
  pub app_faults : List ℕ → ℕ
  pub making_faults : ℕ

-- no file is told
abbrev pub no_file_told : List ℕ → Option (Option (List ℕ))
no_file_told name = None

-- there was no fault at any name
abbrev pub no_faults : List ℕ → ℕ
no_faults name = 0

-- of a value that lends nothing
abbrev pub nothing_lent_where : (told : Bool) → Lent
nothing_lent_where told =
    record { told = told; references = []; files = no_file_told; opened = false; app_faults = no_faults; making_faults = 0 }

-- nor need its bytes be told
abbrev pub nothing_lent : Lent
nothing_lent = nothing_lent_where false

-- but its bytes are told at all times
abbrev pub told_only : Lent
told_only = nothing_lent_where true
