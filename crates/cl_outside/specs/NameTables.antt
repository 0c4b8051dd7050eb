-- Files and counts of the program as lists by name.
use Rattle.std.specs.Prelude.{ℕ, Bool, List, map, String, Vec, vec_capacity, string_bytes}
use Rattle.std.specs.Str.{bytes_eq}
use Rattle.std.specs.declared.alloc.Global.{Global}

-- files by name, and the room that each has
pub record Files : Type 0 where
  pub entries : List (List ℕ × List ℕ)
  pub rooms : List ℕ

-- a file has this name
abbrev pub is_named : List ℕ → String Global × Vec ℕ Global → Bool
is_named name file = bytes_eq (string_bytes file.0) name

-- a file's name and its bytes
abbrev pub entry_of : String Global × Vec ℕ Global → List ℕ × List ℕ
entry_of file = (string_bytes file.0, file.1.items)

-- how many bytes a file has room for
abbrev pub room_of : String Global × Vec ℕ Global → ℕ
room_of file = vec_capacity file.1

-- the names and the bytes of files
abbrev pub entries_of : List (String Global × Vec ℕ Global) → List (List ℕ × List ℕ)
entries_of files = map entry_of files

-- the rooms of files
abbrev pub rooms_of : List (String Global × Vec ℕ Global) → List ℕ
rooms_of files = map room_of files

-- files by name, with their rooms
abbrev pub files_of : List (String Global × Vec ℕ Global) → Files
files_of files = record { entries = entries_of files; rooms = rooms_of files }

-- counts by name
abbrev pub is_counted : List ℕ → String Global × ℕ → Bool
is_counted name count = bytes_eq (string_bytes count.0) name

-- a count with its name
abbrev pub count_entry : String Global × ℕ → List ℕ × ℕ
count_entry count = (string_bytes count.0, count.1)

-- counts with their names
abbrev pub counts_of : List (String Global × ℕ) → List (List ℕ × ℕ)
counts_of counts = map count_entry counts
