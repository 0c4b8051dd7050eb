-- What callers see of a place in memory, and what its calls do to it.
use Rattle.std.specs.Prelude.{◌≡◌, ℕ, ◌+◌, ◌-◌, ◌≤◌, min, List, [], ◌++◌, length, take, drop, slice_index, Option, None, Some, if◌then◌else◌, IfSome}
use Rattle.std.specs.Str.{bytes_eq}
use Rattle.cl_outside.specs.declared.answers.Opened.{Opened}
use Rattle.cl_outside.specs.declared.answers.Opened.TheVariants.{Done, Failed, Memory}
use Rattle.cl_outside.specs.declared.answers.Took.{Took}
use Rattle.cl_outside.specs.declared.answers.Took.TheVariants as took
use Rattle.cl_outside.specs.declared.reading.Reading.{Reading}
use Rattle.cl_outside.specs.Memory.{Plan, counted, one_more, next_piece, later_pieces, ReadsAll}
use Rattle.cl_outside.specs.Named.{found, name_at, IsFirst, updated, bytes_of, count_of}
use Rattle.cl_outside.specs.NameTables.{Files}

-- the open source: its file's name, and how many bytes were read
pub record OpenSource : Type 0 where
  pub name : List ℕ
  pub at : ℕ

-- files and faults by name, the open source, the name of the made sink, how many bytes a sink may take, the pieces of the writes to come
pub record MemoryPlace : Type 0 where
  pub files : List (List ℕ × List ℕ)
  pub faults : List (List ℕ × ℕ)
  pub source : Option OpenSource
  pub sink : Option (List ℕ)
  pub room : ℕ
  pub pieces : List ℕ
  pub plan : Plan
  pub making_faults : ℕ
  pub writing_faults : ℕ

-- the open source and the made sink by name
abbrev pub named_source : List (List ℕ × List ℕ) → Option Reading → Option OpenSource
named_source files None = None
named_source files (Some r) = Some (record { name = name_at files r.file; at = r.at })

-- the name of the made sink, if one was made
abbrev pub named_sink : List (List ℕ × List ℕ) → Option ℕ → Option (List ℕ)
named_sink files None = None
named_sink files (Some place) = Some (name_at files place)

-- places that are called are the first of their names, and the sink has its room
pub record IsPlace (files : Files) (faults : List (List ℕ × ℕ)) (source : Option Reading) (sink : Option ℕ) (room : ℕ) : Type 0 where
  pub source_first : IfSome source (λ r. IsFirst files.entries r.file)
  pub fault_first : IfSome source (λ r. IsFirst faults r.fault)
  pub same_name : IfSome source (λ r. name_at faults r.fault ≡ name_at files.entries r.file)
  pub sink_first : IfSome sink (λ place. IsFirst files.entries place)
  pub sink_room : IfSome sink (λ place. room ≤ slice_index files.rooms place)
  pub sink_fits : IfSome sink (λ place. length (bytes_of files.entries (name_at files.entries place)) ≤ room)

-- the bytes that are still to come of the open source
abbrev pub left_in : List (List ℕ × List ℕ) → Option OpenSource → Option (List ℕ)
left_in files None = None
left_in files (Some source) = Some (drop source.at (bytes_of files source.name))

-- a read that does not fail hands over as much as the buffer holds and is left
abbrev pub ReadsAllOf : Option (List ℕ) → List ℕ → Took → Type 0
ReadsAllOf None buf answer = Unit {0}
ReadsAllOf (Some left) buf answer = ReadsAll left buf answer

-- the source that is open has this name
abbrev pub Reads : Option OpenSource → List ℕ → Type 0
Reads None name = ⊥
Reads (Some source) name = source.name ≡ name

-- the bytes of the made sink's file
abbrev pub taken_in : List (List ℕ × List ℕ) → Option (List ℕ) → Option (List ℕ)
taken_in files None = None
taken_in files (Some name) = found files name

-- each file but the made sink's
abbrev pub other_file : List (List ℕ × List ℕ) → Option (List ℕ) → List ℕ → Option (Option (List ℕ))
other_file files None name = Some (found files name)
other_file files (Some made) name = if bytes_eq made name then None else Some (found files name)

-- a call fails exactly where this holds, or else it is Done or wants memory
abbrev pub FailsWhere : Opened → Type 0 → Type 0
FailsWhere Done P = P → ⊥
FailsWhere Failed P = P
FailsWhere Memory P = Unit {0}

-- after a call
abbrev pub called : MemoryPlace → MemoryPlace
called place = record place { plan = counted place.plan }

-- one more fault of a name
abbrev pub with_fault : MemoryPlace → List ℕ → MemoryPlace
with_fault place name = record place { faults = updated place.faults name (one_more (count_of place.faults name)) }

-- what a call of `open_source` leaves
abbrev pub OpenStep : MemoryPlace → MemoryPlace → List ℕ → Opened → Type 0
OpenStep old new name Done =
    new ≡ record (called old) { faults = updated old.faults name (count_of old.faults name); source = Some (record { name = name; at = 0 }) }
OpenStep old new name Failed = new ≡ with_fault (called old) name
OpenStep old new name Memory = new ≡ called old

-- what a call of `make_sink` leaves
abbrev pub MakeStep : MemoryPlace → MemoryPlace → List ℕ → Opened → Type 0
MakeStep old new name Done = new ≡ record (called old) { files = updated old.files name []; sink = Some name }
MakeStep old new name Failed = new ≡ record (called old) { making_faults = one_more old.making_faults }
MakeStep old new name Memory = new ≡ called old

-- the bytes that the made sink took
abbrev pub sink_bytes : List (List ℕ × List ℕ) → Option (List ℕ) → List ℕ
sink_bytes files None = []
sink_bytes files (Some name) = bytes_of files name

-- what a call of `read_source` leaves, where this source is open
abbrev pub ReadStep : MemoryPlace → MemoryPlace → Option OpenSource → Took → Type 0
ReadStep old new (Some source) (took.Bytes n) =
    new ≡ record (called old) { source = Some (record { name = source.name; at = min source.at (length (bytes_of old.files source.name)) + n }) }
ReadStep old new (Some source) took.Failed = new ≡ with_fault (called old) source.name
ReadStep old new None answer = ⊥

-- what a call of `write_sink` leaves, where this sink is made
abbrev pub WriteStep : MemoryPlace → MemoryPlace → Option (List ℕ) → List ℕ → Took → Type 0
WriteStep old new (Some sink) bytes (took.Bytes n) =
    (n ≡ min (next_piece old.pieces (length bytes)) (old.room - length (bytes_of old.files sink)))
    × (new ≡ record (called old) { files = updated old.files sink (bytes_of old.files sink ++ take n bytes); pieces = later_pieces old.pieces })
WriteStep old new (Some sink) bytes took.Failed = new ≡ record (called old) { writing_faults = one_more old.writing_faults }
WriteStep old new None bytes answer = ⊥
