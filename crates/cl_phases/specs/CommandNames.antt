-- The command-line names and the keystrokes of commands, each in its command table.
use Rattle.std.specs.Prelude.{ℕ, if◌then◌else◌, List, [], ◌∷◌, ◌++◌, map, Option, Some, None}
use Rattle.cl_forms.specs.Datum.{Datum, number, literal, word, quoted, stray, list, parts_of}
use Rattle.cl_forms.specs.Keys.{is_key, key_named}
use Rattle.cl_forms.specs.LineNames.{line_name_of}
use Rattle.cl_forms.specs.Naming.{symbol_of}
use Rattle.cl_forms.specs.Outer.{Outer, behind_first}
use Rattle.cl_forms.specs.declared.keys.Key.{Key}
use Rattle.cl_forms.specs.declared.keys.Key.TheVariants as key
use Rattle.cl_words.specs.Signatures.{global_table}
use Rattle.cl_phases.specs.DeclaredNames.{is_in, own_name_at, declares}
use Rattle.cl_phases.specs.declared.repeats.NameAt.{NameAt}
use Rattle.cl_phases.specs.declared.declared_names.Space.TheVariants.{Commands}

-- ---- the head of a command: `NAME`, or `(NAME KEY VALUE ...)`

-- the keys with their values
abbrev pub head_keys : List Datum → List Datum
head_keys [] = []
head_keys (d ∷ ds) = behind_first (parts_of d)

-- what stands behind a key among pairs `KEY VALUE`
abbrev pub paired : Key → List Datum → Option Datum
paired key [] = None
paired key (k ∷ []) = None
paired key (k ∷ v ∷ ds) = if is_key key (key_named (symbol_of k)) then Some v else paired key ds

-- what stands behind a key of a command; nothing of another form
abbrev pub head_value : Key → Outer → Option Datum
head_value key o = if is_in Commands o.kind then paired key (head_keys o.parts) else None

-- ---- tables

-- the table of this name, or the one that each text has where none is written
abbrev pub table_named : Option Datum → List ℕ
table_named None = global_table
table_named (Some d) = symbol_of d

-- the table of a command, by its name as it is written, declared or not
abbrev pub table_of : Outer → List ℕ
table_of o = table_named (head_value key.CommandTable o)

-- a table and a name in it. A table's name is a symbol, which has no space in it: two of these are equal exactly where both the tables and the names are
abbrev pub joined : List ℕ → List ℕ → List ℕ
joined table name = table ++ 32 ∷ name

-- a name put in a table, at the same offset
abbrev pub joined_at : List ℕ → NameAt → NameAt
joined_at table n = record { name = joined table n.name; at = n.at }

-- names put in a table
abbrev pub in_table : List ℕ → List NameAt → List NameAt
in_table table ns = map (joined_at table) ns

-- ---- command-line names

-- the text that a datum is, at its offset
abbrev pub text_at : Datum → List NameAt
text_at (literal s at) = record { name = s; at = at } ∷ []
text_at (number z at) = []
text_at (word s at) = []
text_at (quoted s at name_at) = []
text_at (stray at) = []
text_at (list ds at) = []

-- what is made of a symbol, where the symbol stands
abbrev pub line_named : NameAt → NameAt
line_named n = record { name = line_name_of n.name; at = n.at }

-- what is made of symbols, each where the symbol stands
abbrev pub line_names : List NameAt → List NameAt
line_names ns = map line_named ns

-- the text that is given, or what is made of the command's symbol
abbrev pub given_or_made : Option Datum → List NameAt → List NameAt
given_or_made None ns = line_names ns
given_or_made (Some d) ns = text_at d

-- the command-line name of a command
abbrev pub line_of : Outer → List NameAt
line_of o = given_or_made (head_value key.Name o) (declares Commands o)

-- those of all commands, in their tables
abbrev pub lines_in : List Outer → List NameAt
lines_in [] = []
lines_in (o ∷ os) = in_table (table_of o) (line_of o) ++ lines_in os

-- ---- keystrokes

-- the keystroke of a command, if it has one
abbrev pub stroke_of : Outer → List NameAt
stroke_of o = own_name_at (head_value key.Keystroke o)

-- those of all commands, in their tables
abbrev pub strokes_in : List Outer → List NameAt
strokes_in [] = []
strokes_in (o ∷ os) = in_table (table_of o) (stroke_of o) ++ strokes_in os
