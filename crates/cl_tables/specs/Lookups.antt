-- What a frame's command table sees, and what is looked up in it: the first of the accessible commands counts.
use Rattle.std.specs.Prelude.{ℕ, Bool, true, false, ◌&&◌, ◌==◌, max, List, [], ◌∷◌, length, take, drop, map, filter, find, Option, Some, None, option_map}
use Rattle.std.specs.List.{list_any}
use Rattle.std.specs.Str.{bytes_eq, str_eq_ignore_ascii_case}
use Rattle.cl_tables.specs.Accessible.{CommandPlaces, accessible_commands}
use Rattle.cl_tables.specs.Inheritance.{TableDecls, inheritance}
use Rattle.cl_tables.specs.declared.declarations.CommandPlace.{CommandPlace}

-- the tables in the inheritance order, and the accessible commands
pub record Sight : Type 0 where
  pub order : List (List ℕ)
  pub commands : List CommandPlace

-- what a table sees
abbrev pub sight_of : TableDecls → CommandPlaces → List ℕ → Sight
sight_of tables places root = record { order = inheritance tables root; commands = accessible_commands tables places root }

-- ---- commands

-- whether a command has this symbol
abbrev pub is_named : List ℕ → CommandPlace → Bool
is_named x c = bytes_eq x c.name

-- whether a command of that name is accessible
abbrev pub is_accessible : List ℕ → List CommandPlace → Bool
is_accessible x commands = list_any (is_named x) commands

-- ---- keystrokes

-- whether this is the key, if there is one
abbrev pub is_key : List ℕ → Option (List ℕ) → Bool
is_key x None = false
is_key x (Some y) = bytes_eq x y

-- whether a command has this keystroke
abbrev pub has_stroke : List ℕ → CommandPlace → Bool
has_stroke stroke c = is_key stroke c.keystroke

-- the symbol of the first command with that keystroke
abbrev pub stroke_command : List ℕ → List CommandPlace → Option (List ℕ)
stroke_command stroke commands = option_map (λ c. c.name) (find (has_stroke stroke) commands)

-- ---- names of lines

-- a name ends at a space or at the line's end
abbrev pub ends_before : List ℕ → Bool
ends_before [] = true
ends_before (b ∷ bs) = b == 32

-- the line begins with the command's name, without regard to case, and the name ends there
abbrev pub begins : List ℕ → CommandPlace → Bool
begins line c = str_eq_ignore_ascii_case c.line_name (take (length c.line_name) line) && ends_before (drop (length c.line_name) line)

-- the greatest of numbers; 0 of none
abbrev pub greatest : List ℕ → ℕ
greatest [] = 0
greatest (n ∷ ns) = max n (greatest ns)

-- the length of the longest of the names that begin a line
abbrev pub longest : List ℕ → List CommandPlace → ℕ
longest line commands = greatest (map (λ c. length c.line_name) (filter (begins line) commands))

-- the name begins the line and is so long
abbrev pub begins_with : List ℕ → ℕ → CommandPlace → Bool
begins_with line count c = begins line c && (length c.line_name == count)

-- the first of the commands whose names begin the line and are the longest of these
abbrev pub line_command : List ℕ → List CommandPlace → Option CommandPlace
line_command line commands = find (begins_with line (longest line commands)) commands

-- the symbol of a command, and the length of its name in bytes
abbrev pub symbol_and_length : CommandPlace → List ℕ × ℕ
symbol_and_length c = (c.name, length c.line_name)
