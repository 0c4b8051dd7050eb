-- Indexes: commands by their names, by their command-line names in small letters, and by their keystrokes.
use Rattle.std.specs.Prelude.{◌≡◌, ◌≤◌, ◌<◌, ℕ, Bool, true, All, List, length, find, Option, Some, None, option_map}
use Rattle.std.specs.Str.{str_to_ascii_lowercase}
use Rattle.cl_table.specs.Names.{named, with_first}
use Rattle.cl_tables.specs.Lookups.{begins, is_key}
use Rattle.cl_tables.specs.declared.declarations.CommandPlace.{CommandPlace}
use Rattle.cl_tables.specs.declared.indexes.Key.{Key}
use Rattle.cl_tables.specs.declared.indexes.Key.TheVariants.{Name, LineName, Keystroke}
use Rattle.cl_tables.specs.declared.indexes.Keyed.{Keyed}

-- the key of a command, if it has one of this kind
abbrev pub key_of : Key → CommandPlace → Option (List ℕ)
key_of Name c = Some c.name
key_of LineName c = Some (str_to_ascii_lowercase c.line_name)
key_of Keystroke c = c.keystroke

-- whether a command has this key
abbrev pub has_key : Key → List ℕ → CommandPlace → Bool
has_key kind x c = is_key x (key_of kind c)

-- commands by their keys
abbrev pub Index : Type 0
Index = List (List ℕ × Keyed)

-- with one more command, where it has a key that none before it has
abbrev pub with_key : Option (List ℕ) → CommandPlace → Index → Index
with_key None c index = index
with_key (Some x) c index = with_first (λ e. e.key) index (record { key = x; command = c })

-- the command that stands under a key
abbrev pub command_under : List ℕ → Index → Option CommandPlace
command_under x index = option_map (λ e. e.command) (named x index)

-- under each key stands the first of the commands that have it
abbrev pub IsIndex : Key → List CommandPlace → Index → Type 0
IsIndex kind commands index = (x : List ℕ) → command_under x index ≡ find (has_key kind x) commands

-- no command-line name is longer
abbrev pub AreWithin : ℕ → List CommandPlace → Type 0
AreWithin most commands = All (λ c. length c.line_name ≤ most) commands

-- no command-line name that begins the line is so long
abbrev pub BeginWithin : ℕ → List ℕ → List CommandPlace → Type 0
BeginWithin most line commands = All (λ c. begins line c ≡ true → length c.line_name < most) commands

-- the commands are found by each of their keys, and no command-line name is longer than the longest
pub record IsIndexed (commands : List CommandPlace) (by_name by_line_name by_keystroke : Index) (longest : ℕ) : Type 0 where
  pub names : IsIndex Name commands by_name
  pub line_names : IsIndex LineName commands by_line_name
  pub keystrokes : IsIndex Keystroke commands by_keystroke
  pub within : AreWithin longest commands
