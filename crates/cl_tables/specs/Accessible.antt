-- The accessible commands, in the inheritance order and then in the order of the text.
use Rattle.std.specs.Prelude.{◌≤◌, ℕ, Bool, All, List, length, map, filter}
use Rattle.std.specs.List.{flat_map}
use Rattle.std.specs.Str.{bytes_eq}
use Rattle.cl_tables.specs.Inheritance.{TableDecls, inheritance}
use Rattle.cl_tables.specs.declared.declarations.TheConstants.{MAX_LINE_NAME}
use Rattle.cl_tables.specs.declared.declarations.CommandPlace.{CommandPlace}

-- the commands of a text, by name
abbrev pub CommandPlaces : Type 0
CommandPlaces = List (List ℕ × CommandPlace)

-- no command-line name is longer than allowed
abbrev pub AreShort : CommandPlaces → Type 0
AreShort places = All (λ e. length e.1.line_name ≤ MAX_LINE_NAME) places

-- the commands in the order of the text
abbrev pub commands_of : CommandPlaces → List CommandPlace
commands_of places = map (λ e. e.1) places

-- whether a command stands in a table
abbrev pub stands_in : List ℕ → CommandPlace → Bool
stands_in table c = bytes_eq c.table table

-- for each of these tables, the commands that stand in it
abbrev pub commands_in : List (List ℕ) → List CommandPlace → List CommandPlace
commands_in order commands = flat_map (λ table. filter (stands_in table) commands) order

-- the commands that are accessible from a table: for each table of its inheritance order, those that stand in it
abbrev pub accessible_commands : TableDecls → CommandPlaces → List ℕ → List CommandPlace
accessible_commands tables places root = commands_in (inheritance tables root) (commands_of places)
