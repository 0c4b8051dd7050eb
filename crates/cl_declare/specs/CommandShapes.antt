-- The shape of a command, but for the forms in it: its name with what its keys say, and which parts are arguments.
use Rattle.std.specs.Prelude.{ℕ, Bool, true, false, not, ◌&&◌, ◌||◌, is_some, List, [], ◌∷◌, Option, Some, None, option_and_then, codes}
use Rattle.std.specs.Str.{bytes_eq}
use Rattle.cl_forms.specs.Datum.{Datum, parts_of}
use Rattle.cl_forms.specs.Keys.{Keyed, keyed_pairs, values_of}
use Rattle.cl_forms.specs.LineNames.{line_name_of}
use Rattle.cl_forms.specs.Naming.{name_in, symbol_of}
use Rattle.cl_forms.specs.Outer.{behind_first, first_or_itself}
use Rattle.cl_forms.specs.declared.keys.Key.{Key}
use Rattle.cl_forms.specs.declared.keys.Key.TheVariants as key
use Rattle.cl_bodies.specs.TypeArguments.{text_behind}
use Rattle.cl_declare.specs.CommandTables.{table_or_global}
use Rattle.cl_declare.specs.TypeShapes.{name_behind}
use Rattle.cl_declare.specs.declared.command_shapes.CommandShape.{CommandShape}

-- ---- the head: `NAME`, or `(NAME KEY VALUE ...)`

-- the keys that a command may have
abbrev pub command_keys : List Key
command_keys = key.CommandTable ∷ key.Name ∷ key.Keystroke ∷ []

-- the name of a command, by its head
abbrev pub head_name : Datum → Option (List ℕ)
head_name d = option_and_then name_in (first_or_itself d)

-- None where a key is none that a command may have, stands twice or has no value
abbrev pub head_keys : Datum → Option (List Keyed)
head_keys d = keyed_pairs command_keys [] (behind_first (parts_of d))

-- ---- what the keys say

-- the name made from the symbol, where no other is given
abbrev pub given_or_made : Option (List ℕ) → List ℕ → List ℕ
given_or_made None symbol = line_name_of symbol
given_or_made (Some x) symbol = x

-- the shape of a command of this name; None where something else stands behind one of its keys
abbrev pub shape_with : List ℕ → Option (Option (List ℕ)) → Option (Option (List ℕ)) → Option (Option (List ℕ)) → Option CommandShape
shape_with x (Some table) (Some line_name) (Some keystroke) =
    Some (record { name = x; table = table_or_global table; line_name = given_or_made line_name x; keystroke = keystroke })
shape_with x (Some table) (Some line_name) None = None
shape_with x (Some table) None keystroke = None
shape_with x None line_name keystroke = None

-- a name behind the key of its table and that of its keystroke, a text behind that of its command-line name
abbrev pub command_shape : Option (List ℕ) → List Keyed → Option CommandShape
command_shape None ks = None
command_shape (Some x) ks = shape_with x (name_behind (values_of key.CommandTable ks)) (text_behind (values_of key.Name ks)) (name_behind (values_of key.Keystroke ks))

-- ---- arguments: `(NAME TYPE KEY VALUE ...)`

-- the keys that an argument may have
abbrev pub argument_keys : List Key
argument_keys = key.Default ∷ key.Prompt ∷ []

-- the name `command`
abbrev pub is_command_word : Datum → Bool
is_command_word d = bytes_eq (symbol_of d) (codes "command")

-- the first of data is the name `command`
abbrev pub begins_with_command : List Datum → Bool
begins_with_command [] = false
begins_with_command (d ∷ ds) = is_command_word d

-- the first of data is a form that begins with `command`
abbrev pub begins_inside : List Datum → Bool
begins_inside [] = false
begins_inside (d ∷ ds) = begins_with_command (parts_of d)

-- a type that is named `command`: `command`, `(command ...)` or `((command ...) ...)`
abbrev pub is_command_type : Datum → Bool
is_command_type d = is_command_word d || (begins_with_command (parts_of d) || begins_inside (parts_of d))

-- a text behind the key of its prompt
abbrev pub has_prompt : Option (List Keyed) → Bool
has_prompt None = false
has_prompt (Some ks) = is_some (text_behind (values_of key.Prompt ks))

-- a name, and a type that is not named `command`
abbrev pub is_argument : List Datum → Bool
is_argument [] = false
is_argument (n ∷ []) = false
is_argument (n ∷ t ∷ keys) = is_some (name_in n) && (not (is_command_type t) && has_prompt (keyed_pairs argument_keys [] keys))

-- each of the data is an argument
abbrev pub are_arguments : List Datum → Bool
are_arguments [] = true
are_arguments (d ∷ ds) = is_argument (parts_of d) && are_arguments ds
