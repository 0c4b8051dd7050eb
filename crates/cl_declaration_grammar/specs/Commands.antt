-- What is looked at of commands and command tables: names of tables, the types and defaults of arguments and bodies, in the order of the text.
use Rattle.std.specs.Prelude.{ℕ, ◌&&◌, is_some, if◌then◌else◌, List, [], ◌∷◌, ◌++◌, Option, Some, None}
use Rattle.cl_forms.specs.Datum.{Datum, parts_of, offset}
use Rattle.cl_forms.specs.Keys.{Keyed, keyed_pairs, values_of}
use Rattle.cl_forms.specs.Naming.{name_in}
use Rattle.cl_forms.specs.declared.keys.Key.TheVariants as key
use Rattle.cl_words.specs.declared.signatures.Signatures.{Signatures}
use Rattle.cl_expressions.specs.Scopes.{in_sight}
use Rattle.cl_declare.specs.Commands.{argument_names}
use Rattle.cl_declare.specs.CommandShapes.{are_arguments, argument_keys, command_shape, head_keys, head_name}
use Rattle.cl_declare.specs.CommandTables.{table_keys}
use Rattle.cl_declare.specs.Frames.{behind}
use Rattle.cl_declare.specs.Names.{is_list, is_name_list}
use Rattle.cl_grammar.specs.Sights.{expression}
use Rattle.cl_text_grammar.specs.FormSights.{forms_seen}
use Rattle.cl_text_grammar.specs.Types.{type_seen}
use Rattle.cl_declaration_grammar.specs.Parts.{Part, specifier, table_name, expressions, acts, wrong}

-- ---- command tables

-- the name of a command table
abbrev pub table_seen : ℕ → Option (List ℕ) → List Part
table_seen at None = []
table_seen at (Some x) = table_name x at ∷ []

-- the tables that data name
abbrev pub tables_seen : List Datum → List Part
tables_seen [] = []
tables_seen (d ∷ ds) = table_seen (offset d) (name_in d) ++ tables_seen ds

-- the tables that it inherits from are a list of names
abbrev pub inheriting_seen : ℕ → Option (List Datum) → List Part
inheriting_seen at None = []
inheriting_seen at (Some []) = wrong at
inheriting_seen at (Some (d ∷ ds)) = if is_name_list d then tables_seen (parts_of d) else wrong at

-- a table has a name, and keys that it may have
abbrev pub named_table_seen : ℕ → Option (List ℕ) → Option (List Keyed) → List Part
named_table_seen at None ks = wrong at
named_table_seen at (Some x) None = wrong at
named_table_seen at (Some x) (Some ks) = inheriting_seen at (values_of key.InheritFrom ks)

-- `(define-command-table NAME :inherit-from (TABLE ...))`
abbrev pub command_table_seen : ℕ → List Datum → List Part
command_table_seen at [] = wrong at
command_table_seen at (n ∷ keys) = named_table_seen at (name_in n) (keyed_pairs table_keys [] keys)

-- ---- arguments

-- a default sees no variable
abbrev pub default_seen : Option (List Datum) → List Part
default_seen None = []
default_seen (Some []) = []
default_seen (Some (d ∷ ds)) = expressions (expression [] d ∷ []) ∷ []

-- the type of an argument, then the default behind its key
abbrev pub keyed_argument_seen : Signatures → Datum → Option (List Keyed) → List Part
keyed_argument_seen w t None = []
keyed_argument_seen w t (Some ks) = specifier (type_seen w [] t) ∷ default_seen (values_of key.Default ks)

-- `NAME TYPE KEY VALUE ...`: the type, then the default
abbrev pub argument_seen : Signatures → List Datum → List Part
argument_seen w (n ∷ t ∷ keys) = keyed_argument_seen w t (keyed_pairs argument_keys [] keys)
argument_seen w [] = []
argument_seen w (n ∷ []) = []

-- what is looked at of each argument, in their order
abbrev pub arguments_seen : Signatures → List Datum → List Part
arguments_seen w [] = []
arguments_seen w (d ∷ ds) = argument_seen w (parts_of d) ++ arguments_seen w ds

-- ---- commands

-- the table behind its key, the arguments, and the body, which sees them
abbrev pub shaped_command_seen : Signatures → List Keyed → List Datum → List Datum → List Part
shaped_command_seen w ks arguments body =
    tables_seen (behind key.CommandTable ks) ++ (arguments_seen w arguments ++ acts (forms_seen (in_sight (argument_names arguments) []) body) ∷ [])

-- the command has a name; behind the keys of its table and of its keystroke stand names, behind that of its command-line name a text
abbrev pub headed_seen : Signatures → ℕ → Datum → Option (List Keyed) → List Datum → List Datum → List Part
headed_seen w at h None arguments body = wrong at
headed_seen w at h (Some ks) arguments body = if is_some (command_shape (head_name h) ks) then shaped_command_seen w ks arguments body else wrong at

-- `(define-command HEAD (ARGUMENT ...) STATEMENT ...)`: each key of the head is one that a command may have, once, and all arguments are arguments
abbrev pub command_seen : Signatures → ℕ → List Datum → List Part
command_seen w at (h ∷ arguments ∷ body) =
    if is_list arguments && are_arguments (parts_of arguments) then headed_seen w at h (head_keys h) (parts_of arguments) body else wrong at
command_seen w at parts = wrong at
