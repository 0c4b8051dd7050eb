-- Commands, as forms declare them: the name of the table, the types and defaults of the arguments, and the body, in the order of the text.
use Rattle.std.specs.Prelude.{ℕ, ◌&&◌, if◌then◌else◌, List, [], ◌∷◌, Option, Some, None, option_and_then}
use Rattle.cl_table.specs.Names.{with_first}
use Rattle.cl_syntax.specs.ActTree.{ActTree}
use Rattle.cl_forms.specs.Datum.{Datum, offset, parts_of, datums_of}
use Rattle.cl_forms.specs.Keys.{Keyed, keyed_pairs, values_of}
use Rattle.cl_forms.specs.Naming.{symbol_of}
use Rattle.cl_forms.specs.declared.keys.Key.TheVariants as key
use Rattle.cl_words.specs.declared.signatures.Signatures.{Signatures}
use Rattle.cl_expressions.specs.Load.{Load, ◌>>=◌, give, refuse}
use Rattle.cl_expressions.specs.Expressions.{parse_expression}
use Rattle.cl_expressions.specs.Scopes.{Names, in_sight}
use Rattle.cl_bodies.specs.Specifiers.{parse_type}
use Rattle.cl_bodies.specs.Statements.{parse_acts}
use Rattle.cl_bodies.specs.TypeArguments.{text_behind}
use Rattle.cl_application.specs.declared.declarations.ArgumentDecl.{ArgumentDecl}
use Rattle.cl_application.specs.declared.declarations.CommandDecl.{CommandDecl}
use Rattle.cl_application.specs.declared.declarations.DefaultDecl.{DefaultDecl}
use Rattle.cl_declare.specs.CommandShapes.{argument_keys, are_arguments, command_shape, given_or_made, head_keys, head_name}
use Rattle.cl_declare.specs.CommandTables.{note_tables}
use Rattle.cl_declare.specs.Frames.{behind}
use Rattle.cl_declare.specs.Names.{is_list}
use Rattle.cl_declare.specs.declared.command_shapes.CommandShape.{CommandShape}

-- the arguments of a command by their names
abbrev pub ArgumentTable : Type 0
ArgumentTable = List (List ℕ × ArgumentDecl)

-- ---- arguments

-- a default sees no variable
abbrev pub parse_default_value : Signatures → Datum → Load DefaultDecl
parse_default_value w d = parse_expression w d [] >>= λ v. give (record { value = v; at = offset d })

-- the default behind its key, where the key stands
abbrev pub parse_default : Signatures → Option (List Datum) → Load (Option DefaultDecl)
parse_default w None = give None
parse_default w (Some []) = give None
parse_default w (Some (d ∷ ds)) = parse_default_value w d >>= λ v. give (Some v)

-- the text behind the key of the prompt, or the one made from the name where none is given
abbrev pub prompt_of : List ℕ → Option (Option (List ℕ)) → List ℕ
prompt_of x None = []
prompt_of x (Some t) = given_or_made t x

-- the type, then the default; of two arguments of one name the first counts
abbrev pub parse_keyed_argument : Signatures → ℕ → Datum → Datum → Option (List Keyed) → ArgumentTable → Load ArgumentTable
parse_keyed_argument w at n t None table = give table
parse_keyed_argument w at n t (Some ks) table =
    parse_type w [] t >>= λ s. parse_default w (values_of key.Default ks) >>= λ v.
    give (with_first (λ d. d.name) table
    (record { name = symbol_of n; spec = s; default = v; prompt = prompt_of (symbol_of n) (text_behind (values_of key.Prompt ks)); at = at }))

-- `(NAME TYPE KEY VALUE ...)`; what is no argument makes its command wrong, and is not read
abbrev pub parse_argument : Signatures → ℕ → List Datum → ArgumentTable → Load ArgumentTable
parse_argument w at (n ∷ t ∷ keys) table = parse_keyed_argument w at n t (keyed_pairs argument_keys [] keys) table
parse_argument w at [] table = give table
parse_argument w at (n ∷ []) table = give table

-- arguments in the order of the text, behind those that were read before
abbrev pub parse_arguments : Signatures → List Datum → ArgumentTable → Load ArgumentTable
parse_arguments w [] table = give table
parse_arguments w (d ∷ ds) table = parse_argument w (offset d) (parts_of d) table >>= λ more. parse_arguments w ds more

-- ---- commands

-- the symbol of the first of data
abbrev pub first_symbol : List Datum → List ℕ
first_symbol [] = []
first_symbol (n ∷ more) = symbol_of n

-- the names of arguments
abbrev pub argument_names : List Datum → Names
argument_names [] = []
argument_names (d ∷ ds) = first_symbol (parts_of d) ∷ argument_names ds

-- the command of a shape, with its arguments and its body
abbrev pub command_of : CommandShape → ArgumentTable → List ActTree → ℕ → CommandDecl
command_of c arguments acts at = record {
  name = c.name;
  table = c.table;
  line_name = c.line_name;
  keystroke = c.keystroke;
  arguments = arguments;
  body = acts;
  at = at;
}

-- the body sees the arguments, the last the newest
abbrev pub parse_shaped : Signatures → ℕ → List Keyed → List Datum → List Datum → Option CommandShape → Load CommandDecl
parse_shaped w at ks arguments body None = refuse 6 at
parse_shaped w at ks arguments body (Some c) =
    note_tables w (behind key.CommandTable ks) >>= λ u. parse_arguments w arguments [] >>= λ table.
    parse_acts w (datums_of body) (in_sight (argument_names arguments) []) >>= λ acts. give (command_of c table acts at)

-- a command by its head and its keys; wrong at this offset where the keys are
abbrev pub parse_headed : Signatures → ℕ → Datum → Option (List Keyed) → List Datum → List Datum → Load CommandDecl
parse_headed w at h None arguments body = refuse 6 at
parse_headed w at h (Some ks) arguments body = parse_shaped w at ks arguments body (command_shape (head_name h) ks)

-- `(define-command NAME (ARGUMENT ...) STATEMENT ...)`, where the name may be `(NAME KEY VALUE ...)`
abbrev pub parse_command : Signatures → ℕ → List Datum → Load CommandDecl
parse_command w at [] = refuse 6 at
parse_command w at (h ∷ []) = refuse 6 at
parse_command w at (h ∷ arguments ∷ body) =
    if is_list arguments && are_arguments (parts_of arguments) then parse_headed w at h (head_keys h) (parts_of arguments) body else refuse 6 at
