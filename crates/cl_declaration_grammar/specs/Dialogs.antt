-- What is looked at of a dialog: the names of its command and of its pane, and the conditions of its queries, in the order of the text.
use Rattle.std.specs.Prelude.{ℕ, is_some, if◌then◌else◌, List, [], ◌∷◌, ◌++◌, Option, Some, None}
use Rattle.cl_forms.specs.Datum.{Datum, parts_of, offset}
use Rattle.cl_forms.specs.Keys.{Keyed, same_key, keyed_pairs}
use Rattle.cl_forms.specs.Naming.{name_in}
use Rattle.cl_forms.specs.declared.keys.Key.TheVariants as key
use Rattle.cl_words.specs.Arguments.{first_symbols}
use Rattle.cl_words.specs.declared.signatures.Signatures.{Signatures}
use Rattle.cl_expressions.specs.Scopes.{Names, in_sight}
use Rattle.cl_declare.specs.DialogShapes.{are_queries, dialog_keys, dialog_shape, query_keys}
use Rattle.cl_grammar.specs.Sights.{expression}
use Rattle.cl_declaration_grammar.specs.Parts.{Part, pane_name, expressions, wrong}
use Rattle.cl_declaration_grammar.specs.Translators.{command_name_seen}

-- ---- the command and the pane

-- the name of a pane
abbrev pub pane_name_seen : ℕ → Option (List ℕ) → List Part
pane_name_seen at None = []
pane_name_seen at (Some x) = pane_name x at ∷ []

-- the command that stands first
abbrev pub command_behind_seen : List Datum → List Part
command_behind_seen [] = []
command_behind_seen (d ∷ ds) = command_name_seen (offset d) (name_in d)

-- the pane that stands first
abbrev pub pane_behind_seen : List Datum → List Part
pane_behind_seen [] = []
pane_behind_seen (d ∷ ds) = pane_name_seen (offset d) (name_in d)

-- what stands behind one of the two keys
abbrev pub dialog_key_seen : Keyed → List Part
dialog_key_seen k = if same_key k.key key.Command then command_behind_seen k.values else pane_behind_seen k.values

-- what stands behind each of them, in their order
abbrev pub dialog_keys_seen : List Keyed → List Part
dialog_keys_seen [] = []
dialog_keys_seen (k ∷ ks) = dialog_key_seen k ++ dialog_keys_seen ks

-- ---- queries

-- an expression that sees these variables
abbrev pub condition_seen : Names → List Datum → List Part
condition_seen xs [] = []
condition_seen xs (d ∷ ds) = expressions (expression xs d ∷ []) ∷ []

-- a `:when` sees these variables, an `:else` sees none
abbrev pub query_key_seen : Names → Keyed → List Part
query_key_seen xs k = if same_key k.key key.When then condition_seen xs k.values else condition_seen [] k.values

-- what stands behind each key of a query, in their order
abbrev pub query_keys_seen : Names → List Keyed → List Part
query_keys_seen xs [] = []
query_keys_seen xs (k ∷ ks) = query_key_seen xs k ++ query_keys_seen xs ks

-- what is looked at of a query, by its keys
abbrev pub keyed_query_seen : Names → Option (List Keyed) → List Part
keyed_query_seen xs None = []
keyed_query_seen xs (Some ks) = query_keys_seen xs ks

-- `ARGUMENT`, or `ARGUMENT :when E :else E`
abbrev pub query_seen : Names → List Datum → List Part
query_seen xs [] = []
query_seen xs (n ∷ keys) = keyed_query_seen xs (keyed_pairs query_keys [] keys)

-- what is looked at of each query, in their order
abbrev pub queries_seen : Names → List Datum → List Part
queries_seen xs [] = []
queries_seen xs (d ∷ ds) = query_seen xs (parts_of d) ++ queries_seen xs ds

-- ---- the whole

-- the keys, then the queries: a `:when` sees the names of all
abbrev pub shaped_dialog_seen : List Keyed → List Datum → List Part
shaped_dialog_seen ks queries = dialog_keys_seen ks ++ queries_seen (in_sight (first_symbols queries) []) queries

-- the dialog has a name, and names stand behind both keys; where the command is declared and the names of its arguments can be told, the queries have these names
-- in this order
abbrev pub keyed_dialog_seen : Signatures → ℕ → Datum → Option (List Keyed) → List Datum → List Part
keyed_dialog_seen w at n None queries = wrong at
keyed_dialog_seen w at n (Some ks) queries = if is_some (dialog_shape w n ks queries) then shaped_dialog_seen ks queries else wrong at

-- `(define-dialog NAME (:command COMMAND :pane PANE) QUERY ...)`: each key is one that a dialog must have, once; each query begins with a name that is neither
-- `exit` nor `abort`, and has both of its keys, or none
abbrev pub dialog_seen : Signatures → ℕ → List Datum → List Part
dialog_seen w at (n ∷ keys ∷ queries) =
    if are_queries queries then keyed_dialog_seen w at n (keyed_pairs dialog_keys [] (parts_of keys)) queries else wrong at
dialog_seen w at parts = wrong at
