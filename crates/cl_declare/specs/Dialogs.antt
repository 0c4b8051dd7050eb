-- Dialogs, as forms declare them: the command, the pane and the conditions of the queries, in the order of the text.
use Rattle.std.specs.Prelude.{ℕ, if◌then◌else◌, List, [], ◌∷◌, Option, Some, None}
use Rattle.cl_application.specs.declared.declarations.ConditionDecl.{ConditionDecl}
use Rattle.cl_application.specs.declared.declarations.DefaultDecl.{DefaultDecl}
use Rattle.cl_application.specs.declared.declarations.DialogDecl.{DialogDecl}
use Rattle.cl_application.specs.declared.declarations.QueryDecl.{QueryDecl}
use Rattle.cl_expressions.specs.Expressions.{parse_expression}
use Rattle.cl_expressions.specs.Load.{Load, ◌>>=◌, give, refuse, noted}
use Rattle.cl_expressions.specs.Scopes.{Names, in_sight}
use Rattle.cl_forms.specs.Datum.{Datum, offset, parts_of}
use Rattle.cl_forms.specs.Keys.{Keyed, keyed_pairs, same_key}
use Rattle.cl_forms.specs.Naming.{name_in, symbol_of}
use Rattle.cl_forms.specs.declared.keys.Key.TheVariants as key
use Rattle.cl_syntax.specs.ExprTree.{ExprTree}
use Rattle.cl_table.specs.Names.{with_first}
use Rattle.cl_words.specs.Arguments.{first_symbols}
use Rattle.cl_words.specs.Signatures.{pane_in}
use Rattle.cl_words.specs.declared.signatures.Signatures.{Signatures}
use Rattle.cl_declare.specs.Commands.{parse_default_value}
use Rattle.cl_declare.specs.DialogShapes.{are_queries, dialog_keys, dialog_shape, query_keys}
use Rattle.cl_declare.specs.Translators.{note_command}
use Rattle.cl_declare.specs.declared.dialog_shapes.DialogShape.{DialogShape}
use Rattle.cl_declare.specs.declared.dialogs.Condition.{Condition}

-- ---- the command and the pane

-- a pane is noted at this offset where it is not declared
abbrev pub note_pane : Signatures → ℕ → Option (List ℕ) → Load (Unit {0})
note_pane w at None = give tt
note_pane w at (Some x) = noted (pane_in w x) at

-- the command that stands first is noted where it is not declared
abbrev pub note_command_behind : Signatures → List Datum → Load (Unit {0})
note_command_behind w [] = give tt
note_command_behind w (d ∷ ds) = note_command w (offset d) (name_in d)

-- the pane that stands first is noted where it is not declared
abbrev pub note_pane_behind : Signatures → List Datum → Load (Unit {0})
note_pane_behind w [] = give tt
note_pane_behind w (d ∷ ds) = note_pane w (offset d) (name_in d)

-- the keys are those of the command and of the pane
abbrev pub note_dialog_key : Signatures → Keyed → Load (Unit {0})
note_dialog_key w k = if same_key k.key key.Command then note_command_behind w k.values else note_pane_behind w k.values

-- the same for each key, in their order
abbrev pub note_dialog_keys : Signatures → List Keyed → Load (Unit {0})
note_dialog_keys w [] = give tt
note_dialog_keys w (k ∷ ks) = note_dialog_key w k >>= λ u. note_dialog_keys w ks

-- ---- queries

-- the expression that stands first, which sees these variables
abbrev pub parse_when : Signatures → Names → List Datum → Condition → Load Condition
parse_when w xs [] c = give c
parse_when w xs (d ∷ ds) c = parse_expression w d xs >>= λ e. give (record c { when = Some e })

-- the expression that stands first, which sees no variable
abbrev pub parse_else : Signatures → List Datum → Condition → Load Condition
parse_else w [] c = give c
parse_else w (d ∷ ds) c = parse_default_value w d >>= λ v. give (record c { otherwise = Some v })

-- the keys are `:when` and `:else`
abbrev pub parse_query_key : Signatures → Names → Keyed → Condition → Load Condition
parse_query_key w xs k c = if same_key k.key key.When then parse_when w xs k.values c else parse_else w k.values c

-- the condition that the keys say, in their order
abbrev pub parse_query_keys : Signatures → Names → List Keyed → Condition → Load Condition
parse_query_keys w xs [] c = give c
parse_query_keys w xs (k ∷ ks) c = parse_query_key w xs k c >>= λ more. parse_query_keys w xs ks more

-- before a key is read
abbrev pub no_condition : Condition
no_condition = record { when = None; otherwise = None }

-- a condition with its value otherwise, where both are there
abbrev pub condition_with : Option ExprTree → Option DefaultDecl → Option ConditionDecl
condition_with (Some e) (Some v) = Some (record { when = e; otherwise = v.value; otherwise_at = v.at })
condition_with (Some e) None = None
condition_with None otherwise = None

-- the condition that was read; None where a key of it does not stand
abbrev pub condition_of : Condition → Option ConditionDecl
condition_of c = condition_with c.when c.otherwise

-- the queries of a dialog by their names
abbrev pub QueryTable : Type 0
QueryTable = List (List ℕ × QueryDecl)

-- of two queries of one name the first counts
abbrev pub parse_keyed_query : Signatures → Names → ℕ → Datum → Option (List Keyed) → QueryTable → Load QueryTable
parse_keyed_query w xs at n None table = give table
parse_keyed_query w xs at n (Some ks) table =
    parse_query_keys w xs ks no_condition >>= λ c.
    give (with_first (λ q. q.name) table (record { name = symbol_of n; condition = condition_of c; at = at }))

-- `(ARGUMENT)` or `(ARGUMENT :when E :else E)`; what is no query makes its dialog wrong, and is not read
abbrev pub parse_query : Signatures → Names → ℕ → List Datum → QueryTable → Load QueryTable
parse_query w xs at [] table = give table
parse_query w xs at (n ∷ keys) table = parse_keyed_query w xs at n (keyed_pairs query_keys [] keys) table

-- queries in the order of the text, behind those that were read before
abbrev pub parse_queries : Signatures → Names → List Datum → QueryTable → Load QueryTable
parse_queries w xs [] table = give table
parse_queries w xs (d ∷ ds) table = parse_query w xs (offset d) (parts_of d) table >>= λ more. parse_queries w xs ds more

-- ---- the whole

-- the dialog of a shape, with its queries
abbrev pub dialog_of : DialogShape → QueryTable → ℕ → DialogDecl
dialog_of s queries at = record { name = s.name; command = s.command; pane = s.pane; queries = queries; at = at }

-- a `:when` sees the name of each query, the last the newest
abbrev pub parse_shaped : Signatures → ℕ → List Keyed → List Datum → Option DialogShape → Load DialogDecl
parse_shaped w at ks queries None = refuse 6 at
parse_shaped w at ks queries (Some s) =
    note_dialog_keys w ks >>= λ u. parse_queries w (in_sight (first_symbols queries) []) queries [] >>= λ table. give (dialog_of s table at)

-- a dialog by its keys; wrong at this offset where the keys are
abbrev pub parse_keyed : Signatures → ℕ → Datum → Option (List Keyed) → List Datum → Load DialogDecl
parse_keyed w at n None queries = refuse 6 at
parse_keyed w at n (Some ks) queries = parse_shaped w at ks queries (dialog_shape w n ks queries)

-- `(define-dialog NAME (:command COMMAND :pane PANE) QUERY ...)`
abbrev pub parse_dialog : Signatures → ℕ → List Datum → Load DialogDecl
parse_dialog w at [] = refuse 6 at
parse_dialog w at (n ∷ []) = refuse 6 at
parse_dialog w at (n ∷ keys ∷ queries) =
    if are_queries queries then parse_keyed w at n (keyed_pairs dialog_keys [] (parts_of keys)) queries else refuse 6 at
