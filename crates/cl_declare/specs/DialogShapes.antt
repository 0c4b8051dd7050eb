-- The shape of a dialog, but for the forms in it: its name with what its keys say, and which parts are queries.
use Rattle.std.specs.Prelude.{ℕ, Bool, true, false, not, ◌==◌, ◌&&◌, ◌||◌, if◌then◌else◌, List, [], ◌∷◌, length, Option, Some, None, option_and_then, codes}
use Rattle.std.specs.Cmp.Lexicographic.{pointwise}
use Rattle.std.specs.Str.{bytes_eq}
use Rattle.cl_forms.specs.Datum.{Datum, parts_of}
use Rattle.cl_forms.specs.Keys.{Keyed, keyed_pairs, values_of}
use Rattle.cl_forms.specs.Naming.{name_in}
use Rattle.cl_forms.specs.declared.keys.Key.{Key}
use Rattle.cl_forms.specs.declared.keys.Key.TheVariants as key
use Rattle.cl_words.specs.Arguments.{first_symbols}
use Rattle.cl_words.specs.Signatures.{arguments_of}
use Rattle.cl_words.specs.declared.signatures.Signatures.{Signatures}
use Rattle.cl_expressions.specs.Scopes.{Names}
use Rattle.cl_declare.specs.TypeShapes.{name_alone}
use Rattle.cl_declare.specs.declared.dialog_shapes.DialogShape.{DialogShape}

-- ---- queries: `(ARGUMENT)`, or `(ARGUMENT :when E :else E)`

-- the keys that a query may have
abbrev pub query_keys : List Key
query_keys = key.When ∷ key.Else ∷ []

-- the names of the two choices behind the queries, which no query may have
abbrev pub is_choice : List ℕ → Bool
is_choice x = bytes_eq x (codes "exit") || bytes_eq x (codes "abort")

-- a name, and not that of one of the two choices
abbrev pub may_name_query : Option (List ℕ) → Bool
may_name_query None = false
may_name_query (Some x) = not (is_choice x)

-- both keys stand, or none
abbrev pub are_together : Option (List Keyed) → Bool
are_together None = false
are_together (Some ks) = not (length ks == 1)

-- a name that a query may have, with both keys or none
abbrev pub is_query : List Datum → Bool
is_query [] = false
is_query (n ∷ keys) = may_name_query (name_in n) && are_together (keyed_pairs query_keys [] keys)

-- each of the data is a query
abbrev pub are_queries : List Datum → Bool
are_queries [] = true
are_queries (d ∷ ds) = is_query (parts_of d) && are_queries ds

-- ---- the whole

-- the keys that a dialog must have
abbrev pub dialog_keys : List Key
dialog_keys = key.Command ∷ key.Pane ∷ []

-- the name behind a key; None where the key does not stand, or something else stands behind it
abbrev pub name_given : Key → List Keyed → Option (List ℕ)
name_given k ks = option_and_then name_alone (values_of k ks)

-- the names are those of a command's arguments, in their order, as far as these can be told
abbrev pub are_asked : Option Names → Names → Bool
are_asked None xs = true
are_asked (Some ys) xs = pointwise bytes_eq ys xs

-- by the name, the command and the pane, where the queries ask for the arguments of the command
abbrev pub shape_named : Signatures → Option (List ℕ) → Option (List ℕ) → Option (List ℕ) → Names → Option DialogShape
shape_named w (Some x) (Some c) (Some p) xs = if are_asked (arguments_of w c) xs then Some (record { name = x; command = c; pane = p }) else None
shape_named w (Some x) (Some c) None xs = None
shape_named w (Some x) None pane xs = None
shape_named w None command pane xs = None

-- the name, the command and the pane; None where the dialog is wrong by itself
abbrev pub dialog_shape : Signatures → Datum → List Keyed → List Datum → Option DialogShape
dialog_shape w n ks queries = shape_named w (name_in n) (name_given key.Command ks) (name_given key.Pane ks) (first_symbols queries)
