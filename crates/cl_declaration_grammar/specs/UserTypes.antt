-- What is looked at of a user type: the type that it inherits from and the name of its predicate, in the order of the text.
use Rattle.std.specs.Prelude.{ℕ, is_some, if◌then◌else◌, List, [], ◌∷◌, ◌++◌, Option, Some, None}
use Rattle.cl_forms.specs.Datum.{Datum, parts_of, offset}
use Rattle.cl_forms.specs.Keys.{Keyed, keyed_pairs}
use Rattle.cl_forms.specs.Naming.{name_in}
use Rattle.cl_forms.specs.declared.keys.Key.TheVariants as key
use Rattle.cl_words.specs.declared.signatures.Signatures.{Signatures}
use Rattle.cl_expressions.specs.Scopes.{Names}
use Rattle.cl_declare.specs.Names.{names_of}
use Rattle.cl_declare.specs.TypeShapes.{type_keys, type_shape}
use Rattle.cl_text_grammar.specs.Types.{type_seen}
use Rattle.cl_declaration_grammar.specs.Parts.{Part, specifier, function_name, wrong}

-- the type that it inherits from, in which its parameters stand
abbrev pub inherited_seen : Signatures → Names → List Datum → List Part
inherited_seen w ps [] = []
inherited_seen w ps (d ∷ ds) = specifier (type_seen w ps d) ∷ []

-- the function of this name, where it is a name
abbrev pub predicate_name_seen : ℕ → Option (List ℕ) → List Part
predicate_name_seen at None = []
predicate_name_seen at (Some x) = function_name x at ∷ []

-- the name of its predicate
abbrev pub predicate_seen : List Datum → List Part
predicate_seen [] = []
predicate_seen (d ∷ ds) = predicate_name_seen (offset d) (name_in d)

-- what stands behind a key
abbrev pub type_key_seen : Signatures → Names → Keyed → List Part
type_key_seen w ps k = elim k.key [
  | key.InheritFrom ↦ inherited_seen w ps k.values
  | key.Satisfies ↦ predicate_seen k.values
  | key.Size ↦ []
  | key.Slots ↦ []
  | key.Panes ↦ []
  | key.CommandTable ↦ []
  | key.Name ↦ []
  | key.Keystroke ↦ []
  | key.Description ↦ []
  | key.Separator ↦ []
  | key.SingleBox ↦ []
  | key.Default ↦ []
  | key.Prompt ↦ []
  | key.Gesture ↦ []
  | key.Priority ↦ []
  | key.Documentation ↦ []
  | key.Tester ↦ []
  | key.UniqueId ↦ []
  | key.CacheValue ↦ []
  | key.Command ↦ []
  | key.Pane ↦ []
  | key.When ↦ []
  | key.Else ↦ []
]

-- what stands behind each key, in their order
abbrev pub type_keys_seen : Signatures → Names → List Keyed → List Part
type_keys_seen w ps [] = []
type_keys_seen w ps (k ∷ ks) = type_key_seen w ps k ++ type_keys_seen w ps ks

-- the type has a name and names as its parameters; behind the key of its predicate stands a name, and a function that has it takes the value and as many
-- arguments; behind that of its description stands a text
abbrev pub keyed_type_seen : Signatures → ℕ → Datum → Datum → Option (List Keyed) → List Part
keyed_type_seen w at n ps None = wrong at
keyed_type_seen w at n ps (Some ks) = if is_some (type_shape w n ps ks) then type_keys_seen w (names_of (parts_of ps)) ks else wrong at

-- `(define-presentation-type NAME (PARAMETER ...) KEY VALUE ...)`: each key is one that a user type may have, once
abbrev pub user_type_seen : Signatures → ℕ → List Datum → List Part
user_type_seen w at (n ∷ ps ∷ keys) = keyed_type_seen w at n ps (keyed_pairs type_keys [] keys)
user_type_seen w at parts = wrong at
