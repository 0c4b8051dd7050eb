-- What is looked at of a translator: its from-type, its to-type or its command, its table and its tester, and its body, in the order of the text.
use Rattle.std.specs.Prelude.{ℕ, List, [], ◌∷◌, ◌++◌, Option, Some, None}
use Rattle.cl_forms.specs.Datum.{Datum, offset}
use Rattle.cl_forms.specs.Keys.{Keyed, keyed_pairs}
use Rattle.cl_forms.specs.Naming.{name_in}
use Rattle.cl_forms.specs.declared.keys.Key.TheVariants as key
use Rattle.cl_words.specs.declared.signatures.Signatures.{Signatures}
use Rattle.cl_expressions.specs.Scopes.{Names}
use Rattle.cl_declare.specs.TranslatorForms.{TranslatorForm, translator_form}
use Rattle.cl_declare.specs.TranslatorShapes.{translator_keys, translator_shape}
use Rattle.cl_declare.specs.declared.translator_shapes.TranslatorKind.{TranslatorKind}
use Rattle.cl_declare.specs.declared.translator_shapes.TranslatorKind.TheVariants.{Object, Command}
use Rattle.cl_declare.specs.declared.translator_shapes.TranslatorShape.{TranslatorShape}
use Rattle.cl_grammar.specs.Sights.{expression}
use Rattle.cl_text_grammar.specs.Types.{type_seen}
use Rattle.cl_declaration_grammar.specs.Parts.{Part, specifier, command_name, expressions, wrong}
use Rattle.cl_declaration_grammar.specs.Commands.{tables_seen}

-- the name of a command
abbrev pub command_name_seen : ℕ → Option (List ℕ) → List Part
command_name_seen at None = []
command_name_seen at (Some x) = command_name x at ∷ []

-- the to-type, or the name of the command
abbrev pub target_seen : Signatures → TranslatorKind → Datum → List Part
target_seen w Object d = specifier (type_seen w [] d) ∷ []
target_seen w Command d = command_name_seen (offset d) (name_in d)

-- a tester sees these variables
abbrev pub tester_seen : Names → List Datum → List Part
tester_seen xs [] = []
tester_seen xs (d ∷ ds) = expressions (expression xs d ∷ []) ∷ []

-- what stands behind a key
abbrev pub translator_key_seen : Names → Keyed → List Part
translator_key_seen xs k = elim k.key [
  | key.CommandTable ↦ tables_seen k.values
  | key.Tester ↦ tester_seen xs k.values
  | key.Size ↦ []
  | key.Slots ↦ []
  | key.Panes ↦ []
  | key.Name ↦ []
  | key.Keystroke ↦ []
  | key.InheritFrom ↦ []
  | key.Satisfies ↦ []
  | key.Description ↦ []
  | key.Separator ↦ []
  | key.SingleBox ↦ []
  | key.Default ↦ []
  | key.Prompt ↦ []
  | key.Gesture ↦ []
  | key.Priority ↦ []
  | key.Documentation ↦ []
  | key.UniqueId ↦ []
  | key.CacheValue ↦ []
  | key.Command ↦ []
  | key.Pane ↦ []
  | key.When ↦ []
  | key.Else ↦ []
]

-- what stands behind each key, in their order
abbrev pub translator_keys_seen : Names → List Keyed → List Part
translator_keys_seen xs [] = []
translator_keys_seen xs (k ∷ ks) = translator_key_seen xs k ++ translator_keys_seen xs ks

-- the translator has a name, a command where it gives one, and a name as its one parameter; behind the keys of its table and of its gesture stand a name and
-- the name of a gesture, behind that of its priority a number from 0 to 99, behind that of its documentation a text. The tester and the body see the parameter
abbrev pub shaped_translator_seen : Signatures → TranslatorKind → ℕ → TranslatorForm → List Keyed → Option TranslatorShape → List Part
shaped_translator_seen w kind at f ks None = wrong at
shaped_translator_seen w kind at f ks (Some s) =
    specifier (type_seen w [] f.from)
    ∷ (target_seen w kind f.to ++ (translator_keys_seen (s.parameter ∷ []) ks ++ expressions (expression (s.parameter ∷ []) f.body ∷ []) ∷ []))

-- a translator has keys that it may have
abbrev pub keyed_translator_seen : Signatures → TranslatorKind → ℕ → TranslatorForm → Option (List Keyed) → List Part
keyed_translator_seen w kind at f None = wrong at
keyed_translator_seen w kind at f (Some ks) = shaped_translator_seen w kind at f ks (translator_shape kind f ks)

-- a translator has the parts of its form
abbrev pub formed_translator_seen : Signatures → TranslatorKind → ℕ → Option TranslatorForm → List Part
formed_translator_seen w kind at None = wrong at
formed_translator_seen w kind at (Some f) = keyed_translator_seen w kind at f (keyed_pairs translator_keys [] f.keys)

-- `(define-presentation-translator NAME (FROM TO KEY VALUE ...) (PARAMETER) BODY)`, or the same with a command in the place of the to-type: each key is one that
-- a translator may have, once
abbrev pub translator_seen : Signatures → TranslatorKind → ℕ → List Datum → List Part
translator_seen w kind at parts = formed_translator_seen w kind at (translator_form parts)
