-- Translators, as forms declare them: the from-type, the to-type or the command, the table and the tester, and the body, in the order of the text.
use Rattle.std.specs.Prelude.{ℕ, List, [], ◌∷◌, Option, Some, None, codes}
use Rattle.cl_application.specs.declared.declarations.TranslatorDecl.{TranslatorDecl}
use Rattle.cl_bodies.specs.Specifiers.{parse_type}
use Rattle.cl_expressions.specs.Expressions.{parse_expression}
use Rattle.cl_expressions.specs.Load.{Load, ◌>>=◌, give, refuse, noted}
use Rattle.cl_expressions.specs.Scopes.{Names, in_sight}
use Rattle.cl_forms.specs.Datum.{Datum, offset}
use Rattle.cl_forms.specs.Keys.{Keyed, keyed_pairs}
use Rattle.cl_forms.specs.Naming.{name_in}
use Rattle.cl_forms.specs.declared.keys.Key.TheVariants as key
use Rattle.cl_syntax.specs.ExprTree.{ExprTree}
use Rattle.cl_syntax.specs.TypeSpecTree.{TypeSpecTree, plain_type}
use Rattle.cl_words.specs.Signatures.{command_in}
use Rattle.cl_words.specs.declared.signatures.Signatures.{Signatures}
use Rattle.cl_declare.specs.CommandTables.{note_tables}
use Rattle.cl_declare.specs.TranslatorForms.{TranslatorForm, translator_form}
use Rattle.cl_declare.specs.TranslatorShapes.{translator_keys, translator_shape}
use Rattle.cl_declare.specs.declared.translator_shapes.TranslatorKind.{TranslatorKind}
use Rattle.cl_declare.specs.declared.translator_shapes.TranslatorKind.TheVariants.{Object, Command}
use Rattle.cl_declare.specs.declared.translator_shapes.TranslatorShape.{TranslatorShape}

-- ---- types

-- a command is noted at this offset where it is not declared
abbrev pub note_command : Signatures → ℕ → Option (List ℕ) → Load (Unit {0})
note_command w at None = give tt
note_command w at (Some x) = noted (command_in w x) at

-- the to-type; `command` for a translator to a command
abbrev pub parse_target : Signatures → TranslatorKind → Datum → Load TypeSpecTree
parse_target w Object d = parse_type w [] d
parse_target w Command d = note_command w (offset d) (name_in d) >>= λ u. give (plain_type (codes "command"))

-- ---- keys

-- the tester that was read, if there is one
abbrev pub Tester : Type 0
Tester = Option ExprTree

-- the expression that stands first, which sees these variables
abbrev pub parse_tester : Signatures → Names → List Datum → Tester → Load Tester
parse_tester w xs [] t = give t
parse_tester w xs (d ∷ ds) t = parse_expression w d xs >>= λ e. give (Some e)

-- what a key says: a tester is read, the name of a table is noted
abbrev pub parse_translator_key : Signatures → Names → Keyed → Tester → Load Tester
parse_translator_key w xs k t = elim k.key [
  | key.CommandTable ↦ note_tables w k.values >>= λ u. give t
  | key.Tester ↦ parse_tester w xs k.values t
  | key.Size ↦ give t
  | key.Slots ↦ give t
  | key.Panes ↦ give t
  | key.Name ↦ give t
  | key.Keystroke ↦ give t
  | key.InheritFrom ↦ give t
  | key.Satisfies ↦ give t
  | key.Description ↦ give t
  | key.Separator ↦ give t
  | key.SingleBox ↦ give t
  | key.Default ↦ give t
  | key.Prompt ↦ give t
  | key.Gesture ↦ give t
  | key.Priority ↦ give t
  | key.Documentation ↦ give t
  | key.UniqueId ↦ give t
  | key.CacheValue ↦ give t
  | key.Command ↦ give t
  | key.Pane ↦ give t
  | key.When ↦ give t
  | key.Else ↦ give t
]

-- the tester, if there is one
abbrev pub parse_translator_keys : Signatures → Names → List Keyed → Tester → Load Tester
parse_translator_keys w xs [] t = give t
parse_translator_keys w xs (k ∷ ks) t = parse_translator_key w xs k t >>= λ more. parse_translator_keys w xs ks more

-- ---- the whole

-- the translator of a shape, with its types, its tester and its body
abbrev pub translator_of : TranslatorShape → (from to : TypeSpecTree) → Tester → (body : ExprTree) → ℕ → TranslatorDecl
translator_of s from to tester body at = record {
  name = s.name;
  from = from;
  to = to;
  command = s.command;
  table = s.keys.table;
  gesture = s.keys.gesture;
  priority = s.keys.priority;
  documentation = s.keys.documentation;
  tester = tester;
  parameter = s.parameter;
  body = body;
  at = at;
}

-- the tester and the body see the parameter alone
abbrev pub parse_shaped : Signatures → TranslatorKind → ℕ → TranslatorForm → List Keyed → Option TranslatorShape → Load TranslatorDecl
parse_shaped w kind at f ks None = refuse 6 at
parse_shaped w kind at f ks (Some s) =
    parse_type w [] f.from >>= λ from. parse_target w kind f.to >>= λ to.
    parse_translator_keys w (in_sight (s.parameter ∷ []) []) ks None >>= λ tester.
    parse_expression w f.body (in_sight (s.parameter ∷ []) []) >>= λ body. give (translator_of s from to tester body at)

-- a translator by its keys; wrong at this offset where the keys are
abbrev pub parse_keyed : Signatures → TranslatorKind → ℕ → TranslatorForm → Option (List Keyed) → Load TranslatorDecl
parse_keyed w kind at f None = refuse 6 at
parse_keyed w kind at f (Some ks) = parse_shaped w kind at f ks (translator_shape kind f ks)

-- a translator by its parts; wrong at this offset where it has others
abbrev pub parse_formed : Signatures → TranslatorKind → ℕ → Option TranslatorForm → Load TranslatorDecl
parse_formed w kind at None = refuse 6 at
parse_formed w kind at (Some f) = parse_keyed w kind at f (keyed_pairs translator_keys [] f.keys)

-- `(define-presentation-translator NAME (FROM TO KEY VALUE ...) (PARAMETER) BODY)`, or the same with a command in the place of the to-type
abbrev pub parse_translator : Signatures → TranslatorKind → ℕ → List Datum → Load TranslatorDecl
parse_translator w kind at ds = parse_formed w kind at (translator_form ds)
