-- User types and host types, as forms declare them: what a user type inherits from and the name of its predicate in the order of the text.
use Rattle.std.specs.Prelude.{ℕ, is_some, if◌then◌else◌, List, [], ◌∷◌, Option, Some, None, codes}
use Rattle.cl_syntax.specs.TypeSpecTree.{TypeSpecTree, plain_type}
use Rattle.cl_syntax.specs.declared.type_decls.TypeDecl.{TypeDecl}
use Rattle.cl_forms.specs.Datum.{Datum, parts_of, offset}
use Rattle.cl_forms.specs.Keys.{Keyed, keyed_pairs}
use Rattle.cl_forms.specs.Naming.{name_in, symbol_of}
use Rattle.cl_forms.specs.declared.keys.Key.TheVariants as key
use Rattle.cl_words.specs.Signatures.{function_in}
use Rattle.cl_words.specs.declared.signatures.Signatures.{Signatures}
use Rattle.cl_expressions.specs.Load.{Load, ◌>>=◌, give, refuse, noted}
use Rattle.cl_expressions.specs.Scopes.{Names}
use Rattle.cl_bodies.specs.Specifiers.{parse_type}
use Rattle.cl_application.specs.declared.declarations.HostDecl.{HostDecl}
use Rattle.cl_declare.specs.Names.{names_of}
use Rattle.cl_declare.specs.TypeShapes.{type_keys, type_shape}
use Rattle.cl_declare.specs.declared.type_shapes.TypeShape.{TypeShape}

-- ---- user types

-- the type that was read of what a user type inherits from, if there is one
abbrev pub Inherited : Type 0
Inherited = Option TypeSpecTree

-- the type that stands first
abbrev pub parse_inherited : Signatures → Names → List Datum → Inherited → Load Inherited
parse_inherited w ps [] i = give i
parse_inherited w ps (d ∷ ds) i = parse_type w ps d >>= λ t. give (Some t)

-- a function is noted where it is not declared
abbrev pub note_function : Signatures → ℕ → Option (List ℕ) → Load (Unit {0})
note_function w at None = give tt
note_function w at (Some x) = noted (is_some (function_in w x)) at

-- the predicate that stands first is noted where it is not declared
abbrev pub note_predicate : Signatures → List Datum → Load (Unit {0})
note_predicate w [] = give tt
note_predicate w (d ∷ ds) = note_function w (offset d) (name_in d)

-- what a key says: a type that is inherited from is read, the name of a predicate is noted
abbrev pub parse_type_key : Signatures → Names → Keyed → Inherited → Load Inherited
parse_type_key w ps k i = elim k.key [
  | key.InheritFrom ↦ parse_inherited w ps k.values i
  | key.Satisfies ↦ note_predicate w k.values >>= λ u. give i
  | key.Size ↦ give i
  | key.Slots ↦ give i
  | key.Panes ↦ give i
  | key.CommandTable ↦ give i
  | key.Name ↦ give i
  | key.Keystroke ↦ give i
  | key.Description ↦ give i
  | key.Separator ↦ give i
  | key.SingleBox ↦ give i
  | key.Default ↦ give i
  | key.Prompt ↦ give i
  | key.Gesture ↦ give i
  | key.Priority ↦ give i
  | key.Documentation ↦ give i
  | key.Tester ↦ give i
  | key.UniqueId ↦ give i
  | key.CacheValue ↦ give i
  | key.Command ↦ give i
  | key.Pane ↦ give i
  | key.When ↦ give i
  | key.Else ↦ give i
]

-- the same for each key, in their order
abbrev pub parse_type_keys : Signatures → Names → List Keyed → Inherited → Load Inherited
parse_type_keys w ps [] i = give i
parse_type_keys w ps (k ∷ ks) i = parse_type_key w ps k i >>= λ more. parse_type_keys w ps ks more

-- `t` where no other type is given
abbrev pub or_everything : Inherited → TypeSpecTree
or_everything None = plain_type (codes "t")
or_everything (Some t) = t

-- the user type of a shape, with its parameters and what it inherits from
abbrev pub type_of : TypeShape → Names → Inherited → ℕ → TypeDecl
type_of t ps i at = record { name = t.name; parameters = ps; inherit_from = or_everything i; satisfies = t.satisfies; description = t.description; at = at }

-- the keys of a user type of this shape; wrong at this offset where it has none
abbrev pub parse_type_shaped : Signatures → ℕ → Datum → List Keyed → Option TypeShape → Load TypeDecl
parse_type_shaped w at ps ks None = refuse 6 at
parse_type_shaped w at ps ks (Some t) =
    parse_type_keys w (names_of (parts_of ps)) ks None >>= λ i. give (type_of t (names_of (parts_of ps)) i at)

-- a user type by its keys; wrong at this offset where the keys are
abbrev pub parse_type_keyed : Signatures → ℕ → Datum → Datum → Option (List Keyed) → Load TypeDecl
parse_type_keyed w at n ps None = refuse 6 at
parse_type_keyed w at n ps (Some ks) = parse_type_shaped w at ps ks (type_shape w n ps ks)

-- `(define-presentation-type NAME (PARAMETER ...) :inherit-from SPECIFIER :satisfies FUNCTION :description TEXT)`
abbrev pub parse_user_type : Signatures → ℕ → List Datum → Load TypeDecl
parse_user_type w at [] = refuse 6 at
parse_user_type w at (n ∷ []) = refuse 6 at
parse_user_type w at (n ∷ ps ∷ keys) = parse_type_keyed w at n ps (keyed_pairs type_keys [] keys)

-- ---- host types

-- `(define-host-type NAME)`
abbrev pub parse_host_type : ℕ → List Datum → Load HostDecl
parse_host_type at (n ∷ []) = if is_some (name_in n) then give (record { name = symbol_of n; at = at }) else refuse 6 at
parse_host_type at parts = refuse 6 at
