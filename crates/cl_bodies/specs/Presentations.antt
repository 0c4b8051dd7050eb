-- The display forms that present objects. A bare name among the arguments of a type is a symbol: a display has no parameters of types.
use Rattle.std.specs.Prelude.{ℕ, Bool, true, false, if◌then◌else◌, List, [], ◌∷◌, Option, Some, None, option_and_then, codes}
use Rattle.std.specs.Str.{bytes_eq}
use Rattle.cl_syntax.specs.ShapeTree as shape
use Rattle.cl_syntax.specs.ShapeTree.{ShapeTree}
use Rattle.cl_syntax.specs.PresentationTree.{PresentationTree}
use Rattle.cl_forms.specs.Datum.{Datum, number, literal, word, quoted, stray, list, parts_of}
use Rattle.cl_forms.specs.Keys.{keyed_pairs, values_of}
use Rattle.cl_forms.specs.Naming.{symbol_of}
use Rattle.cl_forms.specs.declared.keys.Key.{Key}
use Rattle.cl_forms.specs.declared.keys.Key.TheVariants as key
use Rattle.cl_expressions.specs.Load.{Load, ◌>>=◌, give, refuse}
use Rattle.cl_expressions.specs.Expressions.{Sub, parse_expression}
use Rattle.cl_expressions.specs.Scopes.{Names}
use Rattle.cl_words.specs.declared.signatures.Signatures.{Signatures}
use Rattle.cl_bodies.specs.Specifiers.{parse_type}

-- `(present E SPECIFIER)`
abbrev pub parse_present : Signatures → ℕ → List Sub → Names → Load ShapeTree
parse_present w at (a ∷ b ∷ []) env = a.expr env >>= λ t. parse_type w [] b.shape >>= λ spec. give (shape.Present t spec)
parse_present w at subs env = refuse 6 at

-- ---- `E SPECIFIER :single-box BOOL`

-- the keys behind the specifier
abbrev pub presentation_keys : List Key
presentation_keys = key.SingleBox ∷ []

-- the word `true` or `false`
abbrev pub truth_named : List ℕ → Option Bool
truth_named x =
    if bytes_eq x (codes "true") then Some true
    else (if bytes_eq x (codes "false") then Some false else None)

-- whether the whole box is sensitive, by what stands behind the key; it is not where the key does not stand
abbrev pub single_box_of : Option (List Datum) → Option Bool
single_box_of None = Some false
single_box_of (Some (d ∷ [])) = truth_named (symbol_of d)
single_box_of (Some ds) = None

-- the same by all that stands behind the specifier; None where a key is not known, stands twice or has no such value
abbrev pub single_box_in : List Datum → Option Bool
single_box_in ds = option_and_then (λ ks. single_box_of (values_of key.SingleBox ks)) (keyed_pairs presentation_keys [] ds)

-- the object and its type
abbrev pub parse_object : Signatures → Datum → Datum → Bool → Names → Load PresentationTree
parse_object w e s single_box env =
    parse_expression w e env >>= λ t. parse_type w [] s >>= λ spec. give (record { object = t; spec = spec; single_box = single_box })

-- the object and its type, where what stands behind them says whether the whole box is sensitive
abbrev pub parse_boxed : Signatures → ℕ → Datum → Datum → Option Bool → Names → Load PresentationTree
parse_boxed w at e s None env = refuse 6 at
parse_boxed w at e s (Some single_box) env = parse_object w e s single_box env

-- the parts of the list
abbrev pub parse_presented : Signatures → ℕ → List Datum → Names → Load PresentationTree
parse_presented w at (e ∷ s ∷ ks) env = parse_boxed w at e s (single_box_in ks) env
parse_presented w at ds env = refuse 6 at
