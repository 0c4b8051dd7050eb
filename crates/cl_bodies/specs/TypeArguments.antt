-- The constants and the options of a type specifier.
use Rattle.std.specs.Prelude.{ℕ, Bool, true, false, not, ◌&&◌, ◌==◌, is_some, if◌then◌else◌, List, [], ◌∷◌, map, Option, Some, None, option_and_then, option_map, codes}
use Rattle.std.specs.Char.{is_ascii_alphanumeric, is_ascii_graphic}
use Rattle.std.specs.Str.{bytes_eq}
use Rattle.cl_value.specs.Data.{Data, int, bool, text, symbol, null, list, rec}
use Rattle.cl_table.specs.Names.{place_of}
use Rattle.cl_syntax.specs.TypeSpecTree.{TypeSpecTree, specifier, TypeArgTree, Constant, Any, Param, Spec, Names as Tokens}
use Rattle.cl_syntax.specs.declared.type_specs.TypeOptions.{TypeOptions}
use Rattle.cl_forms.specs.Datum as datum
use Rattle.cl_forms.specs.Datum.{Datum, in_order, offset}
use Rattle.cl_forms.specs.Keys.{Keyed, keyed_pairs, values_of}
use Rattle.cl_forms.specs.Naming.{are_names, symbol_of}
use Rattle.cl_forms.specs.Words.{is_key}
use Rattle.cl_forms.specs.declared.keys.Key.{Key}
use Rattle.cl_forms.specs.declared.keys.Key.TheVariants as key
use Rattle.cl_expressions.specs.Scopes.{Names}
use Rattle.cl_bodies.specs.declared.type_arguments.Wanted.{Wanted}
use Rattle.cl_bodies.specs.declared.type_arguments.Wanted.TheVariants as wanted

-- ---- constants

-- the constant that a word is; a key is none
abbrev pub word_constant : List ℕ → Option TypeArgTree
word_constant x =
    if bytes_eq x (codes "true") then Some (Constant (bool true))
    else (if bytes_eq x (codes "false") then Some (Constant (bool false))
    else (if bytes_eq x (codes "null") then Some (Constant null)
    else (if is_key x then None else Some (Constant (symbol x)))))

-- a parameter of the declaration around, `*`, or a constant
abbrev pub word_argument : Names → List ℕ → Option TypeArgTree
word_argument ps x =
    if is_some (place_of x ps) then Some (Param x)
    else (if bytes_eq x (codes "*") then Some Any else word_constant x)

-- what an argument is that is no specifier; None of a list, a key or a stray quote
abbrev pub argument_in : Names → Datum → Option TypeArgTree
argument_in ps (datum.number z at) = Some (Constant (int z))
argument_in ps (datum.literal s at) = Some (Constant (text s))
argument_in ps (datum.word x at) = word_argument ps x
argument_in ps (datum.quoted x at name_at) = Some (Constant (symbol x))
argument_in ps (datum.stray at) = None
argument_in ps (datum.list ds at) = None

-- a constant that is a number
abbrev pub is_number : Data → Bool
is_number (int z) = true
is_number (bool b) = false
is_number (text s) = false
is_number (symbol s) = false
is_number null = false
is_number (list ds) = false
is_number (rec x ds) = false

-- whether an argument is as a type wants it; what stands for a parameter is not known yet
abbrev pub is_wanted : Wanted → TypeArgTree → Bool
is_wanted wanted.NumberOrStar (Constant d) = is_number d
is_wanted wanted.NumberOrStar Any = true
is_wanted wanted.NumberOrStar (Param x) = true
is_wanted wanted.NumberOrStar (Spec s) = false
is_wanted wanted.NumberOrStar (Tokens xs) = false
is_wanted wanted.Number (Constant d) = is_number d
is_wanted wanted.Number Any = false
is_wanted wanted.Number (Param x) = true
is_wanted wanted.Number (Spec s) = false
is_wanted wanted.Number (Tokens xs) = false
is_wanted wanted.Constant (Constant d) = true
is_wanted wanted.Constant Any = false
is_wanted wanted.Constant (Param x) = true
is_wanted wanted.Constant (Spec s) = false
is_wanted wanted.Constant (Tokens xs) = false
is_wanted wanted.ConstantOrStar (Constant d) = true
is_wanted wanted.ConstantOrStar Any = true
is_wanted wanted.ConstantOrStar (Param x) = true
is_wanted wanted.ConstantOrStar (Spec s) = false
is_wanted wanted.ConstantOrStar (Tokens xs) = false

-- a stray quote
abbrev pub is_stray : Datum → Bool
is_stray (datum.number z at) = false
is_stray (datum.literal s at) = false
is_stray (datum.word x at) = false
is_stray (datum.quoted x at name_at) = false
is_stray (datum.stray at) = true
is_stray (datum.list ds at) = false

-- a stray quote is not the fault of the specifier: it is refused where it stands
abbrev pub may_stand : Names → Wanted → Datum → Bool
may_stand ps kind d = elim (argument_in ps d) [ None ↦ is_stray d | Some a ↦ is_wanted kind a ]

-- each of the data may stand where an argument of this kind is wanted
abbrev pub may_all_stand : Names → Wanted → List Datum → Bool
may_all_stand ps kind [] = true
may_all_stand ps kind (d ∷ ds) = may_stand ps kind d && may_all_stand ps kind ds

-- the offset of the first stray quote
abbrev pub first_stray : List Datum → Option ℕ
first_stray [] = None
first_stray (d ∷ ds) = if is_stray d then Some (offset d) else first_stray ds

-- an argument, if there is one, before others
abbrev pub argument_before : Option TypeArgTree → List TypeArgTree → List TypeArgTree
argument_before None as_read = as_read
argument_before (Some a) as_read = a ∷ as_read

-- the arguments among data
abbrev pub arguments_in : Names → List Datum → List TypeArgTree
arguments_in ps [] = []
arguments_in ps (d ∷ ds) = argument_before (argument_in ps d) (arguments_in ps ds)

-- ---- tokens

-- the tokens in a list of names
abbrev pub tokens_in : Datum → Option (List (List ℕ))
tokens_in (datum.list ds at) = if are_names (in_order ds) then Some (map symbol_of (in_order ds)) else None
tokens_in (datum.number z at) = None
tokens_in (datum.literal s at) = None
tokens_in (datum.word x at) = None
tokens_in (datum.quoted x at name_at) = None
tokens_in (datum.stray at) = None

-- ---- options

-- the keys of the options that a type may have
abbrev pub option_keys : List Key
option_keys = key.Description ∷ key.Separator ∷ []

-- a byte that may stand between the parts of a text: visible, and no letter, no digit, no `"` and no `\`
abbrev pub is_separator : ℕ → Bool
is_separator b = is_ascii_graphic b && not (is_ascii_alphanumeric b) && not (b == 34) && not (b == 92)

-- the separator that a text of one byte is
abbrev pub separator_in : List ℕ → Option ℕ
separator_in [] = None
separator_in (b ∷ []) = if is_separator b then Some b else None
separator_in (b ∷ c ∷ bs) = None

-- the text behind a key, where the key stands; None where something else stands behind it
abbrev pub text_behind : Option (List Datum) → Option (Option (List ℕ))
text_behind None = Some None
text_behind (Some (datum.literal s at ∷ [])) = Some (Some s)
text_behind (Some ds) = None

-- the separator that a text is
abbrev pub separator_of : Option (List ℕ) → Option (Option ℕ)
separator_of None = Some None
separator_of (Some s) = option_map (λ b. Some b) (separator_in s)

-- the options of a description and a separator; None where one of them is wrong
abbrev pub options_with : Option (Option (List ℕ)) → Option (Option ℕ) → Option TypeOptions
options_with (Some d) (Some s) = Some (record { description = d; separator = s })
options_with (Some d) None = None
options_with None separator = None

-- what the keys say
abbrev pub options_of : List Keyed → Option TypeOptions
options_of ks = options_with (text_behind (values_of key.Description ks)) (option_and_then separator_of (text_behind (values_of key.Separator ks)))

-- options behind the name and its arguments: each known, once, with a value of its kind
abbrev pub options_in : List Datum → Option TypeOptions
options_in ds = option_and_then options_of (keyed_pairs option_keys [] ds)
