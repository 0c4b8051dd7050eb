-- How a type specifier is written: a row for each form of it, with its offsets left out. The parameters of the declaration around may stand in it.
use Rattle.std.specs.Prelude.{◌≡◌, ℕ, ℤ, ◌≤◌, true, false, is_some, List, [], ◌∷◌, length, Option, Some, None, codes}
use Rattle.std.specs.Str.{bytes_eq}
use Rattle.cl_value.specs.Data as value
use Rattle.cl_value.specs.Data.{Data}
use Rattle.cl_table.specs.Names.{place_of}
use Rattle.cl_syntax.specs.TypeSpecTree.{TypeSpecTree, specifier, TypeArgTree, Constant, Any, Param, Spec, TypeArgTrees, none, argument}
use Rattle.cl_syntax.specs.TypeSpecTree.{Names as Tokens, no_options, plain_type}
use Rattle.cl_syntax.specs.declared.type_specs.TypeOptions.{TypeOptions}
use Rattle.cl_forms.specs.Datum.{Datum, Datums, number, literal, word, quoted, list, item, in_order}
use Rattle.cl_forms.specs.Naming.{fits, name_in}
use Rattle.cl_forms.specs.Words.{is_key}
use Rattle.cl_words.specs.declared.signatures.Signatures.{Signatures}
use Rattle.cl_expressions.specs.Scopes.{Names}
use Rattle.cl_bodies.specs.Specifiers.{takes_named}
use Rattle.cl_bodies.specs.TypeArguments.{options_in}
use Rattle.cl_bodies.specs.declared.specifiers.Takes.{Takes}
use Rattle.cl_bodies.specs.declared.specifiers.Takes.TheVariants as takes
use Rattle.cl_bodies.specs.declared.type_arguments.Wanted.{Wanted}
use Rattle.cl_bodies.specs.declared.type_arguments.Wanted.TheVariants as wanted
use Rattle.cl_text_grammar.specs.WritesNames.{WritesNameList}

-- ---- arguments that are no specifiers

-- a symbol that is a constant of itself
pub record IsSymbolConstant (ps : Names) (x : List ℕ) : Type 0 where
  pub is_no_parameter : is_some (place_of x ps) ≡ false
  pub is_no_star : bytes_eq x (codes "*") ≡ false
  pub is_not_true : bytes_eq x (codes "true") ≡ false
  pub is_not_false : bytes_eq x (codes "false") ≡ false
  pub is_not_null : bytes_eq x (codes "null") ≡ false
  pub is_no_key : is_key x ≡ false

-- a constant writes a datum
pub data WritesConstant (ps : Names) : Data → Datum → Type 0 where
  a_number : {z : ℤ} {at : ℕ} → WritesConstant ps (value.int z) (number z at)
  a_text : {s : List ℕ} {at : ℕ} → WritesConstant ps (value.text s) (literal s at)
  a_quoted_name : {x : List ℕ} {at name_at : ℕ} → WritesConstant ps (value.symbol x) (quoted x at name_at)
  the_true : {at : ℕ} → WritesConstant ps (value.bool true) (word (codes "true") at)
  the_false : {at : ℕ} → WritesConstant ps (value.bool false) (word (codes "false") at)
  the_null : {at : ℕ} → WritesConstant ps value.null (word (codes "null") at)
  a_symbol : {x : List ℕ} {at : ℕ} → IsSymbolConstant ps x → WritesConstant ps (value.symbol x) (word x at)

-- an argument of the kind that is wanted writes a datum
pub data WritesArgument (ps : Names) : Wanted → TypeArgTree → Datum → Type 0 where
  -- a parameter of the declaration around, of any kind
  a_parameter : {kind : Wanted} {x : List ℕ} {at : ℕ} → is_some (place_of x ps) ≡ true → WritesArgument ps kind (Param x) (word x at)
  -- a bound: a number, or * for none
  a_bound : {z : ℤ} {at : ℕ} → WritesArgument ps wanted.NumberOrStar (Constant (value.int z)) (number z at)
  no_bound : {at : ℕ} → WritesArgument ps wanted.NumberOrStar Any (word (codes "*") at)
  -- a length: a number
  a_length : {z : ℤ} {at : ℕ} → WritesArgument ps wanted.Number (Constant (value.int z)) (number z at)
  -- any constant
  a_constant : {v : Data} {d : Datum} → WritesConstant ps v d → WritesArgument ps wanted.Constant (Constant v) d
  -- what is given for a parameter: any constant, or * for none
  a_given : {v : Data} {d : Datum} → WritesConstant ps v d → WritesArgument ps wanted.ConstantOrStar (Constant v) d
  none_given : {at : ℕ} → WritesArgument ps wanted.ConstantOrStar Any (word (codes "*") at)

-- arguments of one kind write data, one each
pub data WritesArguments (ps : Names) (kind : Wanted) : TypeArgTrees → List Datum → Type 0 where
  no_more : WritesArguments ps kind none []
  one_more : {a : TypeArgTree} {ts : TypeArgTrees} {d : Datum} {ds : List Datum} → WritesArgument ps kind a d → WritesArguments ps kind ts ds
      → WritesArguments ps kind (argument a ts) (d ∷ ds)

-- ---- specifiers

mutual
  -- a specifier writes a datum, where these are the parameters of the declaration around
  pub data WritesType (w : Signatures) (ps : Names) : TypeSpecTree → Datum → Type 0 where
    -- NAME
    a_name : {s : TypeSpecTree} {x : List ℕ} {at : ℕ} → WritesNamed w ps s (word x at ∷ []) → WritesType w ps s (word x at)
    -- (NAME ARGUMENT ...)
    a_list : {s : TypeSpecTree} {ds : Datums} {at : ℕ} → WritesNamed w ps s (in_order ds) → WritesType w ps s (list ds at)
    -- ((NAME ARGUMENT ...) KEY VALUE ...)
    with_its_options : {x : List ℕ} {ts : TypeArgTrees} {o : TypeOptions} {es ds : Datums} {inner_at at : ℕ}
        → WritesNamed w ps (specifier x ts no_options) (in_order es) → options_in (in_order ds) ≡ Some o
        → WritesType w ps (specifier x ts o) (list (item (list es inner_at) ds) at)

  -- a specifier writes the name of a type with what stands behind it
  pub data WritesNamed (w : Signatures) (ps : Names) : TypeSpecTree → List Datum → Type 0 where
    -- a standard type, or one that is declared
    a_known_type : {x : List ℕ} {t : Takes} {ts : TypeArgTrees} {n : Datum} {ds : List Datum} → name_in n ≡ Some x → takes_named w x ≡ Some t
        → WritesBehind w ps t ts ds → WritesNamed w ps (specifier x ts no_options) (n ∷ ds)
    -- a name that is not declared, with anything behind it
    an_unknown_type : {x : List ℕ} {n : Datum} {ds : List Datum} → name_in n ≡ Some x → takes_named w x ≡ None
        → WritesNamed w ps (plain_type x) (n ∷ ds)

  -- arguments write what stands behind the name of a type, by what the type takes
  pub data WritesBehind (w : Signatures) (ps : Names) : Takes → TypeArgTrees → List Datum → Type 0 where
    -- NAME alone
    nothing : WritesBehind w ps takes.Nothing none []
    -- (NAME LOW HIGH), (NAME LOW) or NAME alone
    its_bounds : {ts : TypeArgTrees} {ds : List Datum} → length ds ≤ 2 → WritesArguments ps wanted.NumberOrStar ts ds
        → WritesBehind w ps takes.Bounds ts ds
    -- (NAME LENGTH) or NAME alone
    its_length : {ts : TypeArgTrees} {ds : List Datum} → length ds ≤ 1 → WritesArguments ps wanted.Number ts ds
        → WritesBehind w ps takes.Length ts ds
    -- (NAME CONSTANT ...)
    its_constants : {ts : TypeArgTrees} {ds : List Datum} → WritesArguments ps wanted.Constant ts ds → WritesBehind w ps takes.Constants ts ds
    -- (NAME ARGUMENT ...), one for each parameter, or NAME alone where there are none
    all_given : {count : Option ℕ} {ts : TypeArgTrees} {ds : List Datum} → fits count (length ds) ≡ true → WritesArguments ps wanted.ConstantOrStar ts ds
        → WritesBehind w ps (takes.Given count) ts ds
    -- (NAME TYPE)
    one_type : {s : TypeSpecTree} {d : Datum} → WritesType w ps s d → WritesBehind w ps takes.OneType (argument (Spec s) none) (d ∷ [])
    -- (NAME TYPE TYPE ...)
    some_types : {ts : TypeArgTrees} {d : Datum} {ds : List Datum} → WritesTypes w ps ts (d ∷ ds) → WritesBehind w ps takes.SomeTypes ts (d ∷ ds)
    -- (NAME (TOKEN ...) TYPE)
    tokens_and_type : {xs : Names} {s : TypeSpecTree} {n d : Datum} → WritesNameList xs n → WritesType w ps s d
        → WritesBehind w ps takes.TokensAndType (argument (Tokens xs) (argument (Spec s) none)) (n ∷ d ∷ [])

  -- specifiers write data, one each
  pub data WritesTypes (w : Signatures) (ps : Names) : TypeArgTrees → List Datum → Type 0 where
    no_more_types : WritesTypes w ps none []
    one_more_type : {s : TypeSpecTree} {ts : TypeArgTrees} {d : Datum} {ds : List Datum} → WritesType w ps s d → WritesTypes w ps ts ds
        → WritesTypes w ps (argument (Spec s) ts) (d ∷ ds)
