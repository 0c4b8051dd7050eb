-- The type that a datum is: `NAME`, `(NAME ARGUMENT ...)` or `((NAME ARGUMENT ...) KEY VALUE ...)`. A specifier says first what makes it wrong by
-- itself, at its own offset; then those in it are read from left to right.
use Rattle.std.specs.Prelude.{ℕ, false, ◌==◌, nat_le, if◌then◌else◌, List, [], ◌∷◌, length, map, Option, Some, None, option_map}
use Rattle.cl_syntax.specs.StandardTypes.{standard_named}
use Rattle.cl_syntax.specs.TypeSpecTree.{TypeSpecTree, specifier, TypeArgTree, Spec, Names as Tokens, arg_trees_of, no_options, plain_type}
use Rattle.cl_syntax.specs.declared.type_names.StandardType.{StandardType}
use Rattle.cl_syntax.specs.declared.type_names.StandardType.TheVariants as standard
use Rattle.cl_syntax.specs.declared.type_specs.TypeOptions.{TypeOptions}
use Rattle.cl_forms.specs.Datum.{Datum, Datums, number, literal, word, quoted, stray, list, none, item, offset}
use Rattle.cl_forms.specs.Naming.{fits, name_in}
use Rattle.cl_expressions.specs.Load.{Load, ◌>>=◌, give, refuse, noted, placed}
use Rattle.cl_expressions.specs.Scopes.{Names}
use Rattle.cl_words.specs.Signatures.{type_in}
use Rattle.cl_words.specs.declared.signatures.TypeHead.{TypeHead}
use Rattle.cl_words.specs.declared.signatures.TypeKind.TheVariants as type
use Rattle.cl_words.specs.declared.signatures.Signatures.{Signatures}
use Rattle.cl_bodies.specs.TypeArguments.{arguments_in, first_stray, may_all_stand, options_in, tokens_in}
use Rattle.cl_bodies.specs.declared.specifiers.Takes.{Takes}
use Rattle.cl_bodies.specs.declared.specifiers.Takes.TheVariants as takes
use Rattle.cl_bodies.specs.declared.type_arguments.Wanted.{Wanted}
use Rattle.cl_bodies.specs.declared.type_arguments.Wanted.TheVariants as wanted

-- an argument: as it stands, and the specifier that it is
pub record TypeSub : Type 0 where
  pub shape : Datum
  pub spec : Load TypeSpecTree

-- ---- what stands behind the name of a type

-- the table of the standard types; None where no text may name the type
abbrev pub takes_of : StandardType → Option Takes
takes_of standard.T = Some takes.Nothing
takes_of standard.Nil = Some takes.Nothing
takes_of standard.Boolean = Some takes.Nothing
takes_of standard.Integer = Some takes.Bounds
takes_of standard.String = Some takes.Length
takes_of standard.Symbol = Some takes.Nothing
takes_of standard.Member = Some takes.Constants
takes_of standard.Subset = Some takes.Constants
takes_of standard.Sequence = Some takes.OneType
takes_of standard.Or = Some takes.SomeTypes
takes_of standard.And = Some takes.SomeTypes
takes_of standard.NullOrType = Some takes.OneType
takes_of standard.TokenOrType = Some takes.TokensAndType
takes_of standard.BlankArea = Some takes.Nothing
takes_of standard.Command = Some takes.Nothing
takes_of standard.DialogChoice = None

-- a record and a host type take nothing, a user type what is given for its parameters
abbrev pub takes_declared : TypeHead → Takes
takes_declared t = elim t.kind [ type.Record ↦ takes.Nothing | type.Host ↦ takes.Nothing | type.User ↦ takes.Given t.count ]

-- None where no type has the name that a text may name
abbrev pub takes_named : Signatures → List ℕ → Option Takes
takes_named w x = elim (standard_named x) [ None ↦ option_map takes_declared (type_in w x) | Some t ↦ takes_of t ]

-- ---- rows

-- the data of the parts
abbrev pub shapes : List TypeSub → List Datum
shapes subs = map (λ s. s.shape) subs

-- constants that are all of a kind, or the specifier at this offset is wrong
abbrev pub parse_constants : Names → Wanted → ℕ → List Datum → Load (List TypeArgTree)
parse_constants ps kind at ds =
    if may_all_stand ps kind ds then elim (first_stray ds) [ None ↦ give (arguments_in ps ds) | Some stray_at ↦ refuse 6 stray_at ] else refuse 6 at

-- the same, and at most so many
abbrev pub parse_at_most : ℕ → Names → Wanted → ℕ → List Datum → Load (List TypeArgTree)
parse_at_most most ps kind at ds = if nat_le (length ds) most then parse_constants ps kind at ds else refuse 6 at

-- as many as are asked for, each a constant or `*`
abbrev pub parse_given : Option ℕ → Names → ℕ → List Datum → Load (List TypeArgTree)
parse_given count ps at ds = if fits count (length ds) then parse_constants ps wanted.ConstantOrStar at ds else refuse 6 at

-- all arguments are specifiers
abbrev pub parse_each_type : List TypeSub → Load (List TypeArgTree)
parse_each_type [] = give []
parse_each_type (s ∷ subs) = s.spec >>= λ t. parse_each_type subs >>= λ ts. give (Spec t ∷ ts)

-- no argument at all
abbrev pub parse_nothing : ℕ → List Datum → Load (List TypeArgTree)
parse_nothing at [] = give []
parse_nothing at (d ∷ ds) = refuse 6 at

-- one specifier
abbrev pub parse_one_type : ℕ → List TypeSub → Load (List TypeArgTree)
parse_one_type at subs = if length subs == 1 then parse_each_type subs else refuse 6 at

-- one specifier or more
abbrev pub parse_some_types : ℕ → List TypeSub → Load (List TypeArgTree)
parse_some_types at subs = if length subs == 0 then refuse 6 at else parse_each_type subs

-- the tokens, then the specifier
abbrev pub parse_token_type : ℕ → Option (List (List ℕ)) → TypeSub → Load (List TypeArgTree)
parse_token_type at None s = refuse 6 at
parse_token_type at (Some xs) s = s.spec >>= λ t. give (Tokens xs ∷ Spec t ∷ [])

-- `(NAME ...) SPECIFIER`
abbrev pub parse_tokens_and_type : ℕ → List TypeSub → Load (List TypeArgTree)
parse_tokens_and_type at (n ∷ s ∷ []) = parse_token_type at (tokens_in n.shape) s
parse_tokens_and_type at subs = refuse 6 at

-- what stands behind the name of a type, by what it takes
abbrev pub parse_arguments : Names → Takes → ℕ → List TypeSub → Load (List TypeArgTree)
parse_arguments ps takes.Nothing at subs = parse_nothing at (shapes subs)
parse_arguments ps takes.Bounds at subs = parse_at_most 2 ps wanted.NumberOrStar at (shapes subs)
parse_arguments ps takes.Length at subs = parse_at_most 1 ps wanted.Number at (shapes subs)
parse_arguments ps takes.Constants at subs = parse_constants ps wanted.Constant at (shapes subs)
parse_arguments ps (takes.Given count) at subs = parse_given count ps at (shapes subs)
parse_arguments ps takes.OneType at subs = parse_one_type at subs
parse_arguments ps takes.SomeTypes at subs = parse_some_types at subs
parse_arguments ps takes.TokensAndType at subs = parse_tokens_and_type at subs

-- a name that is not declared is noted, and what stands behind it is not looked at
abbrev pub parse_known : Names → Option Takes → List ℕ → ℕ → ℕ → List TypeSub → Load TypeSpecTree
parse_known ps None x name_at at subs = noted false name_at >>= λ u. give (plain_type x)
parse_known ps (Some t) x name_at at subs = parse_arguments ps t at subs >>= λ ts. give (specifier x (arg_trees_of ts) no_options)

-- a type by its name
abbrev pub parse_named : Signatures → Names → List ℕ → ℕ → ℕ → List TypeSub → Load TypeSpecTree
parse_named w ps x name_at at subs = parse_known ps (takes_named w x) x name_at at subs

-- a type begins with its name
abbrev pub parse_headed : Signatures → Names → ℕ → Datum → List TypeSub → Load TypeSpecTree
parse_headed w ps at h subs = elim (name_in h) [ None ↦ refuse 6 at | Some x ↦ parse_named w ps x (offset h) at subs ]

-- a specifier with these options in the place of its own
abbrev pub with_options : TypeOptions → TypeSpecTree → TypeSpecTree
with_options o (specifier x ts other) = specifier x ts o

-- what is read, with its options; wrong at this offset where they are none
abbrev pub parse_optioned : ℕ → Option TypeOptions → Load TypeSpecTree → Load TypeSpecTree
parse_optioned at None m = refuse 6 at
parse_optioned at (Some o) m = m >>= λ s. give (with_options o s)

-- a list by its first part: a list of a name and arguments, which are read so, with options behind it; or a name
abbrev pub parse_first : Signatures → Names → ℕ → Datum → Load TypeSpecTree → List TypeSub → Load TypeSpecTree
parse_first w ps at (list es inner_at) inner subs = parse_optioned at (options_in (shapes subs)) inner
parse_first w ps at (word x name_at) inner subs = parse_headed w ps at (word x name_at) subs
parse_first w ps at (number z part_at) inner subs = refuse 6 at
parse_first w ps at (literal s part_at) inner subs = refuse 6 at
parse_first w ps at (quoted x part_at name_at) inner subs = refuse 6 at
parse_first w ps at (stray part_at) inner subs = refuse 6 at

-- ---- specifiers

abbrev mutual
  -- the type that a datum is, where these are the parameters of the declaration around; it is noted with those in it
  pub parse_type : Signatures → Names → Datum → Load TypeSpecTree
  parse_type w ps (number z at) = refuse 6 at
  parse_type w ps (literal s at) = refuse 6 at
  parse_type w ps (word x at) = placed ps at (parse_headed w ps at (word x at) [])
  parse_type w ps (quoted x at name_at) = refuse 6 at
  parse_type w ps (stray at) = refuse 6 at
  parse_type w ps (list ds at) = placed ps at (parse_listed w ps at ds)

  -- a list
  pub parse_listed : Signatures → Names → ℕ → Datums → Load TypeSpecTree
  parse_listed w ps at none = refuse 6 at
  parse_listed w ps at (item d more) = parse_first w ps at d (parse_inner w ps at d) (type_subs w ps more)

  -- a list of a name and arguments
  pub parse_inner : Signatures → Names → ℕ → Datum → Load TypeSpecTree
  parse_inner w ps at (list es inner_at) = parse_parts w ps at es
  parse_inner w ps at (number z part_at) = refuse 6 at
  parse_inner w ps at (literal s part_at) = refuse 6 at
  parse_inner w ps at (word x part_at) = refuse 6 at
  parse_inner w ps at (quoted x part_at name_at) = refuse 6 at
  parse_inner w ps at (stray part_at) = refuse 6 at

  -- a name and its arguments
  pub parse_parts : Signatures → Names → ℕ → Datums → Load TypeSpecTree
  parse_parts w ps at none = refuse 6 at
  parse_parts w ps at (item h more) = parse_headed w ps at h (type_subs w ps more)

  -- each argument, with the type that it is as it is read
  pub type_subs : Signatures → Names → Datums → List TypeSub
  type_subs w ps none = []
  type_subs w ps (item d ds) = record { shape = d; spec = parse_type w ps d } ∷ type_subs w ps ds
