-- What is looked at of a type: what makes a specifier wrong by itself, at its own offset; else quotes that stand before no name, the name of a type
-- that is not declared, and the specifiers in it, from left to right.
use Rattle.std.specs.Prelude.{◌≡◌, ◌⊎◌, ℕ, ◌==◌, nat_le, if◌then◌else◌, List, [], ◌∷◌, ◌++◌, length, map, Option, Some, None}
use Rattle.cl_syntax.specs.declared.type_specs.TypeOptions.{TypeOptions}
use Rattle.cl_forms.specs.Datum.{Datum, Datums, number, literal, word, quoted, stray, list, none, item, offset}
use Rattle.cl_forms.specs.Naming.{fits, name_in}
use Rattle.cl_words.specs.declared.signatures.Signatures.{Signatures}
use Rattle.cl_expressions.specs.Scopes.{Names}
use Rattle.cl_bodies.specs.TypeArguments.{is_stray, may_all_stand, options_in, tokens_in}
use Rattle.cl_bodies.specs.Specifiers.{takes_named}
use Rattle.cl_bodies.specs.declared.specifiers.Takes.{Takes}
use Rattle.cl_bodies.specs.declared.specifiers.Takes.TheVariants as takes
use Rattle.cl_bodies.specs.declared.type_arguments.Wanted.{Wanted}
use Rattle.cl_bodies.specs.declared.type_arguments.Wanted.TheVariants as wanted

-- a part of a specifier that is looked at
pub data TypePart : Type 0 where
  -- a specifier or a quote that is refused by itself, with the number of the refusal and its offset
  refused : ℕ → ℕ → TypePart
  -- the name of a type, with its offset
  type_name : List ℕ → ℕ → TypePart

-- the part is blamed with this number at this offset
abbrev pub TypePartBlames : TypePart → ℕ → ℕ → Type 0
TypePartBlames (refused refusal at) n o = (n ≡ refusal) × (o ≡ at)
TypePartBlames (type_name x at) n o = ⊥

-- one of the parts is blamed so
abbrev pub TypeBlames : List TypePart → ℕ → ℕ → Type 0
TypeBlames [] n o = ⊥
TypeBlames (p ∷ ps) n o = TypePartBlames p n o ⊎ TypeBlames ps n o

-- the part is a name at this offset that is not declared
abbrev pub TypePartUnnamed : Signatures → TypePart → ℕ → Type 0
TypePartUnnamed w (refused refusal at) o = ⊥
TypePartUnnamed w (type_name x at) o = (takes_named w x ≡ None) × (o ≡ at)

-- one of the parts is such a name
abbrev pub TypeUnnamed : Signatures → List TypePart → ℕ → Type 0
TypeUnnamed w [] o = ⊥
TypeUnnamed w (p ∷ ps) o = TypePartUnnamed w p o ⊎ TypeUnnamed w ps o

-- the specifier at this offset has counts, kinds or keys that it may not have
abbrev pub wrong : ℕ → List TypePart
wrong at = refused 6 at ∷ []

-- an argument, and what is looked at of it where it is a specifier
pub record Sighted : Type 0 where
  pub shape : Datum
  pub seen : List TypePart

-- the data of the arguments
abbrev pub shapes_sighted : List Sighted → List Datum
shapes_sighted ss = map (λ s. s.shape) ss

-- ---- rows

-- quotes that stand before no name
abbrev pub strays_seen : List Datum → List TypePart
strays_seen [] = []
strays_seen (d ∷ ds) = if is_stray d then refused 6 (offset d) ∷ strays_seen ds else strays_seen ds

-- constants of a kind
abbrev pub constants_seen : Names → Wanted → ℕ → List Datum → List TypePart
constants_seen ps kind at ds = if may_all_stand ps kind ds then strays_seen ds else wrong at

-- so many arguments at most, each a constant of this kind
abbrev pub at_most_seen : ℕ → Names → Wanted → ℕ → List Datum → List TypePart
at_most_seen most ps kind at ds = if nat_le (length ds) most then constants_seen ps kind at ds else wrong at

-- as many as are asked for, each a constant or `*`
abbrev pub given_seen : Option ℕ → Names → ℕ → List Datum → List TypePart
given_seen count ps at ds = if fits count (length ds) then constants_seen ps wanted.ConstantOrStar at ds else wrong at

-- no argument at all
abbrev pub nothing_seen : ℕ → List Datum → List TypePart
nothing_seen at [] = []
nothing_seen at (d ∷ ds) = wrong at

-- all arguments are specifiers
abbrev pub each_type_seen : List Sighted → List TypePart
each_type_seen [] = []
each_type_seen (s ∷ ss) = s.seen ++ each_type_seen ss

-- one specifier
abbrev pub one_type_seen : ℕ → List Sighted → List TypePart
one_type_seen at ss = if length ss == 1 then each_type_seen ss else wrong at

-- one specifier or more
abbrev pub some_types_seen : ℕ → List Sighted → List TypePart
some_types_seen at ss = if length ss == 0 then wrong at else each_type_seen ss

-- `(NAME ...) SPECIFIER`
abbrev pub tokens_and_type_seen : ℕ → List Sighted → List TypePart
tokens_and_type_seen at (n ∷ s ∷ []) = elim (tokens_in n.shape) [ None ↦ wrong at | Some xs ↦ s.seen ]
tokens_and_type_seen at ss = wrong at

-- what stands behind the name of a type, by what it takes
abbrev pub arguments_seen : Names → Takes → ℕ → List Sighted → List TypePart
arguments_seen ps takes.Nothing at ss = nothing_seen at (shapes_sighted ss)
arguments_seen ps takes.Bounds at ss = at_most_seen 2 ps wanted.NumberOrStar at (shapes_sighted ss)
arguments_seen ps takes.Length at ss = at_most_seen 1 ps wanted.Number at (shapes_sighted ss)
arguments_seen ps takes.Constants at ss = constants_seen ps wanted.Constant at (shapes_sighted ss)
arguments_seen ps (takes.Given count) at ss = given_seen count ps at (shapes_sighted ss)
arguments_seen ps takes.OneType at ss = one_type_seen at ss
arguments_seen ps takes.SomeTypes at ss = some_types_seen at ss
arguments_seen ps takes.TokensAndType at ss = tokens_and_type_seen at ss

-- what stands behind a name that is not declared is not looked at
abbrev pub known_type_seen : Names → Option Takes → List ℕ → ℕ → ℕ → List Sighted → List TypePart
known_type_seen ps None x name_at at ss = type_name x name_at ∷ []
known_type_seen ps (Some t) x name_at at ss = arguments_seen ps t at ss

-- a type begins with its name
abbrev pub headed_type_seen : Signatures → Names → ℕ → Datum → List Sighted → List TypePart
headed_type_seen w ps at h ss = elim (name_in h) [ None ↦ wrong at | Some x ↦ known_type_seen ps (takes_named w x) x (offset h) at ss ]

-- options behind a name and its arguments
abbrev pub optioned_type_seen : ℕ → Option TypeOptions → List TypePart → List TypePart
optioned_type_seen at None inner = wrong at
optioned_type_seen at (Some o) inner = inner

-- a list by its first part: a list of a name and arguments, or a name
abbrev pub first_type_seen : Signatures → Names → ℕ → Datum → List TypePart → List Sighted → List TypePart
first_type_seen w ps at (list es inner_at) inner ss = optioned_type_seen at (options_in (shapes_sighted ss)) inner
first_type_seen w ps at (word x name_at) inner ss = headed_type_seen w ps at (word x name_at) ss
first_type_seen w ps at (number z part_at) inner ss = wrong at
first_type_seen w ps at (literal s part_at) inner ss = wrong at
first_type_seen w ps at (quoted x part_at name_at) inner ss = wrong at
first_type_seen w ps at (stray part_at) inner ss = wrong at

-- ---- specifiers

abbrev mutual
  -- `NAME`, `(NAME ARGUMENT ...)` or `((NAME ARGUMENT ...) KEY VALUE ...)`, where these are the parameters of the declaration around
  pub type_seen : Signatures → Names → Datum → List TypePart
  type_seen w ps (number z at) = wrong at
  type_seen w ps (literal s at) = wrong at
  type_seen w ps (word x at) = headed_type_seen w ps at (word x at) []
  type_seen w ps (quoted x at name_at) = wrong at
  type_seen w ps (stray at) = wrong at
  type_seen w ps (list ds at) = listed_type_seen w ps at ds

  -- a specifier in parentheses, by its first part
  pub listed_type_seen : Signatures → Names → ℕ → Datums → List TypePart
  listed_type_seen w ps at none = wrong at
  listed_type_seen w ps at (item d more) = first_type_seen w ps at d (inner_type_seen w ps at d) (types_seen w ps more)

  -- a name with its arguments, as the first part of a specifier
  pub inner_type_seen : Signatures → Names → ℕ → Datum → List TypePart
  inner_type_seen w ps at (list es inner_at) = type_parts_seen w ps at es
  inner_type_seen w ps at (number z part_at) = wrong at
  inner_type_seen w ps at (literal s part_at) = wrong at
  inner_type_seen w ps at (word x part_at) = wrong at
  inner_type_seen w ps at (quoted x part_at name_at) = wrong at
  inner_type_seen w ps at (stray part_at) = wrong at

  -- a name, then its arguments
  pub type_parts_seen : Signatures → Names → ℕ → Datums → List TypePart
  type_parts_seen w ps at none = wrong at
  type_parts_seen w ps at (item h more) = headed_type_seen w ps at h (types_seen w ps more)

  -- each argument, with what is looked at of it
  pub types_seen : Signatures → Names → Datums → List Sighted
  types_seen w ps none = []
  types_seen w ps (item d ds) = record { shape = d; seen = type_seen w ps d } ∷ types_seen w ps ds
