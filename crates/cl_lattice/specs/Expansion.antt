-- The expansion of a specifier: its names are found and its parameters put in.
use Rattle.std.specs.Prelude.{ℕ, zero, suc, List, Option, Some, None}
use Rattle.cl_value.specs.Data.{Data}
use Rattle.cl_syntax.specs.StandardTypes.{standard_named}
use Rattle.cl_syntax.specs.TypeSpecTree.{TypeSpecTree, specifier, TypeArgTree, Constant, Any, Param, Spec, Names, TypeArgTrees, none, argument}
use Rattle.cl_syntax.specs.declared.type_names.StandardType.{StandardType}
use Rattle.cl_syntax.specs.declared.type_names.StandardType.TheVariants as standard
use Rattle.cl_lattice.specs.Arguments.{Given, given, values_of, constants, first_number, second_number, tokens_in}
use Rattle.cl_lattice.specs.Expanded.{Expanded, ExpandedTypes}
use Rattle.cl_lattice.specs.Expanded as type
use Rattle.cl_lattice.specs.World.{World, kind_named}
use Rattle.cl_lattice.specs.declared.declared_types.TypeKind.{TypeKind}
use Rattle.cl_lattice.specs.declared.declared_types.TypeKind.TheVariants as kind
use Rattle.cl_lattice.specs.declared.declared_types.UserType.{UserType}

-- what a user type of this name is with these arguments
abbrev pub Own : Type 0
Own = UserType → List ℕ → List (Option Data) → Expanded

-- what is made of the first part; unknown where there is none
abbrev pub of_first : (Expanded → Expanded) → List ℕ → List (Option Data) → ExpandedTypes → Expanded
of_first make x vs type.none = type.unknown x vs
of_first make x vs (type.part t ts) = make t

-- the rows of the table of standard types, by name, constants, tokens and parts
abbrev pub standard_type : StandardType → List ℕ → List (Option Data) → List (List ℕ) → ExpandedTypes → Expanded
standard_type standard.T x vs xs ts = type.everything
standard_type standard.Nil x vs xs ts = type.nothing
standard_type standard.Boolean x vs xs ts = type.boolean
standard_type standard.Integer x vs xs ts = type.integer (first_number vs) (second_number vs)
standard_type standard.String x vs xs ts = type.string (first_number vs)
standard_type standard.Symbol x vs xs ts = type.symbols
standard_type standard.Member x vs xs ts = type.member (constants vs)
standard_type standard.Subset x vs xs ts = type.subset (constants vs)
standard_type standard.Sequence x vs xs ts = of_first type.sequence x vs ts
standard_type standard.Or x vs xs ts = type.some_of ts
standard_type standard.And x vs xs ts = type.each_of ts
standard_type standard.NullOrType x vs xs ts = of_first type.null_or x vs ts
standard_type standard.TokenOrType x vs xs ts = of_first (type.token_or xs) x vs ts
standard_type standard.BlankArea x vs xs ts = type.blank_area
standard_type standard.Command x vs xs ts = type.command
standard_type standard.DialogChoice x vs xs ts = type.dialog_choice

-- a declared type by its kind
abbrev pub declared_type : Own → Option TypeKind → List ℕ → List (Option Data) → Expanded
declared_type own None x vs = type.unknown x vs
declared_type own (Some kind.Record) x vs = type.record_type x
declared_type own (Some (kind.Host low high)) x vs = type.host x low high
declared_type own (Some (kind.User u)) x vs = own u x vs

-- a type by its name: a standard one, or a declared one
abbrev pub named_type : Own → Option StandardType → Option TypeKind → List ℕ → List (Option Data) → List (List ℕ) → ExpandedTypes → Expanded
named_type own (Some t) k x vs xs ts = standard_type t x vs xs ts
named_type own None k x vs xs ts = declared_type own k x vs

-- a specifier, with the parameters of the declaration around it put in
abbrev mutual
  pub expand : World → Own → Given → TypeSpecTree → Expanded
  expand w own g (specifier x ts o) = named_type own (standard_named x) (kind_named x w) x (values_of g ts) (tokens_in ts) (expand_parts w own g ts)

  -- the specifiers among arguments
  pub expand_parts : World → Own → Given → TypeArgTrees → ExpandedTypes
  expand_parts w own g none = type.none
  expand_parts w own g (argument a ts) = expand_part w own g a (expand_parts w own g ts)

  -- the specifier that an argument is, before the parts behind it
  pub expand_part : World → Own → Given → TypeArgTree → ExpandedTypes → ExpandedTypes
  expand_part w own g (Constant d) more = more
  expand_part w own g Any more = more
  expand_part w own g (Param x) more = more
  expand_part w own g (Spec s) more = type.part (expand w own g s) more
  expand_part w own g (Names xs) more = more

-- a user type holds what it inherits from, through so many user types one inside another
abbrev pub own_within : ℕ → World → Own
own_within zero w u x vs = type.unknown x vs
own_within (suc n) w u x vs = type.user x vs u.satisfies (expand w (own_within n w) (given u.parameters vs) u.inherit_from)

-- no type of a lattice inherits through more than eight names one inside another, so nine user types are never passed
abbrev pub most_levels : ℕ
most_levels = 9

unfoldable pub own_type : World → Own
own_type w u x vs = own_within most_levels w u x vs

-- the expansion of a specifier, with what is given for the parameters of the declaration around it
abbrev pub expansion : World → Given → TypeSpecTree → Expanded
expansion w g s = expand w (own_type w) g s

-- ---- the parts of a specifier in turn

-- the first specifier among arguments, and the arguments behind it
abbrev pub next_spec : TypeArgTrees → Option (TypeSpecTree × TypeArgTrees)
next_spec none = None
next_spec (argument (Constant d) ts) = next_spec ts
next_spec (argument Any ts) = next_spec ts
next_spec (argument (Param x) ts) = next_spec ts
next_spec (argument (Spec s) ts) = Some (s, ts)
next_spec (argument (Names xs) ts) = next_spec ts

-- the parts from there on
abbrev pub next_parts : World → Own → Given → Option (TypeSpecTree × TypeArgTrees) → ExpandedTypes
next_parts w own g None = type.none
next_parts w own g (Some p) = type.part (expand w own g p.0) (expand_parts w own g p.1)
