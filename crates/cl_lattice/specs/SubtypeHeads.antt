-- Heads of types, and the expanded types that they stand for.
use Rattle.std.specs.Prelude.{◌≡◌, ℕ, Bool, false, ◌==◌, List, Option, Some, None}
use Rattle.std.specs.Cmp.Lexicographic.{pointwise}
use Rattle.cl_value.specs.Data.{Data}
use Rattle.cl_syntax.specs.TypeSpecTree.{TypeSpecTree, TypeArgTree, Constant, Any, Param, Spec, Names, TypeArgTrees, none, argument}
use Rattle.cl_lattice.specs.Arguments.{Given, given, values_of, constants, tokens_in, trees_of}
use Rattle.cl_lattice.specs.Expanded.{Expanded}
use Rattle.cl_lattice.specs.Expanded as type
use Rattle.cl_lattice.specs.Expansion.{expand_parts, expansion, own_type}
use Rattle.cl_lattice.specs.World.{World, kind_named}
use Rattle.cl_lattice.specs.declared.declared_types.TypeKind.TheVariants as kind
use Rattle.cl_lattice.specs.declared.declared_types.UserType.{UserType}
use Rattle.cl_lattice.specs.declared.heads.Head.{Head}
use Rattle.cl_lattice.specs.declared.heads.Head.TheVariants as head

-- the specifier that an argument is, else the one behind it
abbrev pub part_before : TypeArgTree → Option TypeSpecTree → Option TypeSpecTree
part_before (Constant d) more = more
part_before Any more = more
part_before (Param x) more = more
part_before (Spec s) more = Some s
part_before (Names xs) more = more

-- the first specifier among arguments
abbrev pub first_part : TypeArgTrees → Option TypeSpecTree
first_part none = None
first_part (argument a ts) = part_before a (first_part ts)

-- a user type holds its name, its arguments, its predicate, and what it inherits from
abbrev pub user_type : World → List ℕ → List (Option Data) → UserType → Expanded
user_type w x vs u = type.user x vs u.satisfies (expansion w (given u.parameters vs) u.inherit_from)

-- the expanded type that a head stands for
abbrev pub head_type : World → Given → Head → Expanded
head_type w g head.Everything = type.everything
head_type w g head.Nothing = type.nothing
head_type w g head.Boolean = type.boolean
head_type w g head.Symbols = type.symbols
head_type w g head.BlankArea = type.blank_area
head_type w g head.Command = type.command
head_type w g head.DialogChoice = type.dialog_choice
head_type w g (head.Integer low high) = type.integer low high
head_type w g (head.Text n) = type.string n
head_type w g (head.Member ts) = type.member (constants (values_of g (trees_of ts.now)))
head_type w g (head.Subset ts) = type.subset (constants (values_of g (trees_of ts.now)))
head_type w g (head.Sequence s) = type.sequence (expansion w g s.now)
head_type w g (head.SomeOf ts) = type.some_of (expand_parts w (own_type w) g (trees_of ts.now))
head_type w g (head.EachOf ts) = type.each_of (expand_parts w (own_type w) g (trees_of ts.now))
head_type w g (head.NullOr s) = type.null_or (expansion w g s.now)
head_type w g (head.TokenOr ts s) = type.token_or (tokens_in (trees_of ts.now)) (expansion w g s.now)
head_type w g (head.Record x) = type.record_type x.now
head_type w g (head.Host x low high) = type.host x.now low high
head_type w g (head.User x ts u) = user_type w x.now (values_of g (trees_of ts.now)) u.now
head_type w g (head.Unknown x ts) = type.unknown x.now (values_of g (trees_of ts.now))

-- a record, a host type or a user type is the one of its name
abbrev pub IsDeclared : World → Head → Type 0
IsDeclared w (head.Record x) = kind_named x.now w ≡ Some kind.Record
IsDeclared w (head.Host x low high) = kind_named x.now w ≡ Some (kind.Host low high)
IsDeclared w (head.User x ts u) = kind_named x.now w ≡ Some (kind.User u.now)
IsDeclared w h = Unit {0}

-- whether a head is that of a declared type of this name
abbrev pub has_name : Head → List ℕ → Bool
has_name (head.Record x) y = pointwise ◌==◌ y x.now
has_name (head.Host x low high) y = pointwise ◌==◌ y x.now
has_name (head.User x ts u) y = pointwise ◌==◌ y x.now
has_name (head.Unknown x ts) y = pointwise ◌==◌ y x.now
has_name head.Everything y = false
has_name head.Nothing y = false
has_name head.Boolean y = false
has_name head.Symbols y = false
has_name head.BlankArea y = false
has_name head.Command y = false
has_name head.DialogChoice y = false
has_name (head.Integer low high) y = false
has_name (head.Text n) y = false
has_name (head.Member ts) y = false
has_name (head.Subset ts) y = false
has_name (head.Sequence s) y = false
has_name (head.SomeOf ts) y = false
has_name (head.EachOf ts) y = false
has_name (head.NullOr s) y = false
has_name (head.TokenOr ts s) y = false
