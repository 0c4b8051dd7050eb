-- The ways in which one type is a subtype of another, by cases on their heads.
use Rattle.std.specs.Prelude.{◌≡◌, ℤ, true, ◌⊎◌, Option, Some, None}
use Rattle.cl_lattice.specs.Expanded.{Expanded, everything, nothing, boolean, symbols, blank_area, command, dialog_choice, integer, string, member, subset, sequence, some_of, each_of, null_or, token_or, record_type, host, user, unknown, ExpandedTypes, none, part}
use Rattle.cl_lattice.specs.Subtypes.{IsSubtype, is_low_within, is_high_within, all_among, all_tokens}

-- texts of any length take those of one; None is any
abbrev pub IsLengthWithin : Option ℤ → Option ℤ → Type 0
IsLengthWithin n None = Unit {0}
IsLengthWithin None (Some other) = ⊥
IsLengthWithin (Some n) (Some other) = n ≡ other

-- two types of one kind, by their arguments
abbrev pub ByHeads : Expanded → Expanded → Type 0
ByHeads boolean boolean = Unit {0}
ByHeads symbols symbols = Unit {0}
ByHeads blank_area blank_area = Unit {0}
ByHeads command command = Unit {0}
ByHeads dialog_choice dialog_choice = Unit {0}
ByHeads (integer low high) (integer low' high') = (is_low_within low low' ≡ true) × (is_high_within high high' ≡ true)
ByHeads (string n) (string m) = IsLengthWithin n m
ByHeads (member cs) (member ds) = all_among cs ds ≡ true
ByHeads (subset cs) (subset ds) = all_among cs ds ≡ true
ByHeads (sequence a) (sequence b) = IsSubtype a b
ByHeads (null_or a) (null_or b) = IsSubtype a b
ByHeads (token_or xs a) (token_or ys b) = (all_tokens xs ys ≡ true) × IsSubtype a b
ByHeads (record_type x) (record_type y) = x ≡ y
ByHeads (host x low high) (host y low' high') = (x ≡ y) × (low ≡ low') × (high ≡ high')
ByHeads (user x vs f a) (user y ws g b) = user x vs f a ≡ user y ws g b
ByHeads (unknown x vs) (unknown y ws) = (x ≡ y) × (vs ≡ ws)
ByHeads a b = ⊥

-- each of the first types is a subtype
abbrev pub EachBelow : ExpandedTypes → Expanded → Type 0
EachBelow none b = Unit {0}
EachBelow (part a ps) b = IsSubtype a b × EachBelow ps b

-- some of the first types is a subtype
abbrev pub SomeBelow : ExpandedTypes → Expanded → Type 0
SomeBelow none b = ⊥
SomeBelow (part a ps) b = IsSubtype a b ⊎ SomeBelow ps b

-- a subtype of each of the second types
abbrev pub BelowEach : Expanded → ExpandedTypes → Type 0
BelowEach a none = Unit {0}
BelowEach a (part b qs) = IsSubtype a b × BelowEach a qs

-- by the parts of the first type, or by what it inherits from
abbrev pub ByFirst : Expanded → Expanded → Type 0
ByFirst nothing b = Unit {0}
ByFirst (some_of ps) b = EachBelow ps b
ByFirst (each_of ps) b = SomeBelow ps b
ByFirst (user x vs f a) b = IsSubtype a b
ByFirst (host x low high) b = IsSubtype (integer (Some low) (Some high)) b
ByFirst a b = ⊥

-- by the second type: down to a type of the same kind, or to an `and`
abbrev mutual
  pub BySecond : Expanded → Expanded → Type 0
  BySecond a everything = Unit {0}
  BySecond a (some_of qs) = BySomeSecond a qs
  BySecond a (each_of qs) = BelowEach a qs
  BySecond a (null_or b) = ByHeads a (null_or b) ⊎ BySecond a b
  BySecond a (token_or ys b) = ByHeads a (token_or ys b) ⊎ BySecond a b
  BySecond a b = ByHeads a b

  -- by some of the second types
  pub BySomeSecond : Expanded → ExpandedTypes → Type 0
  BySomeSecond a none = ⊥
  BySomeSecond a (part b qs) = BySecond a b ⊎ BySomeSecond a qs
