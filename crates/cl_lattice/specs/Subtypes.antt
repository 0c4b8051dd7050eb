-- Subtypes: the least relation with these rules.
use Rattle.std.specs.Prelude.{◌≡◌, ℕ, ℤ, int_le, Bool, true, false, ◌&&◌, List, [], ◌∷◌, Option, Some, None}
use Rattle.cl_value.specs.Data.{Data}
use Rattle.cl_lattice.specs.Expanded.{Expanded, everything, nothing, boolean, symbols, blank_area, command, dialog_choice, integer, string, member, subset, sequence, some_of, each_of, null_or, token_or, record_type, host, user, unknown, ExpandedTypes, none, part}
use Rattle.cl_lattice.specs.Members.{is_among, is_token}

-- the first lower bound lies within the second; None is no bound
abbrev pub is_low_within : Option ℤ → Option ℤ → Bool
is_low_within low None = true
is_low_within None (Some other) = false
is_low_within (Some low) (Some other) = int_le other low

-- the first upper bound lies within the second; None is no bound
abbrev pub is_high_within : Option ℤ → Option ℤ → Bool
is_high_within high None = true
is_high_within None (Some other) = false
is_high_within (Some high) (Some other) = int_le high other

-- each of the first constants is one of the second
abbrev pub all_among : List Data → List Data → Bool
all_among [] ds = true
all_among (c ∷ cs) ds = is_among c ds && all_among cs ds

-- each of the first tokens is one of the second
abbrev pub all_tokens : List (List ℕ) → List (List ℕ) → Bool
all_tokens [] ys = true
all_tokens (x ∷ xs) ys = is_token ys x && all_tokens xs ys

-- a type that is not made of others, whose arguments no other rule compares
abbrev pub is_whole : Expanded → Bool
is_whole everything = false
is_whole nothing = false
is_whole boolean = true
is_whole symbols = true
is_whole blank_area = true
is_whole command = true
is_whole dialog_choice = true
is_whole (integer low high) = false
is_whole (string n) = true
is_whole (member cs) = false
is_whole (subset cs) = false
is_whole (sequence t) = false
is_whole (some_of ts) = false
is_whole (each_of ts) = false
is_whole (null_or t) = false
is_whole (token_or xs t) = false
is_whole (record_type x) = true
is_whole (host x low high) = true
is_whole (user x vs f t) = true
is_whole (unknown x vs) = true

mutual
  -- one type is a subtype of another
  pub data IsSubtype : Expanded → Expanded → Type 0 where
    -- everything is a subtype of t
    in_everything : (a : Expanded) → IsSubtype a everything
    -- nil is a subtype of everything
    of_nothing : (b : Expanded) → IsSubtype nothing b
    -- bounds that lie within the others
    of_integers : (low high low' high' : Option ℤ) → is_low_within low low' ≡ true → is_high_within high high' ≡ true
        → IsSubtype (integer low high) (integer low' high')
    -- texts of one length are texts
    of_strings : (n : Option ℤ) → IsSubtype (string n) (string None)
    -- a type without parts is a subtype of itself, with the same arguments
    itself : (a : Expanded) → is_whole a ≡ true → IsSubtype a a
    -- constants that are all among the others
    of_members : (cs ds : List Data) → all_among cs ds ≡ true → IsSubtype (member cs) (member ds)
    of_subsets : (cs ds : List Data) → all_among cs ds ≡ true → IsSubtype (subset cs) (subset ds)
    of_sequences : (a b : Expanded) → IsSubtype a b → IsSubtype (sequence a) (sequence b)
    -- an or, where each part is one
    each_part : (ps : ExpandedTypes) (b : Expanded) → EachIsSubtype ps b → IsSubtype (some_of ps) b
    -- a subtype of some part of an or
    in_some_part : (a : Expanded) (qs : ExpandedTypes) → IsSubtypeOfSome a qs → IsSubtype a (some_of qs)
    -- an and, where some part is one
    some_part : (ps : ExpandedTypes) (b : Expanded) → SomeIsSubtype ps b → IsSubtype (each_of ps) b
    -- a subtype of each part of an and
    in_each_part : (a : Expanded) (qs : ExpandedTypes) → IsSubtypeOfEach a qs → IsSubtype a (each_of qs)
    -- the same with null beside both, or beside the second
    of_null_ors : (a b : Expanded) → IsSubtype a b → IsSubtype (null_or a) (null_or b)
    in_null_or : (a b : Expanded) → IsSubtype a b → IsSubtype a (null_or b)
    -- the same with tokens beside both, or beside the second
    of_token_ors : (xs ys : List (List ℕ)) (a b : Expanded) → all_tokens xs ys ≡ true → IsSubtype a b → IsSubtype (token_or xs a) (token_or ys b)
    in_token_or : (a : Expanded) (ys : List (List ℕ)) (b : Expanded) → IsSubtype a b → IsSubtype a (token_or ys b)
    -- a user type or a host type, where what it inherits from is one
    of_user : (x : List ℕ) (vs : List (Option Data)) (f : Option (List ℕ)) (a b : Expanded) → IsSubtype a b → IsSubtype (user x vs f a) b
    of_host : (x : List ℕ) (low high : ℤ) (b : Expanded) → IsSubtype (integer (Some low) (Some high)) b → IsSubtype (host x low high) b

  -- each of the first types is a subtype
  pub data EachIsSubtype : ExpandedTypes → Expanded → Type 0 where
    each_none : (b : Expanded) → EachIsSubtype none b
    each_more : (a : Expanded) (ps : ExpandedTypes) (b : Expanded) → IsSubtype a b → EachIsSubtype ps b → EachIsSubtype (part a ps) b

  -- some of the first types is a subtype
  pub data SomeIsSubtype : ExpandedTypes → Expanded → Type 0 where
    some_here : (a : Expanded) (ps : ExpandedTypes) (b : Expanded) → IsSubtype a b → SomeIsSubtype (part a ps) b
    some_later : (a : Expanded) (ps : ExpandedTypes) (b : Expanded) → SomeIsSubtype ps b → SomeIsSubtype (part a ps) b

  -- a subtype of each of the second types
  pub data IsSubtypeOfEach : Expanded → ExpandedTypes → Type 0 where
    of_each_none : (a : Expanded) → IsSubtypeOfEach a none
    of_each_more : (a b : Expanded) (qs : ExpandedTypes) → IsSubtype a b → IsSubtypeOfEach a qs → IsSubtypeOfEach a (part b qs)

  -- a subtype of some of the second types
  pub data IsSubtypeOfSome : Expanded → ExpandedTypes → Type 0 where
    of_some_here : (a b : Expanded) (qs : ExpandedTypes) → IsSubtype a b → IsSubtypeOfSome a (part b qs)
    of_some_later : (a b : Expanded) (qs : ExpandedTypes) → IsSubtypeOfSome a qs → IsSubtypeOfSome a (part b qs)
