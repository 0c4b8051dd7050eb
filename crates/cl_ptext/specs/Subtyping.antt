-- Whether one type is a subtype of another, as an answer: the rules of subtypes, tried by cases on the heads of the two.
use Rattle.std.specs.Prelude.{ℕ, ℤ, Bool, true, false, ◌&&◌, ◌||◌, List, [], Option, Some, None}
use Rattle.std.specs.Cmp.Lexicographic.{pointwise}
use Rattle.std.specs.Ordering.{int_eq}
use Rattle.std.specs.Str.{bytes_eq}
use Rattle.cl_eval.specs.TypeMeanings.{Hierarchy}
use Rattle.cl_value.specs.Data.{Data}
use Rattle.cl_lattice.specs.Expanded.{Expanded, everything, nothing, boolean, symbols, blank_area, command, dialog_choice, integer, string, member, subset, sequence, some_of, each_of, null_or, token_or, record_type, host, user, unknown, ExpandedTypes, none, part}
use Rattle.cl_lattice.specs.Expansion.{expansion}
use Rattle.cl_lattice.specs.Members.{is_same}
use Rattle.cl_lattice.specs.Precedence.{listed, precedence}
use Rattle.cl_lattice.specs.Subtypes.{is_low_within, is_high_within, all_among, all_tokens}
use Rattle.cl_lattice.specs.World.{World}

-- ---- the same type

-- two that are the same, or none on both sides
abbrev pub are_same : {A : Type 0} → (A → A → Bool) → Option A → Option A → Bool
are_same same None None = true
are_same same (Some a) (Some b) = same a b
are_same same None (Some b) = false
are_same same (Some a) None = false

-- equal arguments, one by one
abbrev pub are_same_arguments : List (Option Data) → List (Option Data) → Bool
are_same_arguments vs ws = pointwise (are_same is_same) vs ws

abbrev mutual
  -- whether two types are equal
  pub is_same_type : Expanded → Expanded → Bool
  is_same_type everything everything = true
  is_same_type nothing nothing = true
  is_same_type boolean boolean = true
  is_same_type symbols symbols = true
  is_same_type blank_area blank_area = true
  is_same_type command command = true
  is_same_type dialog_choice dialog_choice = true
  is_same_type (integer low high) (integer low' high') = are_same int_eq low low' && are_same int_eq high high'
  is_same_type (string n) (string m) = are_same int_eq n m
  is_same_type (member cs) (member ds) = pointwise is_same cs ds
  is_same_type (subset cs) (subset ds) = pointwise is_same cs ds
  is_same_type (sequence a) (sequence b) = is_same_type a b
  is_same_type (some_of ps) (some_of qs) = are_same_types ps qs
  is_same_type (each_of ps) (each_of qs) = are_same_types ps qs
  is_same_type (null_or a) (null_or b) = is_same_type a b
  is_same_type (token_or xs a) (token_or ys b) = pointwise bytes_eq xs ys && is_same_type a b
  is_same_type (record_type x) (record_type y) = bytes_eq x y
  is_same_type (host x low high) (host y low' high') = bytes_eq x y && (int_eq low low' && int_eq high high')
  is_same_type (user x vs f a) (user y ws g b) = bytes_eq x y && (are_same_arguments vs ws && (are_same bytes_eq f g && is_same_type a b))
  is_same_type (unknown x vs) (unknown y ws) = bytes_eq x y && are_same_arguments vs ws
  is_same_type a b = false

  -- whether types are equal, one by one
  pub are_same_types : ExpandedTypes → ExpandedTypes → Bool
  are_same_types none none = true
  are_same_types (part a ps) (part b qs) = is_same_type a b && are_same_types ps qs
  are_same_types ps qs = false

-- ---- a subtype

-- texts of one length are texts
abbrev pub is_length_within : Option ℤ → Option ℤ → Bool
is_length_within n None = true
is_length_within None (Some other) = false
is_length_within (Some n) (Some other) = int_eq n other

-- numbers within these bounds are of the kind of the other type, by its arguments
abbrev pub are_numbers_of : (low high : Option ℤ) → Expanded → Bool
are_numbers_of low high (integer low' high') = is_low_within low low' && is_high_within high high'
are_numbers_of low high b = false

-- By the second type: down to a type that the first is `kind` to, or to an `and`, for each part of which there is a way. `first` says what goes
-- by the first type.
abbrev mutual
  pub is_by_second : (kind first : Expanded → Bool) → Expanded → Bool
  is_by_second kind first everything = true
  is_by_second kind first (some_of qs) = is_by_some kind first qs
  is_by_second kind first (each_of qs) = is_by_each kind first qs
  is_by_second kind first (null_or b) = kind (null_or b) || is_by_second kind first b
  is_by_second kind first (token_or ys b) = kind (token_or ys b) || is_by_second kind first b
  is_by_second kind first b = kind b

  -- by some of the second types
  pub is_by_some : (kind first : Expanded → Bool) → ExpandedTypes → Bool
  is_by_some kind first none = false
  is_by_some kind first (part b qs) = is_by_second kind first b || is_by_some kind first qs

  -- by each of the second types, or by the first type for it
  pub is_by_each : (kind first : Expanded → Bool) → ExpandedTypes → Bool
  is_by_each kind first none = true
  is_by_each kind first (part b qs) = (is_by_second kind first b || first b) && is_by_each kind first qs

-- by the second type or by the first
abbrev pub is_in_some_way : (kind first : Expanded → Bool) → Expanded → Bool
is_in_some_way kind first b = is_by_second kind first b || first b

abbrev mutual
  -- two types of one kind, by their arguments
  pub is_by_kind : Expanded → Expanded → Bool
  is_by_kind boolean boolean = true
  is_by_kind symbols symbols = true
  is_by_kind blank_area blank_area = true
  is_by_kind command command = true
  is_by_kind dialog_choice dialog_choice = true
  is_by_kind (integer low high) b = are_numbers_of low high b
  is_by_kind (string n) (string m) = is_length_within n m
  is_by_kind (member cs) (member ds) = all_among cs ds
  is_by_kind (subset cs) (subset ds) = all_among cs ds
  is_by_kind (sequence a) (sequence b) = is_in_some_way (is_by_kind a) (is_by_first a) b
  is_by_kind (null_or a) (null_or b) = is_in_some_way (is_by_kind a) (is_by_first a) b
  is_by_kind (token_or xs a) (token_or ys b) = all_tokens xs ys && is_in_some_way (is_by_kind a) (is_by_first a) b
  is_by_kind (record_type x) (record_type y) = bytes_eq x y
  is_by_kind (host x low high) (host y low' high') = bytes_eq x y && (int_eq low low' && int_eq high high')
  is_by_kind (user x vs f a) (user y ws g b) = is_same_type (user x vs f a) (user y ws g b)
  is_by_kind (unknown x vs) (unknown y ws) = bytes_eq x y && are_same_arguments vs ws
  is_by_kind a b = false

  -- by the parts of the first type, or by what it inherits from
  pub is_by_first : Expanded → Expanded → Bool
  is_by_first nothing b = true
  is_by_first (some_of ps) b = are_all_below ps b
  is_by_first (each_of ps) b = is_some_below ps b
  is_by_first (user x vs f a) b = is_in_some_way (is_by_kind a) (is_by_first a) b
  is_by_first (host x low high) b = is_in_some_way (are_numbers_of (Some low) (Some high)) (λ c. false) b
  is_by_first a b = false

  -- each of the first types is a subtype
  pub are_all_below : ExpandedTypes → Expanded → Bool
  are_all_below none b = true
  are_all_below (part a ps) b = is_in_some_way (is_by_kind a) (is_by_first a) b && are_all_below ps b

  -- some of the first types is one
  pub is_some_below : ExpandedTypes → Expanded → Bool
  is_some_below none b = false
  is_some_below (part a ps) b = is_in_some_way (is_by_kind a) (is_by_first a) b || is_some_below ps b

-- whether one type is a subtype of another
abbrev pub is_subtype : Expanded → Expanded → Bool
is_subtype a b = is_in_some_way (is_by_kind a) (is_by_first a) b

-- ---- the types of an application

-- which of them stand above which
abbrev pub hierarchy_in : World → Hierarchy
hierarchy_in w = record {
  precedence = λ x. listed (precedence w x);
  subtype = λ a b. is_subtype (expansion w [] a) (expansion w [] b);
}
