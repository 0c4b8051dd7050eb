-- The answer whether one type is a subtype of another is true exactly where it is one.
use Rattle.std.proofs.Common.{◌≡◌, ◌↔◌, ℕ, ℤ, Bool, true, false, List, [], refl, inl, inr, IsTrue, Decides}
use Rattle.std.specs.Prelude.{◌&&◌, ◌||◌, Option, Some, None}
use Rattle.std.specs.Ordering.{int_eq}
use Rattle.std.specs.Str.{bytes_eq}
use Rattle.std.proofs.lemmas.Bool.Decides.{Decides-and, Decides-int_eq, Decides-like, Decides-or, same_from_decides}
use Rattle.std.proofs.lemmas.Slice.Eq.{bytes_eq-Decides}
use Rattle.cl_lattice.specs.Expanded.{Expanded, everything, nothing, boolean, symbols, blank_area, command, dialog_choice, integer, string, member, subset, sequence, some_of, each_of, null_or, token_or, record_type, host, user, unknown, ExpandedTypes, none, part}
use Rattle.cl_lattice.specs.Expansion.{expansion}
use Rattle.cl_lattice.specs.Subtypes.{IsSubtype, is_low_within, is_high_within, all_among, all_tokens}
use Rattle.cl_lattice.specs.SubtypeWays.{IsLengthWithin, ByHeads, EachBelow, SomeBelow, BelowEach, ByFirst, BySecond, BySomeSecond}
use Rattle.cl_lattice.specs.World.{World}
use Rattle.cl_syntax.specs.TypeSpecTree.{TypeSpecTree}
use Rattle.cl_lattice.proofs.SubtypeWayLemmas.{InSomeWay, by_first_derived, by_second_derived, way}
use Rattle.cl_ptext.specs.Subtyping.{are_all_below, are_numbers_of, are_same_arguments, is_by_each, is_by_first, is_by_kind, is_by_second, is_by_some, is_in_some_way, is_length_within, is_some_below, is_subtype}
use Rattle.cl_ptext.proofs.SameTypeLemmas.{arguments_told, types_told}

yes : Decides true (Unit {0})
yes = (λ h. tt, λ h. refl)

no : Decides false ⊥
no = (λ h. absurd cc, λ h. absurd h)

plainly : (b : Bool) → Decides b (b ≡ true)
plainly b = (λ h. h, λ h. h)

length_decided : (n m : Option ℤ) → Decides (is_length_within n m) (IsLengthWithin n m)
length_decided n None = yes
length_decided None (Some m) = no
length_decided (Some n) (Some m) = Decides-int_eq n m

host_decided : (x y : List ℕ) (low low' high high' : ℤ)
    → Decides (bytes_eq x y && (int_eq low low' && int_eq high high')) ((x ≡ y) × (low ≡ low') × (high ≡ high'))
host_decided x y low low' high high' =
    Decides-like (bytes_eq x y && (int_eq low low' && int_eq high high')) (λ h. (h.0, h.1.0, h.1.1)) (λ h. (h.0, (h.1, h.2)))
    (Decides-and (bytes_eq x y) (int_eq low low' && int_eq high high') (bytes_eq-Decides x y)
    (Decides-and (int_eq low low') (int_eq high high') (Decides-int_eq low low') (Decides-int_eq high high')))

derived_in : (a b : Expanded) → InSomeWay a b → IsSubtype a b
derived_in a b (inl h) = by_second_derived a b h
derived_in a b (inr h) = by_first_derived a b h

-- in one of the ways, and derived
in_ways : (a b : Expanded) (second first : Bool) → Decides second (BySecond a b) → Decides first (ByFirst a b) → Decides (second || first) (IsSubtype a b)
in_ways a b second first d e = Decides-like (second || first) (derived_in a b) (way a b) (Decides-or second first d e)

-- ---- by the second type

module _ (a : Expanded) (kind first : Expanded → Bool) (k : (b : Expanded) → Decides (kind b) (ByHeads a b)) (f : (b : Expanded) → Decides (first b) (ByFirst a b)) where
  mutual
    pub second_decided : (b : Expanded) → Decides (is_by_second kind first b) (BySecond a b)
    second_decided everything = yes
    second_decided (some_of qs) = some_decided qs
    second_decided (each_of qs) = each_decided qs
    second_decided (null_or b) = Decides-or (kind (null_or b)) (is_by_second kind first b) (k (null_or b)) (second_decided b)
    second_decided (token_or ys b) = Decides-or (kind (token_or ys b)) (is_by_second kind first b) (k (token_or ys b)) (second_decided b)
    second_decided nothing = k nothing
    second_decided boolean = k boolean
    second_decided symbols = k symbols
    second_decided blank_area = k blank_area
    second_decided command = k command
    second_decided dialog_choice = k dialog_choice
    second_decided (integer low high) = k (integer low high)
    second_decided (string n) = k (string n)
    second_decided (member cs) = k (member cs)
    second_decided (subset cs) = k (subset cs)
    second_decided (sequence b) = k (sequence b)
    second_decided (record_type x) = k (record_type x)
    second_decided (host x low high) = k (host x low high)
    second_decided (user x vs p b) = k (user x vs p b)
    second_decided (unknown x vs) = k (unknown x vs)

    some_decided : (qs : ExpandedTypes) → Decides (is_by_some kind first qs) (BySomeSecond a qs)
    some_decided none = no
    some_decided (part b qs) = Decides-or (is_by_second kind first b) (is_by_some kind first qs) (second_decided b) (some_decided qs)

    each_decided : (qs : ExpandedTypes) → Decides (is_by_each kind first qs) (BelowEach a qs)
    each_decided none = yes
    each_decided (part b qs) =
        Decides-and (is_by_second kind first b || first b) (is_by_each kind first qs)
        (in_ways a b (is_by_second kind first b) (first b) (second_decided b) (f b)) (each_decided qs)

  pub way_decided : (b : Expanded) → Decides (is_in_some_way kind first b) (IsSubtype a b)
  way_decided b = in_ways a b (is_by_second kind first b) (first b) (second_decided b) (f b)

-- ---- numbers

numbers_of : (low high : Option ℤ) (b : Expanded) → Decides (are_numbers_of low high b) (ByHeads (integer low high) b)
numbers_of low high (integer low' high') =
    Decides-and (is_low_within low low') (is_high_within high high') (plainly (is_low_within low low')) (plainly (is_high_within high high'))
numbers_of low high b = no

numbers_decided : (low high : Option ℤ) (b : Expanded) → Decides (is_in_some_way (are_numbers_of low high) (λ c. false) b) (IsSubtype (integer low high) b)
numbers_decided low high b = way_decided (integer low high) (are_numbers_of low high) (λ c. false) (numbers_of low high) (λ c. no) b

-- ---- by the first type

mutual
  kind_decided : (a b : Expanded) → Decides (is_by_kind a b) (ByHeads a b)
  kind_decided boolean boolean = yes
  kind_decided symbols symbols = yes
  kind_decided blank_area blank_area = yes
  kind_decided command command = yes
  kind_decided dialog_choice dialog_choice = yes
  kind_decided (integer low high) b = numbers_of low high b
  kind_decided (string n) (string m) = length_decided n m
  kind_decided (member cs) (member ds) = plainly (all_among cs ds)
  kind_decided (subset cs) (subset ds) = plainly (all_among cs ds)
  kind_decided (sequence a) (sequence b) = way_decided a (is_by_kind a) (is_by_first a) (kind_decided a) (first_decided a) b
  kind_decided (null_or a) (null_or b) = way_decided a (is_by_kind a) (is_by_first a) (kind_decided a) (first_decided a) b
  kind_decided (token_or xs a) (token_or ys b) =
      Decides-and (all_tokens xs ys) (is_in_some_way (is_by_kind a) (is_by_first a) b) (plainly (all_tokens xs ys))
      (way_decided a (is_by_kind a) (is_by_first a) (kind_decided a) (first_decided a) b)
  kind_decided (record_type x) (record_type y) = bytes_eq-Decides x y
  kind_decided (host x low high) (host y low' high') = host_decided x y low low' high high'
  kind_decided (user x vs f a) (user y ws g b) = types_told (user x vs f a) (user y ws g b)
  kind_decided (unknown x vs) (unknown y ws) = Decides-and (bytes_eq x y) (are_same_arguments vs ws) (bytes_eq-Decides x y) (arguments_told vs ws)
  kind_decided a b = no

  first_decided : (a b : Expanded) → Decides (is_by_first a b) (ByFirst a b)
  first_decided nothing b = yes
  first_decided (some_of ps) b = all_decided ps b
  first_decided (each_of ps) b = any_decided ps b
  first_decided (user x vs f a) b = way_decided a (is_by_kind a) (is_by_first a) (kind_decided a) (first_decided a) b
  first_decided (host x low high) b = numbers_decided (Some low) (Some high) b
  first_decided a b = no

  all_decided : (ps : ExpandedTypes) (b : Expanded) → Decides (are_all_below ps b) (EachBelow ps b)
  all_decided none b = yes
  all_decided (part a ps) b =
      Decides-and (is_in_some_way (is_by_kind a) (is_by_first a) b) (are_all_below ps b)
      (way_decided a (is_by_kind a) (is_by_first a) (kind_decided a) (first_decided a) b) (all_decided ps b)

  any_decided : (ps : ExpandedTypes) (b : Expanded) → Decides (is_some_below ps b) (SomeBelow ps b)
  any_decided none b = no
  any_decided (part a ps) b =
      Decides-or (is_in_some_way (is_by_kind a) (is_by_first a) b) (is_some_below ps b)
      (way_decided a (is_by_kind a) (is_by_first a) (kind_decided a) (first_decided a) b) (any_decided ps b)

pub decided : (a b : Expanded) → Decides (is_subtype a b) (IsSubtype a b)
decided a b = way_decided a (is_by_kind a) (is_by_first a) (kind_decided a) (first_decided a) b

pub derived : (a b : Expanded) → (is_subtype a b ≡ true) ↔ IsSubtype a b
derived a b = decided a b

-- what is true exactly of subtypes is the answer
pub told : (w : World) (a b : TypeSpecTree) (r : Bool) → (IsTrue r ↔ IsSubtype (expansion w [] a) (expansion w [] b))
    → r ≡ is_subtype (expansion w [] a) (expansion w [] b)
told w a b r h = same_from_decides r (is_subtype (expansion w [] a) (expansion w [] b)) h (decided (expansion w [] a) (expansion w [] b))
