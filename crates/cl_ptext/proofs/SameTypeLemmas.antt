-- Types are called the same exactly where they are.
use Rattle.std.proofs.Common.{◌≡◌, ℕ, ℤ, Bool, true, List, refl, ap, subst, Decides}
use Rattle.std.specs.Prelude.{◌&&◌, Option, Some, None}
use Rattle.std.specs.Cmp.Lexicographic.{pointwise}
use Rattle.std.specs.Ordering.{int_eq}
use Rattle.std.specs.Str.{bytes_eq}
use Rattle.std.proofs.lemmas.Bool.Decides.{Decides-int_eq}
use Rattle.std.proofs.lemmas.Slice.Eq.{bytes_eq-Decides, slice_eq-Decides}
use Rattle.cl_value.specs.Data.{Data}
use Rattle.cl_lattice.specs.Expanded.{Expanded, everything, nothing, boolean, symbols, blank_area, command, dialog_choice, integer, string, member, subset, sequence, some_of, each_of, null_or, token_or, record_type, host, user, unknown, ExpandedTypes, none, part}
use Rattle.cl_lattice.specs.Members.{is_same}
use Rattle.cl_lattice.proofs.SubtypeConstantLemmas.{same_is, same_itself}
use Rattle.cl_lattice.proofs.SubtypeTests.{both_are, first_of_both, second_of_both}
use Rattle.cl_ptext.specs.Subtyping.{are_same, are_same_arguments, are_same_types, is_same_type}

-- a test that is true of the same alone
abbrev pub Tells : {A : Type 0} → (A → A → Bool) → Type 0
Tells {A} same = (a b : A) → Decides (same a b) (a ≡ b)

some-inj : {A : Type 0} (a b : A) → Some a ≡ Some b → a ≡ b
some-inj a b e = cc

pub options_told : {A : Type 0} (same : A → A → Bool) → Tells same → Tells (are_same same)
options_told same told None None = (λ h. refl, λ e. refl)
options_told same told (Some a) (Some b) = (λ h. ap Some ((told a b).0 h), λ e. (told a b).1 (some-inj a b e))
options_told same told None (Some b) = (λ h. absurd cc, λ e. absurd cc)
options_told same told (Some a) None = (λ h. absurd cc, λ e. absurd cc)

pub lists_told : {A : Type 0} (same : A → A → Bool) → Tells same → Tells (pointwise same)
lists_told same told xs ys = slice_eq-Decides told xs ys (pointwise same xs ys) refl

pub data_told : Tells is_same
data_told d e = (same_is d e, λ h. subst (λ x. is_same d x ≡ true) h (same_itself d))

pub numbers_told : Tells (are_same int_eq)
numbers_told = options_told int_eq Decides-int_eq

pub names_told : Tells (are_same bytes_eq)
names_told = options_told bytes_eq bytes_eq-Decides

pub arguments_told : Tells are_same_arguments
arguments_told = lists_told (are_same is_same) (options_told is_same data_told)

-- what is told to be the same is the same; what is the same is told so
was : {A : Type 0} (same : A → A → Bool) → Tells same → (a b : A) → same a b ≡ true → a ≡ b
was same told a b h = (told a b).0 h

itself : {A : Type 0} (same : A → A → Bool) → Tells same → (a : A) → same a a ≡ true
itself same told a = (told a a).1 refl

pub same_host : (x y : List ℕ) (low low' high high' : ℤ) → (bytes_eq x y && (int_eq low low' && int_eq high high')) ≡ true → host x low high ≡ host y low' high'
same_host x y low low' high high' h =
    let rest = second_of_both (bytes_eq x y) (int_eq low low' && int_eq high high') h in
    let names : x ≡ y = (bytes_eq-Decides x y).0 (first_of_both (bytes_eq x y) (int_eq low low' && int_eq high high') h) in
    let lows : low ≡ low' = (Decides-int_eq low low').0 (first_of_both (int_eq low low') (int_eq high high') rest) in
    let highs : high ≡ high' = (Decides-int_eq high high').0 (second_of_both (int_eq low low') (int_eq high high') rest) in
    λ i. host (names i) (lows i) (highs i)

pub same_unknown : (x y : List ℕ) (vs ws : List (Option Data)) → (bytes_eq x y && are_same_arguments vs ws) ≡ true → unknown x vs ≡ unknown y ws
same_unknown x y vs ws h =
    let names : x ≡ y = (bytes_eq-Decides x y).0 (first_of_both (bytes_eq x y) (are_same_arguments vs ws) h) in
    let values : vs ≡ ws = (arguments_told vs ws).0 (second_of_both (bytes_eq x y) (are_same_arguments vs ws) h) in
    λ i. unknown (names i) (values i)

mutual
  same_to : (a b : Expanded) → is_same_type a b ≡ true → a ≡ b
  same_to everything everything h = refl
  same_to nothing nothing h = refl
  same_to boolean boolean h = refl
  same_to symbols symbols h = refl
  same_to blank_area blank_area h = refl
  same_to command command h = refl
  same_to dialog_choice dialog_choice h = refl
  same_to (integer low high) (integer low' high') h =
      let lows : low ≡ low' = was (are_same int_eq) numbers_told low low' (first_of_both (are_same int_eq low low') (are_same int_eq high high') h) in
      let highs : high ≡ high' = was (are_same int_eq) numbers_told high high' (second_of_both (are_same int_eq low low') (are_same int_eq high high') h) in
      λ i. integer (lows i) (highs i)
  same_to (string n) (string m) h = ap string (was (are_same int_eq) numbers_told n m h)
  same_to (member cs) (member ds) h = ap member (was (pointwise is_same) (lists_told is_same data_told) cs ds h)
  same_to (subset cs) (subset ds) h = ap subset (was (pointwise is_same) (lists_told is_same data_told) cs ds h)
  same_to (sequence a) (sequence b) h = ap sequence (same_to a b h)
  same_to (some_of ps) (some_of qs) h = ap some_of (all_same_to ps qs h)
  same_to (each_of ps) (each_of qs) h = ap each_of (all_same_to ps qs h)
  same_to (null_or a) (null_or b) h = ap null_or (same_to a b h)
  same_to (token_or xs a) (token_or ys b) h =
      let names : xs ≡ ys = was (pointwise bytes_eq) (lists_told bytes_eq bytes_eq-Decides) xs ys (first_of_both (pointwise bytes_eq xs ys) (is_same_type a b) h) in
      let types : a ≡ b = same_to a b (second_of_both (pointwise bytes_eq xs ys) (is_same_type a b) h) in
      λ i. token_or (names i) (types i)
  same_to (record_type x) (record_type y) h = ap record_type ((bytes_eq-Decides x y).0 h)
  same_to (host x low high) (host y low' high') h = same_host x y low low' high high' h
  same_to (user x vs f a) (user y ws g b) h =
      let rest = second_of_both (bytes_eq x y) (are_same_arguments vs ws && (are_same bytes_eq f g && is_same_type a b)) h in
      let last = second_of_both (are_same_arguments vs ws) (are_same bytes_eq f g && is_same_type a b) rest in
      let names : x ≡ y = (bytes_eq-Decides x y).0 (first_of_both (bytes_eq x y) (are_same_arguments vs ws && (are_same bytes_eq f g && is_same_type a b)) h) in
      let values : vs ≡ ws = (arguments_told vs ws).0 (first_of_both (are_same_arguments vs ws) (are_same bytes_eq f g && is_same_type a b) rest) in
      let predicates : f ≡ g = (names_told f g).0 (first_of_both (are_same bytes_eq f g) (is_same_type a b) last) in
      let types : a ≡ b = same_to a b (second_of_both (are_same bytes_eq f g) (is_same_type a b) last) in
      λ i. user (names i) (values i) (predicates i) (types i)
  same_to (unknown x vs) (unknown y ws) h = same_unknown x y vs ws h
  same_to a b h = absurd cc

  all_same_to : (ps qs : ExpandedTypes) → are_same_types ps qs ≡ true → ps ≡ qs
  all_same_to none none h = refl
  all_same_to (part a ps) (part b qs) h =
      let first : a ≡ b = same_to a b (first_of_both (is_same_type a b) (are_same_types ps qs) h) in
      let rest : ps ≡ qs = all_same_to ps qs (second_of_both (is_same_type a b) (are_same_types ps qs) h) in
      λ i. part (first i) (rest i)
  all_same_to ps qs h = absurd cc

pub host_itself : (x : List ℕ) (low high : ℤ) → (bytes_eq x x && (int_eq low low && int_eq high high)) ≡ true
host_itself x low high =
    both_are (bytes_eq x x) (int_eq low low && int_eq high high) (itself bytes_eq bytes_eq-Decides x)
    (both_are (int_eq low low) (int_eq high high) (itself int_eq Decides-int_eq low) (itself int_eq Decides-int_eq high))

pub unknown_itself : (x : List ℕ) (vs : List (Option Data)) → (bytes_eq x x && are_same_arguments vs vs) ≡ true
unknown_itself x vs =
    both_are (bytes_eq x x) (are_same_arguments vs vs) (itself bytes_eq bytes_eq-Decides x) (itself are_same_arguments arguments_told vs)

mutual
  same_of : (a : Expanded) → is_same_type a a ≡ true
  same_of everything = refl
  same_of nothing = refl
  same_of boolean = refl
  same_of symbols = refl
  same_of blank_area = refl
  same_of command = refl
  same_of dialog_choice = refl
  same_of (integer low high) =
      both_are (are_same int_eq low low) (are_same int_eq high high) (itself (are_same int_eq) numbers_told low) (itself (are_same int_eq) numbers_told high)
  same_of (string n) = itself (are_same int_eq) numbers_told n
  same_of (member cs) = itself (pointwise is_same) (lists_told is_same data_told) cs
  same_of (subset cs) = itself (pointwise is_same) (lists_told is_same data_told) cs
  same_of (sequence a) = same_of a
  same_of (some_of ps) = all_same_of ps
  same_of (each_of ps) = all_same_of ps
  same_of (null_or a) = same_of a
  same_of (token_or xs a) =
      both_are (pointwise bytes_eq xs xs) (is_same_type a a) (itself (pointwise bytes_eq) (lists_told bytes_eq bytes_eq-Decides) xs) (same_of a)
  same_of (record_type x) = itself bytes_eq bytes_eq-Decides x
  same_of (host x low high) = host_itself x low high
  same_of (user x vs f a) =
      both_are (bytes_eq x x) (are_same_arguments vs vs && (are_same bytes_eq f f && is_same_type a a)) (itself bytes_eq bytes_eq-Decides x)
      (both_are (are_same_arguments vs vs) (are_same bytes_eq f f && is_same_type a a) (itself are_same_arguments arguments_told vs)
      (both_are (are_same bytes_eq f f) (is_same_type a a) (itself (are_same bytes_eq) names_told f) (same_of a)))
  same_of (unknown x vs) = unknown_itself x vs

  all_same_of : (ps : ExpandedTypes) → are_same_types ps ps ≡ true
  all_same_of none = refl
  all_same_of (part a ps) = both_are (is_same_type a a) (are_same_types ps ps) (same_of a) (all_same_of ps)

pub types_told : Tells is_same_type
types_told a b = (same_to a b, λ e. subst (λ x. is_same_type a x ≡ true) e (same_of a))
