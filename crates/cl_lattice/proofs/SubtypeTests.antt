-- Tests of arguments: each is true of equal arguments, and what is a member by the first is one by the second.
use Rattle.std.proofs.Common.{◌≡◌, ℕ, ℤ, Bool, true, false, List, [], ◌∷◌, refl, ap, sym, ◌∙◌, arith, inl, inr}
use Rattle.std.specs.Prelude.{Option, Some, None, int_le, ◌&&◌, ◌||◌, ◌⊎◌}
use Rattle.std.specs.Str.{bytes_eq}
use Rattle.std.proofs.lemmas.Int.{ints}
use Rattle.std.proofs.lemmas.Slice.Eq.{bytes_eq-Decides}
use Rattle.cl_value.specs.Data.{Data, Items, none, item}
use Rattle.cl_lattice.specs.Members.{is_among, is_same, is_token, are_among, is_at_least, is_at_most}
use Rattle.cl_lattice.specs.Subtypes.{is_low_within, is_high_within, all_among, all_tokens}
use Rattle.cl_lattice.proofs.SubtypeConstantLemmas.{same_itself, same_is}

-- ---- truth tables

pub first_of_both : (a b : Bool) → (a && b) ≡ true → a ≡ true
first_of_both true b h = refl
first_of_both false b h = h

pub second_of_both : (a b : Bool) → (a && b) ≡ true → b ≡ true
second_of_both true b h = h
second_of_both false b h = cc

pub both_are : (a b : Bool) → a ≡ true → b ≡ true → (a && b) ≡ true
both_are true b h k = k
both_are false b h k = h

pub left_is : (a b : Bool) → a ≡ true → (a || b) ≡ true
left_is true b h = refl
left_is false b h = cc

pub right_is : (a b : Bool) → b ≡ true → (a || b) ≡ true
right_is true b h = refl
right_is false b h = h

pub one_is : (a b : Bool) → (a || b) ≡ true → (a ≡ true) ⊎ (b ≡ true)
one_is true b h = inl refl
one_is false b h = inr h

pub each_way : (a b c d : Bool) → (a ≡ true → c ≡ true) → (b ≡ true → d ≡ true) → (a || b) ≡ true → (c || d) ≡ true
each_way true b c d f g h = left_is c d (f refl)
each_way false b c d f g h = right_is c d (g h)

pub either_way : (a b c : Bool) → (a ≡ true → c ≡ true) → (b ≡ true → c ≡ true) → (a || b) ≡ true → c ≡ true
either_way true b c f g h = f refl
either_way false b c f g h = g h

pub both_ways : (a b c d : Bool) → (a ≡ true → c ≡ true) → (b ≡ true → d ≡ true) → (a && b) ≡ true → (c && d) ≡ true
both_ways a b c d f g h = both_are c d (f (first_of_both a b h)) (g (second_of_both a b h))

-- ---- bounds

le_itself : (a : ℤ) → int_le a a ≡ true
le_itself a = grind (arith, ints)

pub le_along : (a b c : ℤ) → int_le a b ≡ true → int_le b c ≡ true → int_le a c ≡ true
le_along a b c h k = grind (arith, ints, h, k)

pub low_itself : (low : Option ℤ) → is_low_within low low ≡ true
low_itself None = refl
low_itself (Some low) = le_itself low

pub high_itself : (high : Option ℤ) → is_high_within high high ≡ true
high_itself None = refl
high_itself (Some high) = le_itself high

pub low_lets : (low other : Option ℤ) (z : ℤ) → is_low_within low other ≡ true → is_at_least low z ≡ true → is_at_least other z ≡ true
low_lets low None z h k = refl
low_lets None (Some other) z h k = absurd cc
low_lets (Some low) (Some other) z h k = le_along other low z h k

pub high_lets : (high other : Option ℤ) (z : ℤ) → is_high_within high other ≡ true → is_at_most high z ≡ true → is_at_most other z ≡ true
high_lets high None z h k = refl
high_lets None (Some other) z h k = absurd cc
high_lets (Some high) (Some other) z h k = le_along z high other k h

-- ---- constants

one_more_among : (cs ds : List Data) (d : Data) → all_among cs ds ≡ true → all_among cs (d ∷ ds) ≡ true
one_more_among [] ds d h = refl
one_more_among (c ∷ cs) ds d h =
    both_are (is_among c (d ∷ ds)) (all_among cs (d ∷ ds)) (right_is (is_same c d) (is_among c ds) (first_of_both (is_among c ds) (all_among cs ds) h))
    (one_more_among cs ds d (second_of_both (is_among c ds) (all_among cs ds) h))

pub among_itself : (cs : List Data) → all_among cs cs ≡ true
among_itself [] = refl
among_itself (c ∷ cs) =
    both_are (is_among c (c ∷ cs)) (all_among cs (c ∷ cs)) (left_is (is_same c c) (is_among c cs) (same_itself c)) (one_more_among cs cs c (among_itself cs))

-- a value that is among the first constants is among the second
pub among_lets : (d : Data) (cs ds : List Data) → all_among cs ds ≡ true → is_among d cs ≡ true → is_among d ds ≡ true
among_lets d [] ds h k = absurd cc
among_lets d (c ∷ cs) ds h k =
    elim (one_is (is_same d c) (is_among d cs) k) [
      | inl same ↦ ap (λ x. is_among x ds) (same_is d c same) ∙ first_of_both (is_among c ds) (all_among cs ds) h
      | inr later ↦ among_lets d cs ds (second_of_both (is_among c ds) (all_among cs ds) h) later
    ]

pub all_among_lets : (es : Items) (cs ds : List Data) → all_among cs ds ≡ true → are_among es cs ≡ true → are_among es ds ≡ true
all_among_lets none cs ds h k = refl
all_among_lets (item e es) cs ds h k =
    both_ways (is_among e cs) (are_among es cs) (is_among e ds) (are_among es ds) (among_lets e cs ds h) (all_among_lets es cs ds h) k

-- ---- tokens

one_more_token : (xs ys : List (List ℕ)) (y : List ℕ) → all_tokens xs ys ≡ true → all_tokens xs (y ∷ ys) ≡ true
one_more_token [] ys y h = refl
one_more_token (x ∷ xs) ys y h =
    both_are (is_token (y ∷ ys) x) (all_tokens xs (y ∷ ys)) (right_is (bytes_eq y x) (is_token ys x) (first_of_both (is_token ys x) (all_tokens xs ys) h))
    (one_more_token xs ys y (second_of_both (is_token ys x) (all_tokens xs ys) h))

pub tokens_itself : (xs : List (List ℕ)) → all_tokens xs xs ≡ true
tokens_itself [] = refl
tokens_itself (x ∷ xs) =
    both_are (is_token (x ∷ xs) x) (all_tokens xs (x ∷ xs)) (left_is (bytes_eq x x) (is_token xs x) ((bytes_eq-Decides x x).1 refl)) (one_more_token xs xs x (tokens_itself xs))

pub tokens_let : (s : List ℕ) (xs ys : List (List ℕ)) → all_tokens xs ys ≡ true → is_token xs s ≡ true → is_token ys s ≡ true
tokens_let s [] ys h k = absurd cc
tokens_let s (x ∷ xs) ys h k =
    elim (one_is (bytes_eq x s) (is_token xs s) k) [
      | inl same ↦ ap (λ z. is_token ys z) (sym ((bytes_eq-Decides x s).0 same)) ∙ first_of_both (is_token ys x) (all_tokens xs ys) h
      | inr later ↦ tokens_let s xs ys (second_of_both (is_token ys x) (all_tokens xs ys) h) later
    ]
