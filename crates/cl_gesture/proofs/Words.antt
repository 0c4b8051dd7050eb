-- Words without a space, and where they end a line's part.
use Rattle.std.proofs.Common.{◌≡◌, ◌==◌, ◌+◌, not, ℕ, Bool, true, false, cond, suc, List, [], ◌∷◌, ◌++◌, length, take, drop, Some, None, All, refl, ap, ◌∙◌, arith}
use Rattle.std.specs.List.{list_all, list_any, position_or_len}
use Rattle.std.proofs.lemmas.Bool.{and_parts, and_from, ne_eqb, or_right, cond-true}
use Rattle.std.proofs.lemmas.Bool.Decides.{nat_tests}
use Rattle.std.proofs.lemmas.Grind.{common_steps}
use Rattle.std.proofs.lemmas.List.Elements.{All-nil, All-cons, All-head, All-tail}
use Rattle.cl_gesture.specs.Gesture.{is_space, is_no_space, is_word, verb_of, rest_of, IsNoSpace, IsWord}

no_space-true : (byte : ℕ) → is_no_space byte ≡ true → IsNoSpace byte
no_space-true byte h = grind (arith, nat_tests, common_steps)

no_space-yes : (byte : ℕ) → IsNoSpace byte → is_no_space byte ≡ true
no_space-yes byte h = grind (arith, nat_tests, common_steps)

pub have_no_space : (xs : List ℕ) → list_all is_no_space xs ≡ true → All IsNoSpace xs
have_no_space [] h = All-nil IsNoSpace
have_no_space (x ∷ xs) h =
    let parts = and_parts (is_no_space x) (list_all is_no_space xs) h in
    All-cons IsNoSpace x xs (no_space-true x parts.0) (have_no_space xs parts.1)

no_space_all : (xs : List ℕ) → All IsNoSpace xs → list_all is_no_space xs ≡ true
no_space_all [] h = refl
no_space_all (x ∷ xs) h =
    and_from (is_no_space x) (list_all is_no_space xs) (no_space-yes x (All-head IsNoSpace x xs h)) (no_space_all xs (All-tail IsNoSpace x xs h))

pub is_word-true : (bytes : List ℕ) → is_word bytes ≡ true → IsWord bytes
is_word-true [] h = absurd (cc)
is_word-true (x ∷ xs) h = (omega arith, have_no_space (x ∷ xs) (and_parts (not (length (x ∷ xs) == 0)) (list_all is_no_space (x ∷ xs)) h).1)

pub is_word-yes : (bytes : List ℕ) → IsWord bytes → is_word bytes ≡ true
is_word-yes [] h = absurd (omega arith)
is_word-yes (x ∷ xs) h = and_from (not (length (x ∷ xs) == 0)) (list_all is_no_space (x ∷ xs)) (ap not (ne_eqb (length (x ∷ xs)) 0 (λ e. omega (arith, e)))) (no_space_all (x ∷ xs) h.1)

-- ---- a word without a space, then a space: where they are cut

place_by : (space : Bool) (k n : ℕ) → space ≡ false → k ≡ n → cond (not space) (1 + k) 0 ≡ suc n
place_by true k n here rest = absurd (cc)
place_by false k n here rest = omega (arith, rest)

place_of_space : (word more : List ℕ) → All IsNoSpace word → position_or_len is_space (word ++ 32 ∷ more) ≡ length word
place_of_space [] more h = refl
place_of_space (x ∷ xs) more h =
    place_by (is_space x) (position_or_len is_space (xs ++ 32 ∷ more)) (length xs) (ne_eqb x 32 (All-head IsNoSpace x xs h)) (place_of_space xs more (All-tail IsNoSpace x xs h))

any_space : (word more : List ℕ) → list_any is_space (word ++ 32 ∷ more) ≡ true
any_space [] more = refl
any_space (x ∷ xs) more = or_right (is_space x) (list_any is_space (xs ++ 32 ∷ more)) (any_space xs more)

take_word : (word more : List ℕ) → take (length word) (word ++ 32 ∷ more) ≡ word
take_word [] more = refl
take_word (x ∷ xs) more = ap (λ l. x ∷ l) (take_word xs more)

drop_word : (word more : List ℕ) → drop (suc (length word)) (word ++ 32 ∷ more) ≡ more
drop_word [] more = refl
drop_word (x ∷ xs) more = drop_word xs more

pub cut-word : (word more : List ℕ) → All IsNoSpace word → verb_of (word ++ 32 ∷ more) ≡ word
cut-word word more h = ap (λ n. take n (word ++ 32 ∷ more)) (place_of_space word more h) ∙ take_word word more

pub cut-more : (word more : List ℕ) → All IsNoSpace word → rest_of (word ++ 32 ∷ more) ≡ Some more
cut-more word more h =
    let line = word ++ 32 ∷ more in let place = position_or_len is_space line in
    let behind : place + 1 ≡ suc (length word) = omega (arith, place_of_space word more h) in
    cond-true (list_any is_space line) (Some (drop (place + 1) line)) None (any_space word more) ∙ ap Some (ap (λ n. drop n line) behind ∙ drop_word word more)
