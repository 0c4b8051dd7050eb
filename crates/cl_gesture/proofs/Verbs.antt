-- Where the verb of a line ends.
use Rattle.std.proofs.Common.{◌≡◌, ◌||◌, ◌+◌, ℕ, Bool, true, false, not, cond, suc, List, [], ◌∷◌, ◌++◌, get_or, append-nil, append_assoc, subst, length, take, drop, nat_lt, Option, Some, None, refl, sym, ap, ◌∙◌, arith}
use Rattle.std.specs.List.{list_any, position_or_len}
use Rattle.std.specs.Prelude.{position}
use Rattle.std.proofs.lemmas.Bool.{eqb-true}
use Rattle.std.proofs.lemmas.List.{take_more, take-append-drop}
use Rattle.std.proofs.lemmas.List.Quantifiers.{position-Some}
use Rattle.std.proofs.lemmas.Bool.Decides.{nat_tests}
use Rattle.std.proofs.lemmas.Grind.{common_steps}
use Rattle.cl_gesture.specs.Gesture.{is_space, verb_of, rest_of}

any_by : (space any : Bool) (k n : ℕ) → any ≡ nat_lt k n → (space || any) ≡ nat_lt (cond (not space) (1 + k) 0) (suc n)
any_by true any k n h = grind (arith, nat_tests, common_steps)
any_by false any k n h = grind (arith, nat_tests, common_steps)

-- there is a space exactly where its place is within the line
any_within : (xs : List ℕ) → list_any is_space xs ≡ nat_lt (position_or_len is_space xs) (length xs)
any_within [] = refl
any_within (x ∷ xs) = any_by (is_space x) (list_any is_space xs) (position_or_len is_space xs) (length xs) (any_within xs)

first_by : (line : List ℕ) (any : Bool) (k at : ℕ) → cond any (Some k) None ≡ Some at
    → (take at line ≡ take k line) × (Some (drop (at + 1) line) ≡ cond any (Some (drop (k + 1) line)) None)
first_by line true k at h = let same : at ≡ k = cc in (ap (λ n. take n line) same, ap (λ n. Some (drop (n + 1) line)) same)
first_by line false k at h = absurd (cc)

-- cut at the first space
pub cut-some : (line : List ℕ) (at : ℕ) → position is_space line ≡ Some at → (take at line ≡ verb_of line) × (Some (drop (at + 1) line) ≡ rest_of line)
cut-some line at h = rw (any_within line) (first_by line (nat_lt (position_or_len is_space line) (length line)) (position_or_len is_space line) at h)

none_by : (line : List ℕ) (any : Bool) (k : ℕ) → any ≡ nat_lt k (length line) → cond any (Some k) None ≡ None
    → (take k line ≡ line) × (cond any (Some (drop (k + 1) line)) None ≡ None)
none_by line true k is h = absurd (cc)
none_by line false k is h = (grind (arith, nat_tests, common_steps), refl)

-- no space
pub cut-none : (line : List ℕ) → position is_space line ≡ None → (verb_of line ≡ line) × (rest_of line ≡ None)
cut-none line h = rw (any_within line) (none_by line (nat_lt (position_or_len is_space line) (length line)) (position_or_len is_space line) refl h)

-- ---- a line is its verb and what stands behind

-- the space, and what stands behind it
abbrev pub behind : Option (List ℕ) → List ℕ
behind None = []
behind (Some rest) = 32 ∷ rest

rejoin_by : (line : List ℕ) (place : Option ℕ) → position is_space line ≡ place → line ≡ verb_of line ++ behind (rest_of line)
rejoin_by line None h =
    let parts = cut-none line h in let P : Option (List ℕ) → Type 0 = λ r. line ≡ verb_of line ++ behind r in
    subst P (sym parts.1) (sym (append-nil (verb_of line) ∙ parts.0))
rejoin_by line (Some at) h =
    let parts = cut-some line at h in let found = position-Some is_space line at 0 h in
    let space : get_or line at 0 ≡ 32 = eqb-true (get_or line at 0) 32 found.1 in
    let front : take (at + 1) line ≡ take at line ++ 32 ∷ [] = take_more line at 0 found.0 ∙ ap (λ b. take at line ++ b ∷ []) space in
    let whole : line ≡ take at line ++ 32 ∷ drop (at + 1) line =
    sym (take-append-drop (at + 1) line) ∙ ap (λ l. l ++ drop (at + 1) line) front ∙ append_assoc (take at line) (32 ∷ []) (drop (at + 1) line) in
    let P : List ℕ → Type 0 = λ verb. line ≡ verb ++ 32 ∷ drop (at + 1) line in
    let Q : Option (List ℕ) → Type 0 = λ r. line ≡ verb_of line ++ behind r in
    subst Q parts.1 (subst P parts.0 whole)

pub rejoin : (line : List ℕ) → line ≡ verb_of line ++ behind (rest_of line)
rejoin line = rejoin_by line (position is_space line) refl
