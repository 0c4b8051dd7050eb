-- A key that is made is what was sent.
use Rattle.std.proofs.Common.{◌≡◌, ℕ, ◌+◌, ◌≤◌, ◌==◌, ◌||◌, ◌&&◌, ◌⊎◌, ◌≢◌, not, inl, inr, Bool, true, false, cond, nat_le, List, [], ◌∷◌, ◌++◌, Option, Some, None, refl, sym, ap, subst, arith}
use Rattle.std.specs.Prelude.{option_map}
use Rattle.std.specs.Char.{is_ascii_alphabetic, is_ascii_lowercase, is_ascii_uppercase, to_ascii_lowercase}
use Rattle.std.proofs.lemmas.Bool.{and_parts, eqb-true, leb-true, or_cases}
use Rattle.std.proofs.lemmas.Bool.Decides.{nat_tests}
use Rattle.std.proofs.lemmas.Option.{same_Some}
use Rattle.cl_keys.specs.declared.keys.Key.{Key}
use Rattle.cl_keys.specs.declared.keys.Key.TheVariants as key
use Rattle.cl_keys.specs.declared.keys.Press.{Press}
use Rattle.cl_keys.specs.Decoding.{key_ended}
use Rattle.cl_keys.specs.Keys.{is_stroke, plain_key, stroke_of}
use Rattle.cl_keys.specs.Reports.{press_in}
use Rattle.cl_keys.specs.Spelling.{IsLetter, IsSpelledBy}
use Rattle.cl_keys.proofs.Reading.{press-sent}

-- a choice of a key, where either is spelled
chosen : (test : Bool) (this k : Key) (bytes : List ℕ) (other : Option Key) → (test ≡ true → IsSpelledBy this bytes) → (other ≡ Some k → IsSpelledBy k bytes)
    → cond test (Some this) other ≡ Some k → IsSpelledBy k bytes
chosen true this k bytes other here there h = subst (λ j. IsSpelledBy j bytes) (same_Some this k h) (here refl)
chosen false this k bytes other here there h = there h

-- one byte, which is one of two
either : (b m n : ℕ) → ((b == m) || (b == n)) ≡ true → (b ∷ [] ≡ m ∷ []) ⊎ (b ∷ [] ≡ n ∷ [])
either b m n h =
    elim (or_cases (b == m) (b == n) h) [ inl e ↦ inl (ap (λ x. x ∷ []) (eqb-true b m e)) | inr e ↦ inr (ap (λ x. x ∷ []) (eqb-true b n e)) ]

-- one byte, which is this one
just : (b m : ℕ) → (b == m) ≡ true → b ∷ [] ≡ m ∷ []
just b m h = ap (λ x. x ∷ []) (eqb-true b m h)

typed-sent : (b : ℕ) → (nat_le 32 b && nat_le b 126) ≡ true → IsSpelledBy (key.Typed b) (b ∷ [])
typed-sent b h = let parts = and_parts (nat_le 32 b) (nat_le b 126) h in (refl, leb-true 32 b parts.0, leb-true b 126 parts.1)

pub plain-sent : (b : ℕ) (k : Key) → plain_key b ≡ Some k → IsSpelledBy k (b ∷ [])
plain-sent b k h =
    chosen (nat_le 32 b && nat_le b 126) (key.Typed b) k (b ∷ []) _ (typed-sent b)
    (chosen ((b == 13) || (b == 10)) key.Return k (b ∷ []) _ (either b 13 10)
    (chosen ((b == 127) || (b == 8)) key.Rubout k (b ∷ []) _ (either b 127 8)
    (chosen (b == 21) key.Clear k (b ∷ []) _ (just b 21)
    (chosen (b == 12) key.Force k (b ∷ []) _ (just b 12)
    (chosen (b == 4) key.End k (b ∷ []) None (just b 4) (λ e. absurd (cc)))))))
    h

capital-sent : (b : ℕ) → is_ascii_uppercase b ≡ true → not (b == 79) ≡ true → IsLetter (to_ascii_lowercase b) b
capital-sent b h other =
    let parts = and_parts (nat_le 65 b) (nat_le b 90) h in
    let low : 65 ≤ b = leb-true 65 b parts.0 in let high : b ≤ 90 = leb-true b 90 parts.1 in
    let small : b + 32 ≡ to_ascii_lowercase b = grind (arith, nat_tests) in
    let apart : b ≢ 79 = grind (arith, nat_tests) in
    (omega (arith, low, small), omega (arith, high, small), inr (small, apart))

small-sent : (b : ℕ) → is_ascii_lowercase b ≡ true → IsLetter (to_ascii_lowercase b) b
small-sent b h =
    let parts = and_parts (nat_le 97 b) (nat_le b 122) h in
    let low : 97 ≤ b = leb-true 97 b parts.0 in let high : b ≤ 122 = leb-true b 122 parts.1 in
    let small : b ≡ to_ascii_lowercase b = grind (arith, nat_tests) in
    (omega (arith, low, small), omega (arith, high, small), inl small)

letter-sent : (b : ℕ) → is_stroke b ≡ true → IsLetter (to_ascii_lowercase b) b
letter-sent b h =
    let parts = and_parts (is_ascii_alphabetic b) (not (b == 79)) h in
    elim (or_cases (is_ascii_uppercase b) (is_ascii_lowercase b) parts.0) [ inl e ↦ capital-sent b e parts.1 | inr e ↦ small-sent b e ]

pub stroke-sent : (b : ℕ) (k : Key) → stroke_of b ≡ Some k → IsSpelledBy k (27 ∷ b ∷ [])
stroke-sent b k h = chosen (is_stroke b) (key.Stroke (to_ascii_lowercase b)) k (27 ∷ b ∷ []) None (λ e. (b, refl, letter-sent b e)) (λ e. absurd (cc)) h

press-by : (kept : List ℕ) (k : Key) (o : Option Press) → press_in kept ≡ o → option_map key.Press o ≡ Some k → IsSpelledBy k (27 ∷ 91 ∷ (kept ++ 77 ∷ []))
press-by kept k None is h = absurd (cc)
press-by kept k (Some p) is h = subst (λ j. IsSpelledBy j (27 ∷ 91 ∷ (kept ++ 77 ∷ []))) (same_Some (key.Press p) k h) (press-sent kept p is)

ended-by : (kept : List ℕ) (b : ℕ) (k : Key) (last : Bool) → (b == 77) ≡ last → cond last (option_map key.Press (press_in kept)) None ≡ Some k
    → IsSpelledBy k (27 ∷ 91 ∷ (kept ++ b ∷ []))
ended-by kept b k true last h =
    subst (λ n. IsSpelledBy k (27 ∷ 91 ∷ (kept ++ n ∷ []))) (sym (eqb-true b 77 last)) (press-by kept k (press_in kept) refl h)
ended-by kept b k false last h = absurd (cc)

pub ended-sent : (kept : List ℕ) (b : ℕ) (k : Key) → key_ended kept b ≡ Some k → IsSpelledBy k (27 ∷ 91 ∷ (kept ++ b ∷ []))
ended-sent kept b k h = ended-by kept b k (b == 77) refl h
