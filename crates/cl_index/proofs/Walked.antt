-- Places of a list, kept by a test: of two lists behind one another, and the first and the last of them.
use Rattle.std.proofs.Common.{◌≡◌, ℕ, ◌+◌, ◌<◌, ◌≤◌, Bool, true, false, ◌&&◌, if◌then◌else◌, List, [], ◌∷◌, ◌++◌, length, reverse, Some, None, refl, sym, ◌∙◌, ap, subst, arith}
use Rattle.std.specs.Prelude.{nat_le, nat_lt, filter, All}
use Rattle.std.proofs.lemmas.Bool.Decides.{nat_tests}
use Rattle.std.proofs.lemmas.List.{reverse-append, reverse-reverse}
use Rattle.std.proofs.lemmas.List.Elements.{All-head, All-tail, filter-append}
use Rattle.cl_region.specs.declared.rects.Rect.{Rect}
use Rattle.cl_region.proofs.Corners.{and_left, and_right, both, none_held, false_holds}
use Rattle.cl_index.specs.Found.{places_from, places_where}
use Rattle.cl_index.specs.Boxes.{after, before, head_of}

pub le_true : (k n : ℕ) → k ≤ n → nat_le k n ≡ true
le_true k n h = grind (arith, nat_tests)

pub le_false : (k n : ℕ) → n < k → nat_le k n ≡ false
le_false k n h = grind (arith, nat_tests)

from_le : (k n : ℕ) → nat_le k n ≡ true → k ≤ n
from_le k n h = grind (arith, nat_tests)

lt_true : (k n : ℕ) → k < n → nat_lt k n ≡ true
lt_true k n h = grind (arith, nat_tests)

lt_false : (k n : ℕ) → n ≤ k → nat_lt k n ≡ false
lt_false k n h = grind (arith, nat_tests)

from_lt : (k n : ℕ) → nat_lt k n ≡ true → k < n
from_lt k n h = grind (arith, nat_tests)

and_false : (a b : Bool) → b ≡ false → a && b ≡ false
and_false true b h = h
and_false false b h = refl

-- ---- two lists behind one another

put_step : (b : Bool) (n : ℕ) (u v w x : List ℕ) → u ≡ v ++ w → w ≡ x → (if b then n ∷ u else u) ≡ (if b then n ∷ v else v) ++ x
put_step true n u v w x e f = cc
put_step false n u v w x e f = cc

pub places-append : (p : Rect → Bool) (n : ℕ) (xs ys : List Rect) → places_from p n (xs ++ ys) ≡ places_from p n xs ++ places_from p (n + length xs) ys
places-append p n [] ys = let e : n ≡ n + 0 = omega arith in ap (λ k. places_from p k ys) e
places-append p n (x ∷ xs) ys =
    let e : (n + 1) + length xs ≡ n + length (x ∷ xs) = omega arith in
    put_step (p x) n _ _ _ _ (places-append p (n + 1) xs ys) (ap (λ k. places_from p k ys) e)

pub after-append : (p : Rect → Bool) (k n : ℕ) (xs ys : List Rect) → after k p n (xs ++ ys) ≡ after k p n xs ++ after k p (n + length xs) ys
after-append p k n xs ys =
    ap (λ ns. filter (nat_le k) ns) (places-append p n xs ys) ∙ filter-append (nat_le k) (places_from p n xs) (places_from p (n + length xs) ys)

pub before-append : (p : Rect → Bool) (k n : ℕ) (xs ys : List Rect) → before k p n (xs ++ ys) ≡ before k p (n + length xs) ys ++ before k p n xs
before-append p k n xs ys =
    ap (λ ns. reverse (filter (λ i. nat_lt i k) ns)) (places-append p n xs ys)
    ∙ (ap (λ ns. reverse ns) (filter-append (λ i. nat_lt i k) (places_from p n xs) (places_from p (n + length xs) ys))
    ∙ reverse-append (filter (λ i. nat_lt i k) (places_from p n xs)) (filter (λ i. nat_lt i k) (places_from p (n + length xs) ys)))

-- ---- no place

pub places_none : (p : Rect → Bool) (n : ℕ) (rs : List Rect) → All (λ r. p r ≡ false) rs → places_from p n rs ≡ []
places_none p n [] h = refl
places_none p n (r ∷ rs) h =
    let e : p r ≡ false = All-head (λ r. p r ≡ false) r rs h in
    let f : places_from p (n + 1) rs ≡ [] = places_none p (n + 1) rs (All-tail (λ r. p r ≡ false) r rs h) in
    rw e f

put_few : (b : Bool) (n m : ℕ) (u : List ℕ) → length u ≤ m → length (if b then n ∷ u else u) ≤ m + 1
put_few true n m u h = omega arith
put_few false n m u h = omega arith

pub few_places : (p : Rect → Bool) (n : ℕ) (rs : List Rect) → length (places_from p n rs) ≤ length rs
few_places p n [] = omega arith
few_places p n (r ∷ rs) = let h = put_few (p r) n (length rs) _ (few_places p (n + 1) rs) in omega arith

-- ---- one place more

filter_true : (ns : List ℕ) → filter (λ i. true) ns ≡ ns
filter_true [] = refl
filter_true (n ∷ ns) = ap (λ ms. n ∷ ms) (filter_true ns)

keep_step : (q : ℕ → Bool) (b : Bool) (n : ℕ) (u : List ℕ) → filter q (if b then n ∷ u else u) ≡ (if b && q n then n ∷ filter q u else filter q u)
keep_step q true n u = refl
keep_step q false n u = refl

kept-cons : (q : ℕ → Bool) (p : Rect → Bool) (n : ℕ) (r : Rect) (rs : List Rect)
    → filter q (places_from p n (r ∷ rs)) ≡ (if p r && q n then n ∷ filter q (places_from p (n + 1) rs) else filter q (places_from p (n + 1) rs))
kept-cons q p n r rs = keep_step q (p r) n (places_from p (n + 1) rs)

kept-in : (q : ℕ → Bool) (p : Rect → Bool) (n : ℕ) (r : Rect) (rs : List Rect) → p r && q n ≡ true
    → filter q (places_from p n (r ∷ rs)) ≡ n ∷ filter q (places_from p (n + 1) rs)
kept-in q p n r rs h = kept-cons q p n r rs ∙ rw h refl

kept-out : (q : ℕ → Bool) (p : Rect → Bool) (n : ℕ) (r : Rect) (rs : List Rect) → p r && q n ≡ false
    → filter q (places_from p n (r ∷ rs)) ≡ filter q (places_from p (n + 1) rs)
kept-out q p n r rs h = kept-cons q p n r rs ∙ rw h refl

pub by_bool : {P : Type 0} (b : Bool) → (b ≡ true → P) → (b ≡ false → P) → P
by_bool true f g = f refl
by_bool false f g = g refl

same_if : (b : Bool) (n : ℕ) (u v : List ℕ) → u ≡ v → (if b then n ∷ u else u) ≡ (if b then n ∷ v else v)
same_if true n u v e = cc
same_if false n u v e = e

pub kept-same : (q s : ℕ → Bool) (p : Rect → Bool) (n : ℕ) (rs : List Rect) → ((i : ℕ) → n ≤ i → i < n + length rs → q i ≡ s i)
    → filter q (places_from p n rs) ≡ filter s (places_from p n rs)
kept-same q s p n [] h = refl
kept-same q s p n (r ∷ rs) h =
    let e : q n ≡ s n = h n (omega arith) (omega arith) in
    let f : filter q (places_from p (n + 1) rs) ≡ filter s (places_from p (n + 1) rs) = kept-same q s p (n + 1) rs (λ i low high. h i (omega arith) (omega arith)) in
    kept-cons q p n r rs ∙ (rw e (same_if (p r && s n) n _ _ f) ∙ sym (kept-cons s p n r rs))

pub kept-none : (q : ℕ → Bool) (p : Rect → Bool) (n : ℕ) (rs : List Rect) → ((i : ℕ) → n ≤ i → i < n + length rs → q i ≡ false)
    → filter q (places_from p n rs) ≡ []
kept-none q p n [] h = refl
kept-none q p n (r ∷ rs) h =
    kept-out q p n r rs (and_false (p r) (q n) (h n (omega arith) (omega arith)))
    ∙ kept-none q p (n + 1) rs (λ i low high. h i (omega arith) (omega arith))

pub kept_all : (q : ℕ → Bool) (p : Rect → Bool) (n : ℕ) (rs : List Rect) → ((i : ℕ) → n ≤ i → i < n + length rs → q i ≡ true)
    → filter q (places_from p n rs) ≡ places_from p n rs
kept_all q p n rs h = kept-same q (λ i. true) p n rs h ∙ filter_true (places_from p n rs)

pub after-none : (p : Rect → Bool) (k n : ℕ) (rs : List Rect) → n + length rs ≤ k → after k p n rs ≡ []
after-none p k n rs h = kept-none (nat_le k) p n rs (λ i low high. le_false k i (omega arith))

pub before-none : (p : Rect → Bool) (k n : ℕ) (rs : List Rect) → k ≤ n → before k p n rs ≡ []
before-none p k n rs h = ap (λ ns. reverse ns) (kept-none (λ i. nat_lt i k) p n rs (λ i low high. lt_false i k (omega arith)))

-- ---- the first place, and those behind it

-- i is the first place from k on, and the others are those behind it
pub record IsNext (p : Rect → Bool) (k n : ℕ) (rs : List Rect) (i : ℕ) (others : List ℕ) : Type 0 where
  pub from : k ≤ i
  pub low : n ≤ i
  pub high : i < n + length rs
  pub others_are : others ≡ after (i + 1) p n rs

next_here : (p : Rect → Bool) (k n : ℕ) (r : Rect) (rs : List Rect) → p r && nat_le k n ≡ true → IsNext p k n (r ∷ rs) n (after k p (n + 1) rs)
next_here p k n r rs h =
    let le : k ≤ n = from_le k n (and_right (p r) (nat_le k n) h) in
    record {
      from = le;
      low = omega arith;
      high = omega arith;
      others_are = kept-same (nat_le k) (nat_le (n + 1)) p (n + 1) rs (λ i low high. le_true k i (omega arith) ∙ sym (le_true (n + 1) i (omega arith)))
          ∙ sym (kept-out (nat_le (n + 1)) p n r rs (and_false (p r) (nat_le (n + 1) n) (le_false (n + 1) n (omega arith))));
    }

next_later : (p : Rect → Bool) (k n : ℕ) (r : Rect) (rs : List Rect) (i : ℕ) (t : List ℕ) → IsNext p k (n + 1) rs i t → IsNext p k n (r ∷ rs) i t
next_later p k n r rs i t w = record {
  from = w.from;
  low = omega (arith, w.low);
  high = omega (arith, w.high);
  others_are = w.others_are ∙ sym (kept-out (nat_le (i + 1)) p n r rs (and_false (p r) (nat_le (i + 1) n) (le_false (i + 1) n (omega (arith, w.low)))));
}

next_same : (p : Rect → Bool) (k n : ℕ) (rs : List Rect) (m i : ℕ) (u t : List ℕ) → m ∷ u ≡ i ∷ t → IsNext p k n rs m u → IsNext p k n rs i t
next_same p k n rs m i u t e w = let f : m ≡ i = cc in let g : u ≡ t = cc in subst (λ v. IsNext p k n rs i v) g (subst (λ j. IsNext p k n rs j u) f w)

pub next_is : (p : Rect → Bool) (k n : ℕ) (rs : List Rect) (i : ℕ) (t : List ℕ) → after k p n rs ≡ i ∷ t → IsNext p k n rs i t
next_is p k n [] i t e = absurd cc
next_is p k n (r ∷ rs) i t e =
    by_bool (p r && nat_le k n)
    (λ h. next_same p k n (r ∷ rs) n i _ t (sym (kept-in (nat_le k) p n r rs h) ∙ e) (next_here p k n r rs h))
    (λ h. next_later p k n r rs i t (next_is p k (n + 1) rs i t (sym (kept-out (nat_le k) p n r rs h) ∙ e)))

-- ---- the last place, and those before it

-- i is the last place before k, and the others are those before it
pub record IsLast (p : Rect → Bool) (k n : ℕ) (rs : List Rect) (others : List ℕ) (i : ℕ) : Type 0 where
  pub to : i < k
  pub low : n ≤ i
  pub others_are : filter (λ j. nat_lt j i) (places_from p n rs) ≡ others

last_only : (p : Rect → Bool) (k n : ℕ) (rs : List Rect) → n < k → IsLast p k n rs [] n
last_only p k n rs h = record { to = h; low = omega arith; others_are = kept-none (λ j. nat_lt j n) p n rs (λ i low high. lt_false i n low) }

last_more : (p : Rect → Bool) (k n : ℕ) (r : Rect) (rs : List Rect) (a : List ℕ) (i : ℕ) → p r ≡ true → IsLast p k (n + 1) rs a i → IsLast p k n (r ∷ rs) (n ∷ a) i
last_more p k n r rs a i h w = record {
  to = w.to;
  low = omega (arith, w.low);
  others_are = kept-in (λ j. nat_lt j i) p n r rs (both (p r) (nat_lt n i) h (lt_true n i (omega (arith, w.low)))) ∙ ap (λ ns. n ∷ ns) w.others_are;
}

last_later : (p : Rect → Bool) (k n : ℕ) (r : Rect) (rs : List Rect) (a : List ℕ) (i : ℕ) → p r && nat_lt n k ≡ false → IsLast p k (n + 1) rs a i → IsLast p k n (r ∷ rs) a i
last_later p k n r rs a i h w =
    let out : p r && nat_lt n i ≡ false =
    none_held (p r && nat_lt n i) (λ t. false_holds (p r && nat_lt n k) h
    (both (p r) (nat_lt n k) (and_left (p r) (nat_lt n i) t) (lt_true n k (omega (arith, w.low, w.to))))) in
    record { to = w.to; low = omega (arith, w.low); others_are = kept-out (λ j. nat_lt j i) p n r rs out ∙ w.others_are }

last_cases : (p : Rect → Bool) (k n : ℕ) (r : Rect) (rs : List Rect) (a : List ℕ) (i : ℕ) → p r && nat_lt n k ≡ true
    → ((b : List ℕ) → filter (λ j. nat_lt j k) (places_from p (n + 1) rs) ≡ b ++ i ∷ [] → IsLast p k (n + 1) rs b i)
    → n ∷ filter (λ j. nat_lt j k) (places_from p (n + 1) rs) ≡ a ++ i ∷ [] → IsLast p k n (r ∷ rs) a i
last_cases p k n r rs [] i h f e =
    let g : n ≡ i = cc in
    subst (λ j. IsLast p k n (r ∷ rs) [] j) g (last_only p k n (r ∷ rs) (from_lt n k (and_right (p r) (nat_lt n k) h)))
last_cases p k n r rs (m ∷ a) i h f e =
    let g : n ≡ m = cc in
    let t : filter (λ j. nat_lt j k) (places_from p (n + 1) rs) ≡ a ++ i ∷ [] = cc in
    subst (λ j. IsLast p k n (r ∷ rs) (j ∷ a) i) g (last_more p k n r rs a i (and_left (p r) (nat_lt n k) h) (f a t))

none_behind : {P : Type 0} (a : List ℕ) (i : ℕ) → [] ≡ a ++ i ∷ [] → P
none_behind [] i e = absurd cc
none_behind (m ∷ a) i e = absurd cc

pub last_is : (p : Rect → Bool) (k n : ℕ) (rs : List Rect) (a : List ℕ) (i : ℕ) → filter (λ j. nat_lt j k) (places_from p n rs) ≡ a ++ i ∷ [] → IsLast p k n rs a i
last_is p k n [] a i e = none_behind a i e
last_is p k n (r ∷ rs) a i e =
    by_bool (p r && nat_lt n k)
    (λ h. last_cases p k n r rs a i h (λ b f. last_is p k (n + 1) rs b i f) (sym (kept-in (λ j. nat_lt j k) p n r rs h) ∙ e))
    (λ h. last_later p k n r rs a i h (last_is p k (n + 1) rs a i (sym (kept-out (λ j. nat_lt j k) p n r rs h) ∙ e)))

-- ---- the first of a list

pub head_none : (ns : List ℕ) → head_of ns ≡ None → ns ≡ []
head_none [] e = refl
head_none (n ∷ ns) e = absurd cc

-- the first of a list, and the others
record Parts (ns : List ℕ) (i : ℕ) : Type 0 where
  others : List ℕ
  parts : ns ≡ i ∷ others

parts_of : (ns : List ℕ) (i : ℕ) → head_of ns ≡ Some i → Parts ns i
parts_of [] i e = absurd cc
parts_of (n ∷ ns) i e = record { others = ns; parts = let f : n ≡ i = cc in ap (λ m. m ∷ ns) f }

pub head-append : (ms ns : List ℕ) (i : ℕ) → head_of ms ≡ Some i → head_of (ms ++ ns) ≡ Some i
head-append [] ns i e = absurd cc
head-append (m ∷ ms) ns i e = e

pub head_behind : (ms ns : List ℕ) → ms ≡ [] → head_of (ms ++ ns) ≡ head_of ns
head_behind ms ns e = rw e refl

-- the first place from k on lies in the list, and those behind it follow
pub next_after : (p : Rect → Bool) (k : ℕ) (rs : List Rect) (i : ℕ) → head_of (after k p 0 rs) ≡ Some i → (i < length rs) × (after k p 0 rs ≡ i ∷ after (i + 1) p 0 rs)
next_after p k rs i e =
    let w = parts_of (after k p 0 rs) i e in
    let v = next_is p k 0 rs i w.others w.parts in
    (omega (arith, v.high), w.parts ∙ ap (λ ns. i ∷ ns) v.others_are)

-- the last place before k, and those before it follow
pub next_before : (p : Rect → Bool) (k : ℕ) (rs : List Rect) (i : ℕ) → head_of (before k p 0 rs) ≡ Some i → before k p 0 rs ≡ i ∷ before i p 0 rs
next_before p k rs i e =
    let w = parts_of (before k p 0 rs) i e in
    let kept = filter (λ j. nat_lt j k) (places_from p 0 rs) in
    let back : kept ≡ reverse w.others ++ i ∷ [] =
    sym (reverse-reverse kept) ∙ (ap (λ ns. reverse ns) w.parts ∙ reverse-append (i ∷ []) w.others) in
    let v = last_is p k 0 rs (reverse w.others) i back in
    w.parts ∙ ap (λ ns. i ∷ ns) (sym (ap (λ ns. reverse ns) v.others_are ∙ reverse-reverse w.others))

pub all_after : (p : Rect → Bool) (rs : List Rect) → after 0 p 0 rs ≡ places_where p rs
all_after p rs = kept_all (nat_le 0) p 0 rs (λ i low high. le_true 0 i (omega arith))

pub all_before : (p : Rect → Bool) (k : ℕ) (rs : List Rect) → length rs ≤ k → before k p 0 rs ≡ reverse (places_where p rs)
all_before p k rs h = ap (λ ns. reverse ns) (kept_all (λ i. nat_lt i k) p 0 rs (λ i low high. lt_true i k (omega arith)))

-- ---- one after another

after_skip : (p : Rect → Bool) (k n m : ℕ) (r : Rect) (rs : List Rect) → m ≡ n + 1 → p r && nat_le k n ≡ false → after k p m rs ≡ after k p n (r ∷ rs)
after_skip p k n m r rs e h = ap (λ j. after k p j rs) e ∙ sym (kept-out (nat_le k) p n r rs h)

pub after_early : (p : Rect → Bool) (k n m : ℕ) (r : Rect) (rs : List Rect) → m ≡ n + 1 → n < k → after k p m rs ≡ after k p n (r ∷ rs)
after_early p k n m r rs e h = after_skip p k n m r rs e (and_false (p r) (nat_le k n) (le_false k n h))

pub after_fails : (p : Rect → Bool) (k n m : ℕ) (r : Rect) (rs : List Rect) → m ≡ n + 1 → p r ≡ false → after k p m rs ≡ after k p n (r ∷ rs)
after_fails p k n m r rs e h = after_skip p k n m r rs e (rw h refl)

before_one : (p : Rect → Bool) (k n m : ℕ) (rs : List Rect) (r : Rect) → m ≡ n + length rs → before k p n (rs ++ r ∷ []) ≡ before k p m (r ∷ []) ++ before k p n rs
before_one p k n m rs r e = before-append p k n rs (r ∷ []) ∙ ap (λ j. before k p j (r ∷ []) ++ before k p n rs) (sym e)

pub before_here : (p : Rect → Bool) (k n m : ℕ) (rs : List Rect) (r : Rect) → m ≡ n + length rs → p r ≡ true → m < k → Some m ≡ head_of (before k p n (rs ++ r ∷ []))
before_here p k n m rs r e h less =
    let one : before k p m (r ∷ []) ≡ m ∷ [] = ap (λ ns. reverse ns) (kept-in (λ j. nat_lt j k) p m r [] (both (p r) (nat_lt m k) h (lt_true m k less))) in
    sym (ap head_of (before_one p k n m rs r e ∙ ap (λ ns. ns ++ before k p n rs) one))

before_skip : (p : Rect → Bool) (k n m : ℕ) (rs : List Rect) (r : Rect) → m ≡ n + length rs → p r && nat_lt m k ≡ false → before k p n rs ≡ before k p n (rs ++ r ∷ [])
before_skip p k n m rs r e h =
    let none : before k p m (r ∷ []) ≡ [] = ap (λ ns. reverse ns) (kept-out (λ j. nat_lt j k) p m r [] h) in
    sym (before_one p k n m rs r e ∙ ap (λ ns. ns ++ before k p n rs) none)

pub before_late : (p : Rect → Bool) (k n m : ℕ) (rs : List Rect) (r : Rect) → m ≡ n + length rs → k ≤ m → before k p n rs ≡ before k p n (rs ++ r ∷ [])
before_late p k n m rs r e h = before_skip p k n m rs r e (and_false (p r) (nat_lt m k) (lt_false m k h))

pub before_fails : (p : Rect → Bool) (k n m : ℕ) (rs : List Rect) (r : Rect) → m ≡ n + length rs → p r ≡ false → before k p n rs ≡ before k p n (rs ++ r ∷ [])
before_fails p k n m rs r e h = before_skip p k n m rs r e (rw h refl)
