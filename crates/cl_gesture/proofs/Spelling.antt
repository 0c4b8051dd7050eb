-- A line does a gesture exactly where it is a spelling of that gesture.
use Rattle.std.proofs.Common.{◌≡◌, ◌==◌, not, ℕ, Bool, true, false, cond, List, [], ◌∷◌, ◌++◌, length, codes, Option, Some, None, option_map, unwrap_or, All, append-nil, refl, ap, sym, subst, ◌∙◌, arith}
use Rattle.std.specs.List.{list_all}
use Rattle.std.specs.Str.{bytes_eq}
use Rattle.std.proofs.lemmas.Slice.Eq.{bytes_eq-Decides}
use Rattle.std.proofs.lemmas.Bool.Decides.{nat_tests}
use Rattle.std.proofs.lemmas.Grind.{common_steps}
use Rattle.std.proofs.lemmas.List.Elements.{All-nil, All-cons, All-head, All-tail}
use Rattle.std.proofs.lemmas.Bool.{and_parts, and_from, ne_eqb}
use Rattle.cl_gesture.specs.declared.answers.Gesture.{Gesture}
use Rattle.cl_gesture.specs.declared.answers.Gesture.TheVariants as gesture
use Rattle.cl_gesture.specs.declared.answers.PointAt.{PointAt}
use Rattle.cl_gesture.specs.Gesture.{idle, bad, does, is_idle, is_printable, is_typable, is_word, verb_of, rest_of, alone, asking, point_in, pointing, pressing, typing, verb_says, says, IsPrintable, IsTypable, IsSpelling, SpellsPoint, AreSpelled}
use Rattle.cl_gesture.proofs.Points.{point_said, point_spelled}
use Rattle.cl_gesture.proofs.Verbs.{behind, rejoin}
use Rattle.cl_gesture.proofs.Words.{is_word-true, is_word-yes}

is_printable-true : (byte : ℕ) → is_printable byte ≡ true → IsPrintable byte
is_printable-true byte h = grind (arith, nat_tests, common_steps)

is_printable-yes : (byte : ℕ) → IsPrintable byte → is_printable byte ≡ true
is_printable-yes byte h = grind (arith, nat_tests, common_steps)

are_printable : (xs : List ℕ) → list_all is_printable xs ≡ true → All IsPrintable xs
are_printable [] h = All-nil IsPrintable
are_printable (x ∷ xs) h =
    let parts = and_parts (is_printable x) (list_all is_printable xs) h in
    All-cons IsPrintable x xs (is_printable-true x parts.0) (are_printable xs parts.1)

printable_all : (xs : List ℕ) → All IsPrintable xs → list_all is_printable xs ≡ true
printable_all [] h = refl
printable_all (x ∷ xs) h =
    and_from (is_printable x) (list_all is_printable xs) (is_printable-yes x (All-head IsPrintable x xs h)) (printable_all xs (All-tail IsPrintable x xs h))

is_typable-true : (text : List ℕ) → is_typable text ≡ true → IsTypable text
is_typable-true [] h = absurd (cc)
is_typable-true (x ∷ xs) h = (omega arith, are_printable (x ∷ xs) (and_parts (not (length (x ∷ xs) == 0)) (list_all is_printable (x ∷ xs)) h).1)

is_typable-yes : (text : List ℕ) → IsTypable text → is_typable text ≡ true
is_typable-yes [] h = absurd (omega arith)
is_typable-yes (x ∷ xs) h = and_from (not (length (x ∷ xs) == 0)) (list_all is_printable (x ∷ xs)) (ap not (ne_eqb (length (x ∷ xs)) 0 (λ e. omega (arith, e)))) (printable_all (x ∷ xs) h.1)

same_gesture : (bytes : List ℕ) (g h : Gesture) → g ≡ h → IsSpelling bytes g → IsSpelling bytes h
same_gesture bytes g h e s = let P : Gesture → Type 0 = λ k. IsSpelling bytes k in subst P e s

-- ---- a gesture that is said is spelled

alone_spelled : (verb : List ℕ) (rest : Option (List ℕ)) (g h : Gesture) → IsSpelling verb g → alone g rest ≡ does h → IsSpelling (verb ++ behind rest) h
alone_spelled verb None g h is same =
    let P : List ℕ → Type 0 = λ bytes. IsSpelling bytes g in same_gesture (verb ++ []) g h (cc) (subst P (sym (append-nil verb)) is)
alone_spelled verb (Some rest) g h is same = absurd (cc)

asking_by : (verb name : List ℕ) (h : Gesture) (word : Bool) → is_word name ≡ word → verb ≡ codes "history" → cond word (does (gesture.History name)) bad ≡ does h
    → IsSpelling (verb ++ 32 ∷ name) h
asking_by verb name h true word is same =
    same_gesture (verb ++ 32 ∷ name) (gesture.History name) h (cc) (ap (λ v. v ++ 32 ∷ name) is, is_word-true name word)
asking_by verb name h false word is same = absurd (cc)

asking_spelled : (verb : List ℕ) (rest : Option (List ℕ)) (h : Gesture) → verb ≡ codes "history" → asking rest ≡ does h → IsSpelling (verb ++ behind rest) h
asking_spelled verb None h is same = absurd (cc)
asking_spelled verb (Some name) h is same = asking_by verb name h (is_word name) refl is same

pressing_by : (verb name : List ℕ) (h : Gesture) (word : Bool) → is_word name ≡ word → verb ≡ codes "stroke" → cond word (does (gesture.Stroke name)) bad ≡ does h
    → IsSpelling (verb ++ 32 ∷ name) h
pressing_by verb name h true word is same =
    same_gesture (verb ++ 32 ∷ name) (gesture.Stroke name) h (cc) (ap (λ v. v ++ 32 ∷ name) is, is_word-true name word)
pressing_by verb name h false word is same = absurd (cc)

pressing_spelled : (verb : List ℕ) (rest : Option (List ℕ)) (h : Gesture) → verb ≡ codes "stroke" → pressing rest ≡ does h → IsSpelling (verb ++ behind rest) h
pressing_spelled verb None h is same = absurd (cc)
pressing_spelled verb (Some name) h is same = pressing_by verb name h (is_word name) refl is same

typing_by : (verb text : List ℕ) (h : Gesture) (typable : Bool) → is_typable text ≡ typable → verb ≡ codes "type" → cond typable (does (gesture.«Type» text)) bad ≡ does h
    → IsSpelling (verb ++ 32 ∷ text) h
typing_by verb text h true typable is same =
    same_gesture (verb ++ 32 ∷ text) (gesture.«Type» text) h (cc) (ap (λ v. v ++ 32 ∷ text) is, is_typable-true text typable)
typing_by verb text h false typable is same = absurd (cc)

typing_spelled : (verb : List ℕ) (rest : Option (List ℕ)) (h : Gesture) → verb ≡ codes "type" → typing rest ≡ does h → IsSpelling (verb ++ behind rest) h
typing_spelled verb None h is same = absurd (cc)
typing_spelled verb (Some text) h is same = typing_by verb text h (is_typable text) refl is same

pointing_by : (verb : List ℕ) (rest : Option (List ℕ)) (h : Gesture) (point : Option PointAt) → point_in rest ≡ point → verb ≡ codes "point"
    → unwrap_or (option_map (λ p. does (gesture.Point p)) point) bad ≡ does h → IsSpelling (verb ++ behind rest) h
pointing_by verb rest h None points is same = absurd (cc)
pointing_by verb rest h (Some point) points is same =
    let P : List ℕ → Type 0 = λ v. SpellsPoint (v ++ behind rest) point in
    same_gesture (verb ++ behind rest) (gesture.Point point) h (cc) (subst P (sym is) (point_spelled rest point points))

pointing_spelled : (verb : List ℕ) (rest : Option (List ℕ)) (h : Gesture) → verb ≡ codes "point" → pointing rest ≡ does h → IsSpelling (verb ++ behind rest) h
pointing_spelled verb rest h is same = pointing_by verb rest h (point_in rest) refl is same

verb_spelled : (verb : List ℕ) (rest : Option (List ℕ)) (g : Gesture) (r u l f i o n k t p : Bool)
    → (r ≡ true → verb ≡ codes "return") → (u ≡ true → verb ≡ codes "rubout") → (l ≡ true → verb ≡ codes "clear") → (f ≡ true → verb ≡ codes "frame")
    → (i ≡ true → verb ≡ codes "inks") → (o ≡ true → verb ≡ codes "force") → (n ≡ true → verb ≡ codes "history") → (k ≡ true → verb ≡ codes "stroke")
    → (t ≡ true → verb ≡ codes "type") → (p ≡ true → verb ≡ codes "point")
    → cond r (alone gesture.Return rest) (cond u (alone gesture.Rubout rest) (cond l (alone gesture.Clear rest) (cond f (alone gesture.Frame rest)
    (cond i (alone gesture.Inks rest) (cond o (alone gesture.Force rest) (cond n (asking rest) (cond k (pressing rest) (cond t (typing rest)
    (cond p (pointing rest) bad))))))))) ≡ does g
    → IsSpelling (verb ++ behind rest) g
verb_spelled verb rest g true u l f i o n k t p is_r is_u is_l is_f is_i is_o is_n is_k is_t is_p same = alone_spelled verb rest gesture.Return g (is_r refl) same
verb_spelled verb rest g false true l f i o n k t p is_r is_u is_l is_f is_i is_o is_n is_k is_t is_p same = alone_spelled verb rest gesture.Rubout g (is_u refl) same
verb_spelled verb rest g false false true f i o n k t p is_r is_u is_l is_f is_i is_o is_n is_k is_t is_p same = alone_spelled verb rest gesture.Clear g (is_l refl) same
verb_spelled verb rest g false false false true i o n k t p is_r is_u is_l is_f is_i is_o is_n is_k is_t is_p same = alone_spelled verb rest gesture.Frame g (is_f refl) same
verb_spelled verb rest g false false false false true o n k t p is_r is_u is_l is_f is_i is_o is_n is_k is_t is_p same = alone_spelled verb rest gesture.Inks g (is_i refl) same
verb_spelled verb rest g false false false false false true n k t p is_r is_u is_l is_f is_i is_o is_n is_k is_t is_p same = alone_spelled verb rest gesture.Force g (is_o refl) same
verb_spelled verb rest g false false false false false false true k t p is_r is_u is_l is_f is_i is_o is_n is_k is_t is_p same = asking_spelled verb rest g (is_n refl) same
verb_spelled verb rest g false false false false false false false true t p is_r is_u is_l is_f is_i is_o is_n is_k is_t is_p same = pressing_spelled verb rest g (is_k refl) same
verb_spelled verb rest g false false false false false false false false true p is_r is_u is_l is_f is_i is_o is_n is_k is_t is_p same = typing_spelled verb rest g (is_t refl) same
verb_spelled verb rest g false false false false false false false false false true is_r is_u is_l is_f is_i is_o is_n is_k is_t is_p same = pointing_spelled verb rest g (is_p refl) same
verb_spelled verb rest g false false false false false false false false false false is_r is_u is_l is_f is_i is_o is_n is_k is_t is_p same = absurd (cc)

line_by : (bytes : List ℕ) (g : Gesture) (quiet : Bool) → cond quiet idle (verb_says (verb_of bytes) (rest_of bytes)) ≡ does g → IsSpelling bytes g
line_by bytes g true same = absurd (cc)
line_by bytes g false same =
    let verb = verb_of bytes in let P : List ℕ → Type 0 = λ line. IsSpelling line g in
    let spelled = verb_spelled verb (rest_of bytes) g (bytes_eq verb (codes "return")) (bytes_eq verb (codes "rubout")) (bytes_eq verb (codes "clear"))
    (bytes_eq verb (codes "frame")) (bytes_eq verb (codes "inks")) (bytes_eq verb (codes "force")) (bytes_eq verb (codes "history")) (bytes_eq verb (codes "stroke")) (bytes_eq verb (codes "type"))
    (bytes_eq verb (codes "point"))
    (bytes_eq-Decides verb (codes "return")).0 (bytes_eq-Decides verb (codes "rubout")).0 (bytes_eq-Decides verb (codes "clear")).0
    (bytes_eq-Decides verb (codes "frame")).0 (bytes_eq-Decides verb (codes "inks")).0 (bytes_eq-Decides verb (codes "force")).0
    (bytes_eq-Decides verb (codes "history")).0 (bytes_eq-Decides verb (codes "stroke")).0 (bytes_eq-Decides verb (codes "type")).0
    (bytes_eq-Decides verb (codes "point")).0 same in
    subst P (sym (rejoin bytes)) spelled

-- ---- a spelling is said

backward : (bytes : List ℕ) (g : Gesture) → IsSpelling bytes g → says bytes ≡ does g
backward bytes gesture.Return h = ap says h
backward bytes gesture.Rubout h = ap says h
backward bytes gesture.Clear h = ap says h
backward bytes gesture.Frame h = ap says h
backward bytes gesture.Inks h = ap says h
backward bytes gesture.Force h = ap says h
backward bytes (gesture.History name) h = rw (h.0, is_word-yes name h.1)
backward bytes (gesture.Stroke name) h = rw (h.0, is_word-yes name h.1)
backward bytes (gesture.«Type» text) h = rw (h.0, is_typable-yes text h.1)
backward bytes (gesture.Point point) h = ap says h.spelled ∙ ap (λ o. unwrap_or (option_map (λ p. does (gesture.Point p)) o) bad) (point_said bytes point h)

pub are_spelled : AreSpelled
are_spelled bytes g = (λ same. line_by bytes g (is_idle bytes) same, λ h. backward bytes g h)
