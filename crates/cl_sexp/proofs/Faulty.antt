-- A text is refused exactly where it has a first fault, and with that.
use Rattle.std.proofs.Common.{◌≡◌, ℕ, zero, suc, ◌+◌, ◌<◌, ◌≤◌, Bool, true, false, List, [], ◌∷◌, ◌++◌, length, length-append, drop, take, refl, sym, ap, ◌∙◌, subst, arith}
use Rattle.std.specs.Prelude.{not, ◌&&◌, ◌==◌, ◌||◌, Result, Ok, Err, ⊤, ◌↔◌}
use Rattle.std.specs.List.{prefix_len}
use Rattle.std.proofs.lemmas.Bool.{eqb-true, eqb-false}
use Rattle.std.proofs.lemmas.List.{append-nil, append_assoc, take-append-drop}
use Rattle.std.proofs.Math.Seq.{drop-append_seam}
use Rattle.cl_sexp.specs.Bytes.{is_space, is_word, is_text}
use Rattle.cl_sexp.specs.Numbers.{is_number, number_of, fits_i64}
use Rattle.cl_sexp.specs.Tokens.{begins, word_begins, text_begins, tokens_from, tokens_of, with_front, depth_after, KeepsNest}
use Rattle.cl_sexp.specs.Lies.{IsBlank, IsWord, Spells}
use Rattle.cl_sexp.specs.Faults
use Rattle.cl_sexp.specs.Faults.{may_stand, is_unclosed, IsFault, FirstFault}
use Rattle.cl_sexp.specs.declared.Kind.{Kind}
use Rattle.cl_sexp.specs.declared.Kind.TheVariants.{Text}
use Rattle.cl_sexp.specs.declared.Token.{Token}
use Rattle.cl_sexp.specs.declared.begin.Begins.{Begins}
use Rattle.cl_sexp.specs.declared.begin.Begins.TheVariants.{Gap, Lexeme, Fault}
use Rattle.cl_sexp.proofs.Forward.{gap_step, token_step, keeps_shallow}
use Rattle.cl_sexp.proofs.Lying.{BeginsSpells, at_last, by_test, not_false, run_whole, run_longest, run_len, begin_spells, fault_step, spelled_some}
use Rattle.cl_sexp.proofs.Reading.{both_true, not_true, differ, blank_begins, blank_some, word_read, spells_begins}

-- ---- what begins is a token that keeps the nesting, or a fault

abbrev Begun : ℕ → List ℕ → Begins → Type 0
Begun depth bs (Gap n) = ⊤
Begun depth bs (Lexeme kind n) = KeepsNest kind depth
Begun depth bs (Fault number n) = IsFault depth bs number n

-- a fault behind an opening quote and n - 1 more bytes
abbrev InText : Bool → ℕ → List ℕ → Begins → Type 0
InText escaped n bs (Gap m) = ⊤
InText escaped n bs (Lexeme kind m) = (depth : ℕ) → KeepsNest kind depth
InText escaped n bs (Fault number m) = (depth : ℕ) (front : List ℕ) → length front + 1 ≡ n → ((more : List ℕ) → is_unclosed escaped more ≡ true → is_unclosed false (front ++ more) ≡ true) → IsFault depth (34 ∷ front ++ bs) number m

holds : (depth : ℕ) → KeepsNest Text depth
holds depth = tt

text_at_end : (escaped : Bool) (n : ℕ) → InText escaped n [] (Fault 2 n)
text_at_end escaped n = λ depth front len f.
    let on : 1 + length (front ++ []) ≡ n = omega (arith, len, ap length (append-nil front)) in
    subst (λ k. IsFault depth (34 ∷ front ++ []) 2 k) on (Faults.text_at_end depth (front ++ []) (f [] refl))

in_text : (escaped : Bool) (n b : ℕ) (bs : List ℕ) → is_text b ≡ false → InText escaped n (b ∷ bs) (Fault 1 n)
in_text escaped n b bs bad = λ depth front len f.
    let on : 1 + length front ≡ n = omega (arith, len) in
    let open_so_far : is_unclosed false front ≡ true = subst (λ x. is_unclosed false x ≡ true) (append-nil front) (f [] refl) in
    subst (λ k. IsFault depth (34 ∷ front ++ b ∷ bs) 1 k) on (Faults.in_text depth b front bs open_so_far bad)

text_more : (escaped next : Bool) (n b : ℕ) (bs : List ℕ) (r : Begins) → ((more : List ℕ) → is_unclosed next more ≡ true → is_unclosed escaped (b ∷ more) ≡ true) → InText next (n + 1) bs r → InText escaped n (b ∷ bs) r
text_more escaped next n b bs (Gap m) f q = tt
text_more escaped next n b bs (Lexeme kind m) f q = q
text_more escaped next n b bs (Fault number m) f q = λ depth front len g.
    let longer : length (front ++ b ∷ []) + 1 ≡ n + 1 = omega (arith, len, length-append front (b ∷ [])) in
    subst (λ x. IsFault depth (34 ∷ x) number m) (append_assoc front (b ∷ []) bs)
    (q depth (front ++ b ∷ []) longer (λ more h. subst (λ x. is_unclosed false x ≡ true) (sym (append_assoc front (b ∷ []) more)) (g (b ∷ more) (f more h))))

text_faults : (escaped : Bool) (n : ℕ) (bs : List ℕ) → InText escaped n bs (text_begins escaped n bs)
text_faults escaped n [] = text_at_end escaped n
text_faults escaped n (b ∷ bs) =
    by_test (InText escaped n (b ∷ bs)) (not (is_text b)) _ _ (λ bad. in_text escaped n b bs (not_true _ bad)) (λ good.
    let fine : is_text b ≡ true = not_false _ good in
    by_test (InText escaped n (b ∷ bs)) escaped _ _
    (λ behind. text_more escaped false n b bs (text_begins false (n + 1) bs) (λ more h. rw (behind, fine, h) refl) (text_faults false (n + 1) bs))
    (λ plain. by_test (InText escaped n (b ∷ bs)) (b == 34) _ _
    (λ ends. holds)
    (λ other. text_more escaped (b == 92) n b bs (text_begins (b == 92) (n + 1) bs) (λ more h. rw (plain, fine, other, h) refl) (text_faults (b == 92) (n + 1) bs))))

text_begun : (depth : ℕ) (bs : List ℕ) (r : Begins) → InText false 1 bs r → Begun depth (34 ∷ bs) r
text_begun depth bs (Gap m) q = tt
text_begun depth bs (Lexeme kind m) q = q depth
text_begun depth bs (Fault number m) q = q depth [] refl (λ more h. h)

word_begun : (depth : ℕ) (word rest : List ℕ) → IsWord word rest → Begun depth (word ++ rest) (word_begins word (length word))
word_begun depth word rest w =
    by_test (Begun depth (word ++ rest)) (is_number word) _ _
    (λ n. by_test (Begun depth (word ++ rest)) (fits_i64 (number_of word)) _ _ (λ f. tt) (λ f. Faults.too_large depth word rest w n f))
    (λ n. tt)

run_begun : (depth n : ℕ) (bs : List ℕ) → n ≡ prefix_len is_word bs → 0 < n → Begun depth bs (word_begins (take n bs) n)
run_begun depth n bs e p =
    let len : n ≡ length (take n bs) = run_len is_word n bs e in
    let w : IsWord (take n bs) (drop n bs) = record { some = omega (arith, p, len); whole = run_whole is_word n bs e; longest = run_longest is_word n bs e } in
    subst (λ x. Begun depth x (word_begins (take n bs) n)) (take-append-drop n bs)
    (subst (λ k. Begun depth (take n bs ++ drop n bs) (word_begins (take n bs) k)) (sym len) (word_begun depth (take n bs) (drop n bs) w))

begin_begun : (depth b : ℕ) (bs : List ℕ) → depth ≤ 64 → Begun depth (b ∷ bs) (begins depth (b ∷ bs))
begin_begun depth b bs shallow =
    by_test (Begun depth (b ∷ bs)) (is_space b) _ _ (λ h. tt) (λ space.
    by_test (Begun depth (b ∷ bs)) (b == 59) _ _ (λ h. tt) (λ semicolon.
    by_test (Begun depth (b ∷ bs)) (b == 40) _ _
    (λ h. by_test (Begun depth (b ∷ bs)) (depth == 64) _ _
    (λ full. let e : b ≡ 40 = eqb-true _ _ h in let d : depth ≡ 64 = eqb-true _ _ full in rw (e, d) (Faults.too_deep bs))
    (λ room. let d : depth ≡ 64 → ⊥ = eqb-false _ _ room in omega (arith, shallow, d))) (λ opening.
    by_test (Begun depth (b ∷ bs)) (b == 41) _ _
    (λ h. by_test (Begun depth (b ∷ bs)) (depth == 0) _ _
    (λ none. let e : b ≡ 41 = eqb-true _ _ h in let d : depth ≡ 0 = eqb-true _ _ none in rw (e, d) (Faults.closes_nothing bs))
    (λ some. let d : depth ≡ 0 → ⊥ = eqb-false _ _ some in omega (arith, d))) (λ closing.
    by_test (Begun depth (b ∷ bs)) (b == 39) _ _ (λ h. tt) (λ quote.
    by_test (Begun depth (b ∷ bs)) (b == 34) _ _ (λ h. let e : b ≡ 34 = eqb-true _ _ h in rw e (text_begun depth bs (text_begins false 1 bs) (text_faults false 1 bs))) (λ quotes.
    by_test (Begun depth (b ∷ bs)) (is_word b) _ _ (λ h. run_begun depth (prefix_len is_word (b ∷ bs)) (b ∷ bs) refl (let e : prefix_len is_word (b ∷ bs) ≡ 1 + prefix_len is_word bs = rw h refl in omega (arith, e))) (λ word.
    Faults.stray depth b bs (rw (word, space, semicolon, opening, closing, quote, quotes) refl))))))))

-- ---- what is refused has its fault

told : (depth at number on : ℕ) (bs : List ℕ) (p : ℕ × ℕ) (r : Result (List Token) (ℕ × ℕ)) → IsFault depth bs number on → r ≡ Err (number, at + on) → r ≡ Err p → FirstFault depth at bs p.0 p.1
told depth at number on bs p r f own e =
    let q : (number, at + on) ≡ p = cc in
    subst (λ x. FirstFault depth at bs x.0 x.1) q (Faults.here depth at number on bs f)

front_err : (t : Token) (r : Result (List Token) (ℕ × ℕ)) (p : ℕ × ℕ) → with_front (t ∷ []) r ≡ Err p → r ≡ Err p
front_err t (Ok more) p e = cc
front_err t (Err x) p e = e

-- the rest has its fault, where it is refused
abbrev Behind : ℕ → Type 0
Behind fuel = (depth at : ℕ) (bs : List ℕ) (p : ℕ × ℕ) → depth ≤ 64 → length bs ≤ fuel → tokens_from 0 depth at bs ≡ Err p → FirstFault depth at bs p.0 p.1

gap_faults : (fuel depth at : ℕ) (gap rest : List ℕ) (p : ℕ × ℕ) → Behind fuel → depth ≤ 64 → begins depth (gap ++ rest) ≡ Gap (length gap) → 0 < length gap → IsBlank gap rest → length (gap ++ rest) ≤ suc fuel → tokens_from 0 depth at (gap ++ rest) ≡ Err p
    → FirstFault depth at (gap ++ rest) p.0 p.1
gap_faults fuel depth at gap rest p behind shallow g some blank h e =
    let len : length (gap ++ rest) ≡ length gap + length rest = length-append gap rest in
    let step : tokens_from 0 depth at (gap ++ rest) ≡ tokens_from 0 depth (at + length gap) rest =
    gap_step depth at (length gap) (gap ++ rest) g some (omega (arith, len)) ∙ ap (tokens_from 0 depth (at + length gap)) (drop-append_seam gap rest) in
    Faults.blank depth at p.0 p.1 gap rest blank (behind depth (at + length gap) rest p shallow (omega (arith, len, h, some)) (sym step ∙ e))

token_faults : (fuel depth at : ℕ) (kind : Kind) (word rest : List ℕ) (p : ℕ × ℕ) → Behind fuel → depth ≤ 64 → KeepsNest kind depth → begins depth (word ++ rest) ≡ Lexeme kind (length word) → 0 < length word → Spells kind word rest → length (word ++ rest) ≤ suc fuel
    → tokens_from 0 depth at (word ++ rest) ≡ Err p → FirstFault depth at (word ++ rest) p.0 p.1
token_faults fuel depth at kind word rest p behind shallow keeps g some spells h e =
    let len : length (word ++ rest) ≡ length word + length rest = length-append word rest in
    let t : Token = record { kind = kind; start = at; end = at + length word } in
    let step : tokens_from 0 depth at (word ++ rest) ≡ with_front (t ∷ []) (tokens_from 0 (depth_after kind depth) (at + length word) rest) =
    token_step depth at (length word) kind (word ++ rest) g some (omega (arith, len)) ∙ ap (λ x. with_front (t ∷ []) (tokens_from 0 (depth_after kind depth) (at + length word) x)) (drop-append_seam word rest) in
    Faults.token depth at p.0 p.1 kind word rest spells keeps
    (behind (depth_after kind depth) (at + length word) rest p (keeps_shallow kind depth shallow keeps) (omega (arith, len, h, some)) (front_err t _ p (sym step ∙ e)))

begun_faults : (fuel depth at b : ℕ) (bs : List ℕ) (p : ℕ × ℕ) (r : Begins) → Behind fuel → depth ≤ 64 → begins depth (b ∷ bs) ≡ r → BeginsSpells (b ∷ bs) r → Begun depth (b ∷ bs) r → length (b ∷ bs) ≤ suc fuel → tokens_from 0 depth at (b ∷ bs) ≡ Err p → FirstFault depth at (b ∷ bs) p.0 p.1
begun_faults fuel depth at b bs p (Gap n) behind shallow g s k h e =
    let split : b ∷ bs ≡ s.0 ++ s.1 = s.2 in
    subst (λ x. FirstFault depth at x p.0 p.1) (sym split)
    (gap_faults fuel depth at s.0 s.1 p behind shallow (ap (begins depth) (sym split) ∙ g ∙ ap Gap s.3) (omega (arith, s.3, s.4)) s.5 (let l : length (b ∷ bs) ≡ length (s.0 ++ s.1) = ap length split in omega (arith, l, h)) (ap (tokens_from 0 depth at) (sym split) ∙ e))
begun_faults fuel depth at b bs p (Lexeme kind n) behind shallow g s k h e =
    let split : b ∷ bs ≡ s.0 ++ s.1 = s.2 in
    subst (λ x. FirstFault depth at x p.0 p.1) (sym split)
    (token_faults fuel depth at kind s.0 s.1 p behind shallow k (ap (begins depth) (sym split) ∙ g ∙ ap (Lexeme kind) s.3) (omega (arith, s.3, s.4)) s.5 (let l : length (b ∷ bs) ≡ length (s.0 ++ s.1) = ap length split in omega (arith, l, h)) (ap (tokens_from 0 depth at) (sym split) ∙ e))
begun_faults fuel depth at b bs p (Fault number n) behind shallow g s k h e = told depth at number n (b ∷ bs) p _ k (fault_step depth at number n b bs g) e

nothing_left : (depth at : ℕ) (p : ℕ × ℕ) (closed : Bool) → (depth == 0) ≡ closed → at_last closed at ≡ Err p → FirstFault depth at [] p.0 p.1
nothing_left depth at p true d e = cc
nothing_left depth at p false d e =
    let z : at ≡ at + 0 = omega arith in
    let some : 0 < depth = (let n : depth ≡ 0 → ⊥ = eqb-false _ _ d in omega (arith, n)) in
    told depth at 2 0 [] p (at_last false at) (Faults.form_at_end depth some) (ap (λ x. Err (2, x)) z) e

faults_from : (fuel : ℕ) → Behind fuel
faults_from fuel depth at [] p shallow h e = nothing_left depth at p (depth == 0) refl e
faults_from zero depth at (b ∷ bs) p shallow h e = absurd (omega arith)
faults_from (suc fuel) depth at (b ∷ bs) p shallow h e = begun_faults fuel depth at b bs p (begins depth (b ∷ bs)) (faults_from fuel) shallow refl (begin_spells depth b bs) (begin_begun depth b bs shallow) h e

-- ---- what has a fault is refused with it

both_false : (a b : Bool) → (a || b) ≡ false → (a ≡ false) × (b ≡ false)
both_false true b h = (cc, cc)
both_false false b h = (refl, h)

stray_begins : (depth b : ℕ) (rest : List ℕ) → may_stand b ≡ false → begins depth (b ∷ rest) ≡ Fault 1 0
stray_begins depth b rest h =
    let a6 : ((is_space b || b == 59 || b == 40 || b == 41 || b == 39 || b == 34) ≡ false) × (is_word b ≡ false) = both_false _ _ h in
    let a5 : ((is_space b || b == 59 || b == 40 || b == 41 || b == 39) ≡ false) × ((b == 34) ≡ false) = both_false _ _ a6.0 in
    let a4 : ((is_space b || b == 59 || b == 40 || b == 41) ≡ false) × ((b == 39) ≡ false) = both_false _ _ a5.0 in
    let a3 : ((is_space b || b == 59 || b == 40) ≡ false) × ((b == 41) ≡ false) = both_false _ _ a4.0 in
    let a2 : ((is_space b || b == 59) ≡ false) × ((b == 40) ≡ false) = both_false _ _ a3.0 in
    let a1 : (is_space b ≡ false) × ((b == 59) ≡ false) = both_false _ _ a2.0 in
    rw (a6.1, a1.0, a1.1, a2.1, a3.1, a4.1, a5.1) refl

text_stops : (escaped : Bool) (n b : ℕ) (body rest : List ℕ) → is_unclosed escaped body ≡ true → is_text b ≡ false → text_begins escaped n (body ++ b ∷ rest) ≡ Fault 1 (n + length body)
text_stops escaped n b [] rest h bad = let e : n ≡ n + 0 = omega arith in rw bad (ap (Fault 1) e)
text_stops true n b (c ∷ body) rest h bad =
    let both : (is_text c ≡ true) × (is_unclosed false body ≡ true) = both_true (is_text c) _ h in
    let good : is_text c ≡ true = both.0 in
    let e : n + 1 + length body ≡ n + suc (length body) = omega arith in
    rw good (text_stops false (n + 1) b body rest both.1 bad ∙ ap (Fault 1) e)
text_stops false n b (c ∷ body) rest h bad =
    let both : (is_text c ≡ true) × ((not (c == 34) && is_unclosed (c == 92) body) ≡ true) = both_true (is_text c) _ h in
    let others : (not (c == 34) ≡ true) × (is_unclosed (c == 92) body ≡ true) = both_true (not (c == 34)) _ both.1 in
    let good : is_text c ≡ true = both.0 in
    let plain : (c == 34) ≡ false = not_true _ others.0 in
    let e : n + 1 + length body ≡ n + suc (length body) = omega arith in
    rw (good, plain) (text_stops (c == 92) (n + 1) b body rest others.1 bad ∙ ap (Fault 1) e)

text_ends : (escaped : Bool) (n : ℕ) (body : List ℕ) → is_unclosed escaped body ≡ true → text_begins escaped n body ≡ Fault 2 (n + length body)
text_ends escaped n [] h = let e : n ≡ n + 0 = omega arith in ap (Fault 2) e
text_ends true n (c ∷ body) h =
    let both : (is_text c ≡ true) × (is_unclosed false body ≡ true) = both_true (is_text c) _ h in
    let good : is_text c ≡ true = both.0 in
    let e : n + 1 + length body ≡ n + suc (length body) = omega arith in
    rw good (text_ends false (n + 1) body both.1 ∙ ap (Fault 2) e)
text_ends false n (c ∷ body) h =
    let both : (is_text c ≡ true) × ((not (c == 34) && is_unclosed (c == 92) body) ≡ true) = both_true (is_text c) _ h in
    let others : (not (c == 34) ≡ true) × (is_unclosed (c == 92) body ≡ true) = both_true (not (c == 34)) _ both.1 in
    let good : is_text c ≡ true = both.0 in
    let plain : (c == 34) ≡ false = not_true _ others.0 in
    let e : n + 1 + length body ≡ n + suc (length body) = omega arith in
    rw (good, plain) (text_ends (c == 92) (n + 1) body others.1 ∙ ap (Fault 2) e)

large_read : (depth at : ℕ) (word rest : List ℕ) → IsWord word rest → is_number word ≡ true → fits_i64 (number_of word) ≡ false → tokens_from 0 depth at (word ++ rest) ≡ Err (4, at + 0)
large_read depth at [] rest w n f = absurd (omega (arith, w.some))
large_read depth at (b ∷ word) rest w n f = fault_step depth at 4 0 b (word ++ rest) (word_read depth (b ∷ word) rest w ∙ (rw (n, f) refl))

fault_read : (depth at : ℕ) (bs : List ℕ) (number on : ℕ) → IsFault depth bs number on → tokens_from 0 depth at bs ≡ Err (number, at + on)
fault_read _ at _ _ _ (Faults.stray depth b rest h) = fault_step depth at 1 0 b rest (stray_begins depth b rest h)
fault_read _ at _ _ _ (Faults.in_text depth b body rest h bad) = fault_step depth at 1 (1 + length body) 34 (body ++ b ∷ rest) (text_stops false 1 b body rest h bad)
fault_read _ at _ _ _ (Faults.text_at_end depth body h) = fault_step depth at 2 (1 + length body) 34 body (text_ends false 1 body h)
fault_read _ at _ _ _ (Faults.form_at_end depth p) = let e : (depth == 0) ≡ false = differ depth 0 (λ e. omega (arith, e, p)) in let z : at ≡ at + 0 = omega arith in rw e (ap (λ x. Err (2, x)) z)
fault_read _ at _ _ _ (Faults.closes_nothing rest) = fault_step 0 at 2 0 41 rest refl
fault_read _ at _ _ _ (Faults.too_deep rest) = fault_step 64 at 3 0 40 rest refl
fault_read _ at _ _ _ (Faults.too_large depth word rest w n f) = large_read depth at word rest w n f

refused_at : (depth at : ℕ) (bs : List ℕ) (number place : ℕ) → FirstFault depth at bs number place → tokens_from 0 depth at bs ≡ Err (number, place)
refused_at _ _ _ _ _ (Faults.here depth at number on bs f) = fault_read depth at bs number on f
refused_at _ _ _ _ _ (Faults.blank depth at number place gap rest b f) =
    let len : length (gap ++ rest) ≡ length gap + length rest = length-append gap rest in
    gap_step depth at (length gap) (gap ++ rest) (blank_begins depth gap rest b) (blank_some gap rest b) (omega (arith, len))
    ∙ ap (tokens_from 0 depth (at + length gap)) (drop-append_seam gap rest) ∙ refused_at depth (at + length gap) rest number place f
refused_at _ _ _ _ _ (Faults.token depth at number place kind word rest s k f) =
    let len : length (word ++ rest) ≡ length word + length rest = length-append word rest in
    let t : Token = record { kind = kind; start = at; end = at + length word } in
    token_step depth at (length word) kind (word ++ rest) (spells_begins depth kind word rest s k) (spelled_some kind word rest s) (omega (arith, len))
    ∙ ap (λ x. with_front (t ∷ []) (tokens_from 0 (depth_after kind depth) (at + length word) x)) (drop-append_seam word rest)
    ∙ ap (with_front (t ∷ [])) (refused_at (depth_after kind depth) (at + length word) rest number place f)

pub fault_of : (text : List ℕ) (number place : ℕ) → (tokens_of text ≡ Err (number, place)) ↔ FirstFault 0 0 text number place
fault_of text number place = (λ e. faults_from (length text) 0 0 text (number, place) (omega arith) (omega arith) e, λ f. refused_at 0 0 text number place f)
