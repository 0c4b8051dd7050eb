-- What is read lies in the text.
use Rattle.std.proofs.Common.{◌≡◌, ℕ, zero, suc, ◌+◌, ◌<◌, ◌≤◌, Bool, true, false, List, [], ◌∷◌, ◌++◌, length, drop, take, refl, sym, ap, ◌∙◌, ◌⊎◌, inl, inr, subst, arith}
use Rattle.std.specs.Prelude.{not, ◌==◌, if◌then◌else◌, IsTrue, Result, Ok, Err, ⊤}
use Rattle.std.specs.List.{list_all, prefix_len, slice_range}
use Rattle.std.proofs.Common.{length-append}
use Rattle.std.proofs.lemmas.Bool.{eqb-true}
use Rattle.std.proofs.lemmas.List.{take-append-drop, length-take-le, append_assoc}
use Rattle.std.proofs.lemmas.List.Sums.{prefix_len-le-length}
use Rattle.std.proofs.lemmas.List.Folds.{drop_split}
use Rattle.std.proofs.Math.Seq.{drop-append_seam}
use Rattle.cl_sexp.specs.Bytes.{is_space, in_comment, is_word, is_text}
use Rattle.cl_sexp.specs.Numbers.{is_number, number_of, fits_i64}
use Rattle.cl_sexp.specs.Tokens.{begins, word_begins, text_begins, tokens_from, tokens_of, with_front, depth_after}
use Rattle.cl_sexp.specs.Lies
use Rattle.cl_sexp.specs.Lies.{Stops, IsBlank, is_quoted, IsWord, Spells, Lies, Rises, joined}
use Rattle.cl_sexp.specs.declared.Kind.{Kind}
use Rattle.cl_sexp.specs.declared.Kind.TheVariants.{Text}
use Rattle.cl_sexp.specs.declared.Token.{Token}
use Rattle.cl_sexp.specs.declared.begin.Begins.{Begins}
use Rattle.cl_sexp.specs.declared.begin.Begins.TheVariants.{Gap, Lexeme, Fault}
use Rattle.cl_sexp.proofs.Forward.{gap_step, token_step}

-- what begins is what the bytes begin with
abbrev pub BeginsSpells : List ℕ → Begins → Type 0
BeginsSpells bs (Gap n) = (gap : List ℕ) × (rest : List ℕ) × (bs ≡ gap ++ rest) × (n ≡ length gap) × (0 < n) × IsBlank gap rest
BeginsSpells bs (Lexeme kind n) = (word : List ℕ) × (rest : List ℕ) × (bs ≡ word ++ rest) × (n ≡ length word) × (0 < n) × Spells kind word rest
BeginsSpells bs (Fault number n) = ⊤

pub by_test : (P : Begins → Type 0) (b : Bool) (x y : Begins) → (b ≡ true → P x) → (b ≡ false → P y) → P (if b then x else y)
by_test P true x y f g = f refl
by_test P false x y f g = g refl

is_or_not : (b : Bool) → (b ≡ true) ⊎ (b ≡ false)
is_or_not true = inl refl
is_or_not false = inr refl

pub not_false : (b : Bool) → not b ≡ false → b ≡ true
not_false true h = refl
not_false false h = cc

-- ---- runs

run_more : (test : ℕ → Bool) (m b : ℕ) (bs : List ℕ) → suc m ≡ prefix_len test (b ∷ bs) → (test b ≡ true) × (m ≡ prefix_len test bs)
run_more test m b bs e = elim (is_or_not (test b)) [
  | inl h ↦ (h, (let f : suc m ≡ 1 + prefix_len test bs = rw h at e in omega (arith, f)))
  | inr h ↦ absurd (let f : suc m ≡ 0 = rw h at e in omega (arith, f))
]

pub run_whole : (test : ℕ → Bool) (n : ℕ) (bs : List ℕ) → n ≡ prefix_len test bs → list_all test (take n bs) ≡ true
run_whole test zero bs e = refl
run_whole test (suc m) [] e = refl
run_whole test (suc m) (b ∷ bs) e =
    let r : (test b ≡ true) × (m ≡ prefix_len test bs) = run_more test m b bs e in
    let all : list_all test (take m bs) ≡ true = run_whole test m bs r.1 in
    let first : test b ≡ true = r.0 in
    rw (first, all) refl

pub run_longest : (test : ℕ → Bool) (n : ℕ) (bs : List ℕ) → n ≡ prefix_len test bs → Stops test (drop n bs)
run_longest test zero [] e = tt
run_longest test (suc m) [] e = tt
run_longest test zero (b ∷ bs) e = elim (is_or_not (test b)) [
  | inl h ↦ absurd (let f : 0 ≡ 1 + prefix_len test bs = rw h at e in omega (arith, f))
  | inr h ↦ h
]
run_longest test (suc m) (b ∷ bs) e = run_longest test m bs (run_more test m b bs e).1

pub run_len : (test : ℕ → Bool) (n : ℕ) (bs : List ℕ) → n ≡ prefix_len test bs → n ≡ length (take n bs)
run_len test n bs e = sym (length-take-le n bs (omega (arith, e, prefix_len-le-length test bs)))

-- ---- texts

abbrev Quotes : Bool → ℕ → List ℕ → Begins → Type 0
Quotes escaped n bs (Gap m) = ⊥
Quotes escaped n bs (Lexeme kind m) = (body : List ℕ) × (rest : List ℕ) × (bs ≡ body ++ 34 ∷ rest) × (m ≡ n + length body + 1) × (kind ≡ Text) × IsTrue (is_quoted escaped body)
Quotes escaped n bs (Fault number m) = ⊤

quotes_more : (escaped next : Bool) (n b : ℕ) (bs : List ℕ) (r : Begins) → ((body : List ℕ) → is_quoted next body ≡ true → is_quoted escaped (b ∷ body) ≡ true) → Quotes next (n + 1) bs r → Quotes escaped n (b ∷ bs) r
quotes_more escaped next n b bs (Gap m) f q = q
quotes_more escaped next n b bs (Lexeme kind m) f q = (b ∷ q.0, q.1, ap (λ x. b ∷ x) q.2, omega (arith, q.3), q.4, f q.0 q.5)
quotes_more escaped next n b bs (Fault number m) f q = tt

text_quotes : (escaped : Bool) (n : ℕ) (bs : List ℕ) → Quotes escaped n bs (text_begins escaped n bs)
text_quotes escaped n [] = tt
text_quotes escaped n (b ∷ bs) =
    by_test (Quotes escaped n (b ∷ bs)) (not (is_text b)) _ _ (λ bad. tt) (λ good.
    let fine : is_text b ≡ true = not_false _ good in
    by_test (Quotes escaped n (b ∷ bs)) escaped _ _
    (λ behind. quotes_more escaped false n b bs (text_begins false (n + 1) bs) (λ body h. rw (behind, fine, h) refl) (text_quotes false (n + 1) bs))
    (λ plain. by_test (Quotes escaped n (b ∷ bs)) (b == 34) _ _
    (λ ends. ([], bs, (let e : b ≡ 34 = eqb-true _ _ ends in rw e refl), omega arith, refl, rw plain refl))
    (λ other. quotes_more escaped (b == 92) n b bs (text_begins (b == 92) (n + 1) bs) (λ body h. rw (plain, fine, other, h) refl) (text_quotes (b == 92) (n + 1) bs))))

text_spells : (bs : List ℕ) (r : Begins) → Quotes false 1 bs r → BeginsSpells (34 ∷ bs) r
text_spells bs (Gap m) q = absurd q
text_spells bs (Lexeme kind m) q =
    let kind_is : kind ≡ Text = q.4 in
    rw kind_is (34 ∷ q.0 ++ 34 ∷ [], q.1, ap (λ x. 34 ∷ x) (q.2 ∙ sym (append_assoc q.0 (34 ∷ []) q.1)), omega (arith, q.3, length-append q.0 (34 ∷ [])), omega (arith, q.3), Lies.quoted q.0 q.1 q.5)
text_spells bs (Fault number m) q = tt

-- ---- words

word_spells : (word rest : List ℕ) → IsWord word rest → BeginsSpells (word ++ rest) (word_begins word (length word))
word_spells word rest w =
    by_test (BeginsSpells (word ++ rest)) (is_number word) _ _
    (λ n. by_test (BeginsSpells (word ++ rest)) (fits_i64 (number_of word)) _ _ (λ f. (word, rest, refl, refl, w.some, Lies.number word rest w n f)) (λ f. tt))
    (λ n. (word, rest, refl, refl, w.some, Lies.symbol word rest w n))

word_run : (n : ℕ) (bs : List ℕ) → n ≡ prefix_len is_word bs → 0 < n → BeginsSpells bs (word_begins (take n bs) n)
word_run n bs e p =
    let len : n ≡ length (take n bs) = run_len is_word n bs e in
    let w : IsWord (take n bs) (drop n bs) = record { some = omega (arith, p, len); whole = run_whole is_word n bs e; longest = run_longest is_word n bs e } in
    subst (λ x. BeginsSpells x (word_begins (take n bs) n)) (take-append-drop n bs)
    (subst (λ k. BeginsSpells (take n bs ++ drop n bs) (word_begins (take n bs) k)) (sym len) (word_spells (take n bs) (drop n bs) w))

comment_spells : (n : ℕ) (bs : List ℕ) → n ≡ prefix_len in_comment bs → BeginsSpells (59 ∷ bs) (Gap (n + 1))
comment_spells n bs e = (
  59 ∷ take n bs,
  drop n bs,
  ap (λ x. 59 ∷ x) (sym (take-append-drop n bs)),
  (let len : n ≡ length (take n bs) = run_len in_comment n bs e in omega (arith, len)),
  omega arith,
  Lies.comment (take n bs) (drop n bs) (run_whole in_comment n bs e) (run_longest in_comment n bs e),
)

pub begin_spells : (depth : ℕ) (b : ℕ) (bs : List ℕ) → BeginsSpells (b ∷ bs) (begins depth (b ∷ bs))
begin_spells depth b bs =
    by_test (BeginsSpells (b ∷ bs)) (is_space b) _ _ (λ h. (b ∷ [], bs, refl, refl, omega arith, Lies.space b bs h)) (λ _.
    by_test (BeginsSpells (b ∷ bs)) (b == 59) _ _ (λ h. let e : b ≡ 59 = eqb-true _ _ h in rw e (comment_spells (prefix_len in_comment bs) bs refl)) (λ _.
    by_test (BeginsSpells (b ∷ bs)) (b == 40) _ _
    (λ h. let e : b ≡ 40 = eqb-true _ _ h in by_test (BeginsSpells (b ∷ bs)) (depth == 64) _ _ (λ _. tt) (λ _. rw e (40 ∷ [], bs, refl, refl, omega arith, Lies.opening bs))) (λ _.
    by_test (BeginsSpells (b ∷ bs)) (b == 41) _ _
    (λ h. let e : b ≡ 41 = eqb-true _ _ h in by_test (BeginsSpells (b ∷ bs)) (depth == 0) _ _ (λ _. tt) (λ _. rw e (41 ∷ [], bs, refl, refl, omega arith, Lies.closing bs))) (λ _.
    by_test (BeginsSpells (b ∷ bs)) (b == 39) _ _ (λ h. let e : b ≡ 39 = eqb-true _ _ h in rw e (39 ∷ [], bs, refl, refl, omega arith, Lies.quote bs)) (λ _.
    by_test (BeginsSpells (b ∷ bs)) (b == 34) _ _ (λ h. let e : b ≡ 34 = eqb-true _ _ h in rw e (text_spells bs (text_begins false 1 bs) (text_quotes false 1 bs))) (λ _.
    by_test (BeginsSpells (b ∷ bs)) (is_word b) _ _ (λ h. word_run (prefix_len is_word (b ∷ bs)) (b ∷ bs) refl (let e : prefix_len is_word (b ∷ bs) ≡ 1 + prefix_len is_word bs = rw h refl in omega (arith, e))) (λ _. tt)))))))

-- ---- tokens

front_ok : (t : Token) (r : Result (List Token) (ℕ × ℕ)) (ts : List Token) → with_front (t ∷ []) r ≡ Ok ts → (more : List Token) × (r ≡ Ok more) × (t ∷ more ≡ ts)
front_ok t (Ok more) ts e = (more, refl, cc)
front_ok t (Err x) ts e = cc

abbrev pub at_last : Bool → ℕ → Result (List Token) (ℕ × ℕ)
at_last b at = if b then Ok [] else Err (2, at)

nothing_left : (b : Bool) (x : ℕ) (ts : List Token) → at_last b x ≡ Ok ts → [] ≡ ts
nothing_left true x ts e = cc
nothing_left false x ts e = cc

-- the rest lies behind what began, where it is read
abbrev Behind : ℕ → Type 0
Behind fuel = (depth at : ℕ) (bs : List ℕ) (ts : List Token) → length bs ≤ fuel → tokens_from 0 depth at bs ≡ Ok ts → Lies at bs ts

gap_lies : (fuel depth at : ℕ) (gap rest : List ℕ) (ts : List Token) → Behind fuel → begins depth (gap ++ rest) ≡ Gap (length gap) → 0 < length gap → IsBlank gap rest → length (gap ++ rest) ≤ suc fuel → tokens_from 0 depth at (gap ++ rest) ≡ Ok ts → Lies at (gap ++ rest) ts
gap_lies fuel depth at gap rest ts behind g p blank h e =
    let len : length (gap ++ rest) ≡ length gap + length rest = length-append gap rest in
    let step : tokens_from 0 depth at (gap ++ rest) ≡ tokens_from 0 depth (at + length gap) rest =
    gap_step depth at (length gap) (gap ++ rest) g p (omega (arith, len)) ∙ ap (tokens_from 0 depth (at + length gap)) (drop-append_seam gap rest) in
    Lies.blank at gap rest ts blank (behind depth (at + length gap) rest ts (omega (arith, len, h, p)) (sym step ∙ e))

token_lies : (fuel depth at : ℕ) (kind : Kind) (word rest : List ℕ) (ts : List Token) → Behind fuel → begins depth (word ++ rest) ≡ Lexeme kind (length word) → 0 < length word → Spells kind word rest → length (word ++ rest) ≤ suc fuel
    → tokens_from 0 depth at (word ++ rest) ≡ Ok ts → Lies at (word ++ rest) ts
token_lies fuel depth at kind word rest ts behind g p spells h e =
    let len : length (word ++ rest) ≡ length word + length rest = length-append word rest in
    let t : Token = record { kind = kind; start = at; end = at + length word } in
    let step : tokens_from 0 depth at (word ++ rest) ≡ with_front (t ∷ []) (tokens_from 0 (depth_after kind depth) (at + length word) rest) =
    token_step depth at (length word) kind (word ++ rest) g p (omega (arith, len)) ∙ ap (λ x. with_front (t ∷ []) (tokens_from 0 (depth_after kind depth) (at + length word) x)) (drop-append_seam word rest) in
    let f : (more : List Token) × (tokens_from 0 (depth_after kind depth) (at + length word) rest ≡ Ok more) × (t ∷ more ≡ ts) = front_ok t _ ts (sym step ∙ e) in
    subst (λ x. Lies at (word ++ rest) x) f.2 (Lies.token at kind word rest f.0 spells (behind (depth_after kind depth) (at + length word) rest f.0 (omega (arith, len, h, p)) f.1))

abbrev reads : Result (List Token) (ℕ × ℕ) → ℕ
reads (Ok ts) = 1
reads (Err x) = 0

not_both : (r : Result (List Token) (ℕ × ℕ)) (x : ℕ × ℕ) (ts : List Token) → r ≡ Err x → r ≡ Ok ts → ⊥
not_both r x ts p q = let f : ◌≡◌ {A = ℕ} 0 1 = ap reads (sym p ∙ q) in omega (arith, f)

pub fault_step : (depth at number n b : ℕ) (bs : List ℕ) → begins depth (b ∷ bs) ≡ Fault number n → tokens_from 0 depth at (b ∷ bs) ≡ Err (number, at + n)
fault_step depth at number n b bs e = rw (e, tokens_from) refl

begun_lies : (fuel depth at b : ℕ) (bs : List ℕ) (ts : List Token) (r : Begins) → Behind fuel → begins depth (b ∷ bs) ≡ r → BeginsSpells (b ∷ bs) r → length (b ∷ bs) ≤ suc fuel → tokens_from 0 depth at (b ∷ bs) ≡ Ok ts → Lies at (b ∷ bs) ts
begun_lies fuel depth at b bs ts (Gap n) behind g s h e =
    let split : b ∷ bs ≡ s.0 ++ s.1 = s.2 in
    subst (λ x. Lies at x ts) (sym split) (gap_lies fuel depth at s.0 s.1 ts behind (ap (begins depth) (sym split) ∙ g ∙ ap Gap s.3) (omega (arith, s.3, s.4)) s.5 (let l : length (b ∷ bs) ≡ length (s.0 ++ s.1) = ap length split in omega (arith, l, h)) (ap (tokens_from 0 depth at) (sym split) ∙ e))
begun_lies fuel depth at b bs ts (Lexeme kind n) behind g s h e =
    let split : b ∷ bs ≡ s.0 ++ s.1 = s.2 in
    subst (λ x. Lies at x ts) (sym split) (token_lies fuel depth at kind s.0 s.1 ts behind (ap (begins depth) (sym split) ∙ g ∙ ap (Lexeme kind) s.3) (omega (arith, s.3, s.4)) s.5 (let l : length (b ∷ bs) ≡ length (s.0 ++ s.1) = ap length split in omega (arith, l, h)) (ap (tokens_from 0 depth at) (sym split) ∙ e))
begun_lies fuel depth at b bs ts (Fault number n) behind g s h e = absurd (not_both _ _ ts (fault_step depth at number n b bs g) e)

lies_from : (fuel : ℕ) → Behind fuel
lies_from fuel depth at [] ts h e = subst (λ x. Lies at [] x) (nothing_left (depth == 0) at ts e) (Lies.at_end at)
lies_from zero depth at (b ∷ bs) ts h e = absurd (omega arith)
lies_from (suc fuel) depth at (b ∷ bs) ts h e = begun_lies fuel depth at b bs ts (begins depth (b ∷ bs)) (lies_from fuel) refl (begin_spells depth b bs) h e

pub lies_of : (text : List ℕ) (ts : List Token) → tokens_of text ≡ Ok ts → Lies 0 text ts
lies_of text ts e = lies_from (length text) 0 0 text ts (omega arith) e

-- ---- the slices

pub spelled_some : (kind : Kind) (word rest : List ℕ) → Spells kind word rest → 0 < length word
spelled_some _ _ _ (Lies.opening rest) = omega arith
spelled_some _ _ _ (Lies.closing rest) = omega arith
spelled_some _ _ _ (Lies.quote rest) = omega arith
spelled_some _ _ _ (Lies.quoted body rest h) = omega arith
spelled_some _ _ _ (Lies.number word rest w n f) = w.some
spelled_some _ _ _ (Lies.symbol word rest w n) = w.some

rises_later : (at later : ℕ) (ts : List Token) → at ≤ later → Rises later ts → Rises at ts
rises_later at later [] h r = tt
rises_later at later (t ∷ ts) h r = (omega (arith, h, r.0), r.1, r.2)

rises_lying : (at : ℕ) (bs : List ℕ) (ts : List Token) → Lies at bs ts → Rises at ts
rises_lying _ _ _ (Lies.at_end at) = tt
rises_lying _ _ _ (Lies.blank at gap rest ts b l) = rises_later at (at + length gap) ts (omega arith) (rises_lying (at + length gap) rest ts l)
rises_lying _ _ _ (Lies.token at kind word rest ts s l) = (omega arith, omega (arith, spelled_some kind word rest s), rises_lying (at + length word) rest ts l)

joined_rising : (text : List ℕ) (at : ℕ) (ts : List Token) → Rises at ts → joined text at ts ≡ drop at text
joined_rising text at [] r = refl
joined_rising text at (t ∷ ts) r =
    append_assoc (slice_range text at t.start) (slice_range text t.start t.end) (joined text t.end ts)
    ∙ ap (λ x. slice_range text at t.start ++ (slice_range text t.start t.end ++ x)) (joined_rising text t.end ts r.2)
    ∙ ap (λ x. slice_range text at t.start ++ x) (sym (drop_split text t.start t.end (omega (arith, r.1))))
    ∙ sym (drop_split text at t.start r.0)

pub rises_of : (text : List ℕ) (ts : List Token) → tokens_of text ≡ Ok ts → Rises 0 ts
rises_of text ts e = rises_lying 0 text ts (lies_of text ts e)

pub join_of : (text : List ℕ) (ts : List Token) → tokens_of text ≡ Ok ts → joined text 0 ts ≡ text
join_of text ts e = joined_rising text 0 ts (rises_of text ts e)
