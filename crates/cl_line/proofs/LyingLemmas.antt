-- The tokens of a line lie in it.
use Rattle.std.proofs.Common.{◌≡◌, ℕ, zero, suc, ◌+◌, ◌==◌, ◌<◌, ◌≤◌, Bool, true, false, List, [], ◌∷◌, ◌++◌, length, drop, take, refl, sym, ap, subst, ◌∙◌, ◌⊎◌, inl, inr, Some, None, arith, length-append, append_assoc}
use Rattle.std.specs.Prelude.{if◌then◌else◌, IsTrue, Option, option_map}
use Rattle.std.specs.List.{list_all, prefix_len}
use Rattle.std.proofs.lemmas.Bool.{eqb-true}
use Rattle.std.proofs.lemmas.List.{take-append-drop, length-take-le}
use Rattle.std.proofs.lemmas.List.Sums.{prefix_len-le-length}
use Rattle.std.proofs.Math.Seq.{drop-append_seam}
use Rattle.cl_line.specs.declared.elements.Element.{Element}
use Rattle.cl_line.specs.declared.elements.Element.TheVariants.{Char, Object}
use Rattle.cl_line.specs.declared.tokens.Token.{Token}
use Rattle.cl_line.specs.declared.tokens.TokenKind.{TokenKind}
use Rattle.cl_line.specs.declared.tokens.TokenKind.TheVariants as kind
use Rattle.cl_line.specs.Elements.{is_character, is_in_word, is_space}
use Rattle.cl_line.specs.Lies
use Rattle.cl_line.specs.Lies.{Lies, Spells, Stops, TokensLie, is_enclosed, is_endless}
use Rattle.cl_line.specs.Tokens.{Lexeme, lexeme, quote_length, quote_lexeme, tokens_behind, tokens_from}
use Rattle.cl_line.proofs.TokenLemmas.{first_token}

is_or_not : (b : Bool) → (b ≡ true) ⊎ (b ≡ false)
is_or_not true = inl refl
is_or_not false = inr refl

-- ---- runs

run_more : (test : Element → Bool) (m : ℕ) (e : Element) (es : List Element) → suc m ≡ prefix_len test (e ∷ es) → (test e ≡ true) × (m ≡ prefix_len test es)
run_more test m e es h = elim (is_or_not (test e)) [
  | inl t ↦ (t, (let f : suc m ≡ 1 + prefix_len test es = rw t at h in omega (arith, f)))
  | inr t ↦ absurd (let f : suc m ≡ 0 = rw t at h in omega (arith, f))
]

run_whole : (test : Element → Bool) (n : ℕ) (es : List Element) → n ≡ prefix_len test es → list_all test (take n es) ≡ true
run_whole test zero es h = refl
run_whole test (suc m) [] h = refl
run_whole test (suc m) (e ∷ es) h =
    let r = run_more test m e es h in
    let all : list_all test (take m es) ≡ true = run_whole test m es r.1 in
    rw (r.0, all) refl

run_longest : (test : Element → Bool) (n : ℕ) (es : List Element) → n ≡ prefix_len test es → Stops test (drop n es)
run_longest test zero [] h = tt
run_longest test (suc m) [] h = tt
run_longest test zero (e ∷ es) h = elim (is_or_not (test e)) [
  | inl t ↦ absurd (let f : 0 ≡ 1 + prefix_len test es = rw t at h in omega (arith, f))
  | inr t ↦ t
]
run_longest test (suc m) (e ∷ es) h = run_longest test m es (run_more test m e es h).1

run_length : (test : Element → Bool) (es : List Element) → length (take (prefix_len test es) es) ≡ prefix_len test es
run_length test es = length-take-le (prefix_len test es) es (prefix_len-le-length test es)

-- ---- quotes

-- what stands behind an opening quote
abbrev Quotes : Bool → List Element → Option ℕ → Type 0
Quotes escaped es None = is_endless escaped (take (prefix_len is_character es) es) ≡ true
Quotes escaped es (Some n) = (body : List Element) × (rest : List Element) × (es ≡ body ++ Char 34 ∷ rest) × (n ≡ length body + 1) × IsTrue (is_enclosed escaped body)

quotes_more : (escaped next : Bool) (b : ℕ) (es : List Element) (r : Option ℕ) → ((body : List Element) → is_enclosed next body ≡ true → is_enclosed escaped (Char b ∷ body) ≡ true)
    → ((body : List Element) → is_endless next body ≡ true → is_endless escaped (Char b ∷ body) ≡ true) → Quotes next es r → Quotes escaped (Char b ∷ es) (option_map (λ n. 1 + n) r)
quotes_more escaped next b es None f g q =
    let m = prefix_len is_character es in
    let count : suc m ≡ 1 + m = omega arith in
    subst (λ k. is_endless escaped (take k (Char b ∷ es)) ≡ true) count (g (take m es) q)
quotes_more escaped next b es (Some n) f g q = (Char b ∷ q.0, q.1, ap (λ x. Char b ∷ x) q.2, omega (arith, q.3), f q.0 q.4)

quote_ends : (b : ℕ) (es : List Element) → b ≡ 34 → Quotes false (Char b ∷ es) (Some 1)
quote_ends b es h = ([], es, ap (λ x. Char x ∷ es) h, refl, refl)

char_by : (b : ℕ) (es : List Element) (closes : Bool) → (b == 34) ≡ closes → Quotes (b == 92) es (quote_length (b == 92) es)
    → Quotes false (Char b ∷ es) (if closes then Some 1 else option_map (λ n. 1 + n) (quote_length (b == 92) es))
char_by b es true h q = quote_ends b es (eqb-true b 34 h)
char_by b es false h q = quotes_more false (b == 92) b es (quote_length (b == 92) es) (λ body e. rw (h, e) refl) (λ body e. rw (h, e) refl) q

quotes : (escaped : Bool) (es : List Element) → Quotes escaped es (quote_length escaped es)
quotes true [] = refl
quotes false [] = refl
quotes true (Object v ∷ es) = refl
quotes false (Object v ∷ es) = refl
quotes true (Char b ∷ es) = quotes_more true false b es (quote_length false es) (λ body e. e) (λ body e. e) (quotes false es)
quotes false (Char b ∷ es) = char_by b es (b == 34) refl (quotes (b == 92) es)

-- ---- what begins

-- these elements begin with the token
abbrev Begins : Lexeme → List Element → Type 0
Begins l all = (es : List Element) × (rest : List Element) × (all ≡ es ++ rest) × (l.count ≡ length es) × Spells l.kind es rest

quote_begins : (es : List Element) (r : Option ℕ) → Quotes false es r → Begins (quote_lexeme r es) (Char 34 ∷ es)
quote_begins es None q =
    let m = prefix_len is_character es in
    (Char 34 ∷ take m es, drop m es, ap (λ x. Char 34 ∷ x) (sym (take-append-drop m es)), omega (arith, run_length is_character es), Lies.unended (take m es) (drop m es) q (run_longest is_character m es refl))
quote_begins es (Some n) q =
    let end = Char 34 ∷ [] in
    (Char 34 ∷ q.0 ++ end, q.1, ap (λ x. Char 34 ∷ x) (q.2 ∙ sym (append_assoc q.0 end q.1)), omega (arith, q.3, length-append q.0 end), Lies.quoted q.0 q.1 q.4)

word_begins : (b : ℕ) (es : List Element) → (b == 32) ≡ false → (b == 34) ≡ false → Begins (record { kind = kind.Plain; count = 1 + prefix_len is_in_word es }) (Char b ∷ es)
word_begins b es s q =
    let m = prefix_len is_in_word es in
    (Char b ∷ take m es, drop m es, ap (λ x. Char b ∷ x) (sym (take-append-drop m es)), omega (arith, run_length is_in_word es), Lies.plain b (take m es) (drop m es) s q (run_whole is_in_word m es refl) (run_longest is_in_word m es refl))

char_begins : (b : ℕ) (es : List Element) (opens : Bool) → (b == 34) ≡ opens → (b == 32) ≡ false
    → Begins (if opens then quote_lexeme (quote_length false es) es else record { kind = kind.Plain; count = 1 + prefix_len is_in_word es }) (Char b ∷ es)
char_begins b es true h s =
    subst (λ x. Begins (quote_lexeme (quote_length false es) es) (Char x ∷ es)) (sym (eqb-true b 34 h)) (quote_begins es (quote_length false es) (quotes false es))
char_begins b es false h s = word_begins b es s h

begins : (first : Element) (es : List Element) → is_space first ≡ false → Begins (lexeme first es) (first ∷ es)
begins (Object v) es s = (Object v ∷ [], es, refl, refl, Lies.object v es)
begins (Char b) es s = char_begins b es (b == 34) refl s

-- ---- the tokens

space_is : (first : Element) → is_space first ≡ true → first ≡ Char 32
space_is (Char b) h = ap Char (eqb-true b 32 h)
space_is (Object v) h = cc

has_some : (k : TokenKind) (es rest : List Element) → Spells k es rest → 0 < length es
has_some _ _ _ (Lies.object v rest) = omega arith
has_some _ _ _ (Lies.plain b es rest s q a l) = omega arith
has_some _ _ _ (Lies.quoted es rest h) = omega arith
has_some _ _ _ (Lies.unended es rest h l) = omega arith

-- what lies behind, for shorter elements
abbrev Shorter : ℕ → Type 0
Shorter fuel = (at : ℕ) (es : List Element) → length es ≤ fuel → Lies at es (tokens_from 0 at es)

token_lies : (fuel at : ℕ) (first : Element) (es : List Element) → Shorter fuel → length (first ∷ es) ≤ suc fuel → is_space first ≡ false → Lies at (first ∷ es) (tokens_from 0 at (first ∷ es))
token_lies fuel at first es shorter h s =
    let l = lexeme first es in
    let b = begins first es s in
    let word = b.0 in let rest = b.1 in
    let split : first ∷ es ≡ word ++ rest = b.2 in
    let count : l.count ≡ length word = b.3 in
    let some = has_some l.kind word rest b.4 in
    let long : length (first ∷ es) ≡ length word + length rest = ap length split ∙ length-append word rest in
    let found = first_token at first es l.kind l.count refl s (omega (arith, count, some)) (omega (arith, count, long)) in
    let behind : drop l.count (first ∷ es) ≡ rest = ap (λ n. drop n (first ∷ es)) count ∙ ap (drop (length word)) split ∙ drop-append_seam word rest in
    let t : Token = record { kind = l.kind; start = at; end = at + length word } in
    let tokens : tokens_from 0 at (first ∷ es) ≡ t ∷ tokens_from 0 (at + length word) rest =
    found ∙ ap (λ n. record { kind = l.kind; start = at; end = at + n } ∷ tokens_from 0 (at + n) (drop l.count (first ∷ es))) count ∙ ap (λ x. t ∷ tokens_from 0 (at + length word) x) behind in
    let lies = Lies.token at l.kind word rest (tokens_from 0 (at + length word) rest) b.4 (shorter (at + length word) rest (omega (arith, long, some, h))) in
    subst (λ ts. Lies at (first ∷ es) ts) (sym tokens) (subst (λ x. Lies at x (t ∷ tokens_from 0 (at + length word) rest)) (sym split) lies)

space_lies : (fuel at : ℕ) (first : Element) (es : List Element) → Shorter fuel → length (first ∷ es) ≤ suc fuel → is_space first ≡ true → Lies at (first ∷ es) (tokens_from 0 at (first ∷ es))
space_lies fuel at first es shorter h s =
    let lies : Lies at (Char 32 ∷ es) (tokens_from 0 (at + 1) es) = Lies.space at es (tokens_from 0 (at + 1) es) (shorter (at + 1) es (omega (arith, h))) in
    subst (λ f. Lies at (f ∷ es) (tokens_from 0 at (f ∷ es))) (sym (space_is first s)) lies

lies_from : (fuel : ℕ) → Shorter fuel
lies_from fuel at [] h = Lies.at_end at
lies_from zero at (e ∷ es) h = absurd (omega (arith, h))
lies_from (suc fuel) at (e ∷ es) h = elim (is_or_not (is_space e)) [
  | inl s ↦ space_lies fuel at e es (lies_from fuel) h s
  | inr s ↦ token_lies fuel at e es (lies_from fuel) h s
]

pub tokens_lie : TokensLie (tokens_behind 0)
tokens_lie line = lies_from (length line) 0 line (omega arith)
