-- What lies in the text and nests is what is read.
use Rattle.std.proofs.Common.{◌≡◌, ℕ, suc, ◌+◌, ◌<◌, ◌≤◌, Bool, true, false, List, [], ◌∷◌, ◌++◌, length, length-append, take, refl, ap, ◌∙◌, arith}
use Rattle.std.proofs.lemmas.Bool.{eqb-true, leb-true}
use Rattle.std.proofs.Math.Seq.{drop-append_seam, take-append_seam}
use Rattle.std.specs.Prelude.{not, ◌&&◌, ◌==◌, nat_le, Ok}
use Rattle.std.specs.List.{list_all, prefix_len}
use Rattle.cl_sexp.specs.Bytes.{is_space, in_comment, is_word, is_text}
use Rattle.cl_sexp.specs.Tokens.{begins, word_begins, text_begins, tokens_from, tokens_of, with_front, depth_after, KeepsNest, Nests}
use Rattle.cl_sexp.specs.Lies
use Rattle.cl_sexp.specs.Lies.{Stops, IsBlank, is_quoted, IsWord, Spells, Lies}
use Rattle.cl_sexp.specs.declared.Kind.{Kind}
use Rattle.cl_sexp.specs.declared.Kind.TheVariants.{Text}
use Rattle.cl_sexp.specs.declared.Token.{Token}
use Rattle.cl_sexp.specs.declared.begin.Begins.TheVariants.{Gap, Lexeme}
use Rattle.cl_sexp.proofs.Forward.{gap_step, token_step}
use Rattle.cl_sexp.proofs.Lying.{spelled_some}

pub both_true : (a b : Bool) → (a && b) ≡ true → (a ≡ true) × (b ≡ true)
both_true true b h = (refl, h)
both_true false b h = (cc, cc)

pub not_true : (b : Bool) → not b ≡ true → b ≡ false
not_true true h = cc
not_true false h = refl

pub differ : (m n : ℕ) → (m ≡ n → ⊥) → (m == n) ≡ false
differ m n h = differ_by (m == n) refl
  where
    differ_by : (b : Bool) → (m == n) ≡ b → b ≡ false
    differ_by true e = absurd (h (eqb-true m n e))
    differ_by false e = refl

-- ---- runs

run_prefix : (test : ℕ → Bool) (run rest : List ℕ) → list_all test run ≡ true → Stops test rest → prefix_len test (run ++ rest) ≡ length run
run_prefix test [] [] h s = refl
run_prefix test [] (b ∷ bs) h s = rw s refl
run_prefix test (b ∷ run) rest h s =
    let both : (test b ≡ true) × (list_all test run ≡ true) = both_true (test b) (list_all test run) h in
    let first : test b ≡ true = both.0 in
    let more : prefix_len test (run ++ rest) ≡ length run = run_prefix test run rest both.1 s in
    rw (first, more) (omega arith)

pub blank_begins : (depth : ℕ) (gap rest : List ℕ) → IsBlank gap rest → begins depth (gap ++ rest) ≡ Gap (length gap)
blank_begins depth _ _ (Lies.space b rest h) = rw h refl
blank_begins depth _ _ (Lies.comment bs rest h s) =
    let n : prefix_len in_comment (bs ++ rest) + 1 ≡ suc (length bs) = omega (arith, run_prefix in_comment bs rest h s) in
    ap Gap n

pub blank_some : (gap rest : List ℕ) → IsBlank gap rest → 0 < length gap
blank_some _ _ (Lies.space b rest h) = omega arith
blank_some _ _ (Lies.comment bs rest h s) = omega arith

-- ---- texts

text_body : (escaped : Bool) (n : ℕ) (body rest : List ℕ) → is_quoted escaped body ≡ true → text_begins escaped n (body ++ 34 ∷ [] ++ rest) ≡ Lexeme Text (n + length body + 1)
text_body true n [] rest h = cc
text_body false n [] rest h = let e : n + 1 ≡ n + 0 + 1 = omega arith in ap (Lexeme Text) e
text_body true n (b ∷ body) rest h =
    let both : (is_text b ≡ true) × (is_quoted false body ≡ true) = both_true (is_text b) _ h in
    let good : is_text b ≡ true = both.0 in
    let e : n + 1 + length body + 1 ≡ n + suc (length body) + 1 = omega arith in
    rw good (text_body false (n + 1) body rest both.1 ∙ ap (Lexeme Text) e)
text_body false n (b ∷ body) rest h =
    let both : (is_text b ≡ true) × ((not (b == 34) && is_quoted (b == 92) body) ≡ true) = both_true (is_text b) _ h in
    let others : (not (b == 34) ≡ true) × (is_quoted (b == 92) body ≡ true) = both_true (not (b == 34)) _ both.1 in
    let good : is_text b ≡ true = both.0 in
    let plain : (b == 34) ≡ false = not_true _ others.0 in
    let e : n + 1 + length body + 1 ≡ n + suc (length body) + 1 = omega arith in
    rw (good, plain) (text_body (b == 92) (n + 1) body rest others.1 ∙ ap (Lexeme Text) e)

-- ---- words

-- a byte of a word begins nothing else
record Plain (b : ℕ) : Type 0 where
  space : is_space b ≡ false
  semicolon : (b == 59) ≡ false
  opening : (b == 40) ≡ false
  closing : (b == 41) ≡ false
  quote : (b == 39) ≡ false
  quotes : (b == 34) ≡ false

plain_of : (b : ℕ) → is_word b ≡ true → Plain b
plain_of b h =
    let a6 : ((nat_le 33 b && nat_le b 126 && not (b == 40) && not (b == 41) && not (b == 39) && not (b == 34)) ≡ true) × (not (b == 59) ≡ true) = both_true _ _ h in
    let a5 : ((nat_le 33 b && nat_le b 126 && not (b == 40) && not (b == 41) && not (b == 39)) ≡ true) × (not (b == 34) ≡ true) = both_true _ _ a6.0 in
    let a4 : ((nat_le 33 b && nat_le b 126 && not (b == 40) && not (b == 41)) ≡ true) × (not (b == 39) ≡ true) = both_true _ _ a5.0 in
    let a3 : ((nat_le 33 b && nat_le b 126 && not (b == 40)) ≡ true) × (not (b == 41) ≡ true) = both_true _ _ a4.0 in
    let a2 : ((nat_le 33 b && nat_le b 126) ≡ true) × (not (b == 40) ≡ true) = both_true _ _ a3.0 in
    let a1 : (nat_le 33 b ≡ true) × (nat_le b 126 ≡ true) = both_true _ _ a2.0 in
    let low : 33 ≤ b = leb-true 33 b a1.0 in
    let s9 : (b == 9) ≡ false = differ b 9 (λ e. omega (arith, low, e)) in
    let s10 : (b == 10) ≡ false = differ b 10 (λ e. omega (arith, low, e)) in
    let s13 : (b == 13) ≡ false = differ b 13 (λ e. omega (arith, low, e)) in
    let s32 : (b == 32) ≡ false = differ b 32 (λ e. omega (arith, low, e)) in
    record {
      space = rw (s9, s10, s13, s32) refl;
      semicolon = not_true _ a6.1;
      opening = not_true _ a2.1;
      closing = not_true _ a3.1;
      quote = not_true _ a4.1;
      quotes = not_true _ a5.1;
    }

pub word_read : (depth : ℕ) (word rest : List ℕ) → IsWord word rest → begins depth (word ++ rest) ≡ word_begins word (length word)
word_read depth [] rest w = absurd (omega (arith, w.some))
word_read depth (b ∷ word) rest w =
    let both : (is_word b ≡ true) × (list_all is_word word ≡ true) = both_true (is_word b) _ w.whole in
    let first : is_word b ≡ true = both.0 in
    let p : Plain b = plain_of b first in
    let n : 1 + prefix_len is_word (word ++ rest) ≡ suc (length word) = omega (arith, run_prefix is_word word rest both.1 w.longest) in
    let front : take (length word) (word ++ rest) ≡ word = take-append_seam word rest in
    rw (first, p.space, p.semicolon, p.opening, p.closing, p.quote, p.quotes, n, front) refl

-- ---- tokens

pub spells_begins : (depth : ℕ) (kind : Kind) (word rest : List ℕ) → Spells kind word rest → KeepsNest kind depth → begins depth (word ++ rest) ≡ Lexeme kind (length word)
spells_begins depth _ _ _ (Lies.opening rest) k = let e : (depth == 64) ≡ false = differ depth 64 (λ e. omega arith) in rw e refl
spells_begins depth _ _ _ (Lies.closing rest) k = let e : (depth == 0) ≡ false = differ depth 0 (λ e. omega arith) in rw e refl
spells_begins depth _ _ _ (Lies.quote rest) k = refl
spells_begins depth _ _ _ (Lies.quoted body rest h) k =
    let e : 1 + length body + 1 ≡ suc (length (body ++ 34 ∷ [])) = omega (arith, length-append body (34 ∷ [])) in
    text_body false 1 body rest h ∙ ap (Lexeme Text) e
spells_begins depth _ _ _ (Lies.number word rest w n f) k = word_read depth word rest w ∙ (rw (n, f) refl)
spells_begins depth _ _ _ (Lies.symbol word rest w n) k = word_read depth word rest w ∙ (rw n refl)

read_at : (at : ℕ) (bs : List ℕ) (ts : List Token) → Lies at bs ts → (depth : ℕ) → Nests depth ts → tokens_from 0 depth at bs ≡ Ok ts
read_at _ _ _ (Lies.at_end at) depth n = rw n refl
read_at _ _ _ (Lies.blank at gap rest ts b l) depth n =
    let len : length (gap ++ rest) ≡ length gap + length rest = length-append gap rest in
    gap_step depth at (length gap) (gap ++ rest) (blank_begins depth gap rest b) (blank_some gap rest b) (omega (arith, len))
    ∙ ap (tokens_from 0 depth (at + length gap)) (drop-append_seam gap rest) ∙ read_at (at + length gap) rest ts l depth n
read_at _ _ _ (Lies.token at kind word rest ts s l) depth n =
    let len : length (word ++ rest) ≡ length word + length rest = length-append word rest in
    let t : Token = record { kind = kind; start = at; end = at + length word } in
    token_step depth at (length word) kind (word ++ rest) (spells_begins depth kind word rest s n.0) (spelled_some kind word rest s) (omega (arith, len))
    ∙ ap (λ x. with_front (t ∷ []) (tokens_from 0 (depth_after kind depth) (at + length word) x)) (drop-append_seam word rest)
    ∙ ap (with_front (t ∷ [])) (read_at (at + length word) rest ts l (depth_after kind depth) n.1)

pub read_of : (text : List ℕ) (ts : List Token) → Lies 0 text ts → Nests 0 ts → tokens_of text ≡ Ok ts
read_of text ts l n = read_at 0 text ts l 0 n
