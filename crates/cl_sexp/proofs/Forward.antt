-- What reading keeps from token to token.
use Rattle.std.proofs.Common.{◌≡◌, ℕ, zero, suc, ◌+◌, ◌-◌, ◌<◌, ◌≤◌, List, [], ◌∷◌, ◌++◌, length, drop, take, refl, sym, ap, ◌∙◌, arith}
use Rattle.std.specs.Prelude.{All, Result, Ok, Err}
use Rattle.cl_sexp.specs.Tokens.{tokens_from, tokens_of, with_front, Nests, KeepsNest, least_len, InText, begins, depth_after}
use Rattle.cl_sexp.specs.declared.Kind.{Kind}
use Rattle.cl_sexp.specs.declared.begin.Begins.TheVariants.{Gap, Lexeme}
use Rattle.cl_sexp.specs.declared.Kind.TheVariants.{Open, Close, Quote, Int, Text, Symbol}
use Rattle.std.proofs.lemmas.List.{drop-drop, append_assoc, length-drop, take_all}
use Rattle.std.proofs.lemmas.List.Elements.{All-push}
use Rattle.cl_sexp.specs.declared.Token.{Token}

pub record Forward (text : List ℕ) (tokens : List Token) (depth at : ℕ) : Type 0 where
  pub within : at ≤ length text
  pub shallow : depth ≤ 64
  pub reads : with_front tokens (tokens_from 0 depth at (drop at text)) ≡ tokens_of text
  pub nested : (more : List Token) → Nests depth more → Nests 0 (tokens ++ more)
  pub inside : All (InText (length text)) tokens

-- the bytes of what began are passed over
pub skip : (k depth at : ℕ) (bs : List ℕ) → k ≤ length bs → tokens_from k depth (at + 1) bs ≡ tokens_from 0 depth (at + suc k) (drop k bs)
skip zero depth at bs h = let e : at + 1 ≡ at + suc zero = omega arith in ap (λ x. tokens_from 0 depth x bs) e
skip (suc k) depth at [] h = absurd (omega arith)
skip (suc k) depth at (b ∷ bs) h = let e : at + 1 + suc k ≡ at + suc (suc k) = omega arith in skip k depth (at + 1) bs (omega arith) ∙ ap (λ x. tokens_from 0 depth x (drop k bs)) e

pub gap_step : (depth at n : ℕ) (bs : List ℕ) → begins depth bs ≡ Gap n → 0 < n → n ≤ length bs → tokens_from 0 depth at bs ≡ tokens_from 0 depth (at + n) (drop n bs)
gap_step depth at n [] e p h = absurd (omega arith)
gap_step depth at zero (b ∷ bs) e p h = absurd (omega arith)
gap_step depth at (suc m) (b ∷ bs) e p h =
    let one : suc m - 1 ≡ m = omega arith in
    rw (e, tokens_from, one) (skip m depth at bs (omega arith))

pub token_step : (depth at n : ℕ) (kind : Kind) (bs : List ℕ) → begins depth bs ≡ Lexeme kind n → 0 < n → n ≤ length bs
    → tokens_from 0 depth at bs ≡ with_front (record { kind = kind; start = at; end = at + n } ∷ []) (tokens_from 0 (depth_after kind depth) (at + n) (drop n bs))
token_step depth at n kind [] e p h = absurd (omega arith)
token_step depth at zero kind (b ∷ bs) e p h = absurd (omega arith)
token_step depth at (suc m) kind (b ∷ bs) e p h =
    let one : suc m - 1 ≡ m = omega arith in
    rw (e, tokens_from, one) (ap (with_front (record { kind = kind; start = at; end = at + suc m } ∷ [])) (skip m (depth_after kind depth) at bs (omega arith)))

pub front_of_front : (xs : List Token) (t : Token) (r : Result (List Token) (ℕ × ℕ)) → with_front xs (with_front (t ∷ []) r) ≡ with_front (xs ++ t ∷ []) r
front_of_front xs t (Ok ys) = ap Ok (sym (append_assoc xs (t ∷ []) ys))
front_of_front xs t (Err e) = refl

rest_is : (text : List ℕ) (at : ℕ) → take (length text - at) (drop at text) ≡ drop at text
rest_is text at = take_all (length text - at) (drop at text) (omega (arith, length-drop at text))

pub forward_gap : (text : List ℕ) (tokens : List Token) (depth at n : ℕ) → Forward text tokens depth at → Gap n ≡ begins depth (take (length text - at) (drop at text)) → 0 < n → n ≤ length (take (length text - at) (drop at text))
    → Forward text tokens depth (at + n)
forward_gap text tokens depth at n f g p l =
    let e : begins depth (drop at text) ≡ Gap n = sym (g ∙ ap (begins depth) (rest_is text at)) in
    let h : n ≤ length (drop at text) = rw (rest_is text at) at l in
    record {
      within = omega (arith, length-drop at text, f.within, h);
      shallow = f.shallow;
      reads = ap (with_front tokens) (sym (gap_step depth at n (drop at text) e p h ∙ ap (tokens_from 0 depth (at + n)) (drop-drop n at text))) ∙ f.reads;
      nested = f.nested;
      inside = f.inside;
    }

pub keeps_shallow : (kind : Kind) (depth : ℕ) → depth ≤ 64 → KeepsNest kind depth → depth_after kind depth ≤ 64
keeps_shallow Open depth h k = omega arith
keeps_shallow Close depth h k = omega arith
keeps_shallow Quote depth h k = h
keeps_shallow (Int z) depth h k = h
keeps_shallow Text depth h k = h
keeps_shallow Symbol depth h k = h

has_byte : (kind : Kind) → 0 < least_len kind
has_byte Open = omega arith
has_byte Close = omega arith
has_byte Quote = omega arith
has_byte (Int z) = omega arith
has_byte Text = omega arith
has_byte Symbol = omega arith

pub forward_token : (text : List ℕ) (tokens : List Token) (depth at n : ℕ) (kind : Kind) → Forward text tokens depth at → Lexeme kind n ≡ begins depth (take (length text - at) (drop at text)) → least_len kind ≤ n → n ≤ length (take (length text - at) (drop at text))
    → KeepsNest kind depth → Forward text (tokens ++ record { kind = kind; start = at; end = at + n } ∷ []) (depth_after kind depth) (at + n)
forward_token text tokens depth at n kind f g a l k =
    let p : 0 < n = omega (arith, has_byte kind, a) in
    let e : begins depth (drop at text) ≡ Lexeme kind n = sym (g ∙ ap (begins depth) (rest_is text at)) in
    let h : n ≤ length (drop at text) = rw (rest_is text at) at l in
    let t : Token = record { kind = kind; start = at; end = at + n } in
    record {
      within = omega (arith, length-drop at text, f.within, h);
      shallow = keeps_shallow kind depth f.shallow k;
      reads = sym (front_of_front tokens t (tokens_from 0 (depth_after kind depth) (at + n) (drop (at + n) text)))
          ∙ ap (with_front tokens) (sym (token_step depth at n kind (drop at text) e p h ∙ ap (λ bs. with_front (t ∷ []) (tokens_from 0 (depth_after kind depth) (at + n) bs)) (drop-drop n at text)))
          ∙ f.reads;
      nested = λ more m. rw (append_assoc tokens (t ∷ []) more) (f.nested (t ∷ more) (k, m));
      inside = All-push (InText (length text)) tokens t f.inside (omega (arith, a), omega (arith, length-drop at text, f.within, h));
    }
