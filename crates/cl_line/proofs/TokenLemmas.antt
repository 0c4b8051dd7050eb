-- The first token of elements, and those behind it.
use Rattle.std.proofs.Common.{◌≡◌, ℕ, zero, suc, ◌+◌, ◌-◌, ◌<◌, ◌≤◌, false, List, [], ◌∷◌, length, drop, get_or, sym, ap, ◌∙◌, refl, arith, drop-cons}
use Rattle.std.proofs.lemmas.List.{drop-drop}
use Rattle.cl_line.specs.declared.elements.Element.{Element}
use Rattle.cl_line.specs.declared.tokens.Token.{Token}
use Rattle.cl_line.specs.declared.tokens.TokenKind.{TokenKind}
use Rattle.cl_line.specs.Elements.{is_space}
use Rattle.cl_line.specs.Tokens.{LiesBehind, lexeme, token_at, tokens_behind, tokens_from}

-- the element at a place, and those behind it
drop-here : (line : List Element) (at : ℕ) (first : Element) → at < length line → first ≡ get_or line at first → drop at line ≡ first ∷ drop (at + 1) line
drop-here line at first within is =
    let next : suc at ≡ at + 1 = omega arith in
    drop-cons line at first within ∙ (ap (λ y. y ∷ drop (suc at) line) (sym is) ∙ ap (λ n. first ∷ drop n line) next)

-- what began is passed over
pub skip : (k at : ℕ) (es : List Element) → k ≤ length es → tokens_from k (at + 1) es ≡ tokens_from 0 (at + suc k) (drop k es)
skip zero at es h = let e : at + 1 ≡ at + suc zero = omega arith in ap (λ x. tokens_from 0 x es) e
skip (suc k) at [] h = absurd (omega arith)
skip (suc k) at (e ∷ es) h =
    let more : at + 1 + suc k ≡ at + suc (suc k) = omega arith in
    skip k (at + 1) es (omega arith) ∙ ap (λ x. tokens_from 0 x (drop k es)) more

-- a token that begins, and those behind it
pub first_token : (at : ℕ) (first : Element) (rest : List Element) (kind : TokenKind) (count : ℕ) → lexeme first rest ≡ record { kind = kind; count = count } → is_space first ≡ false
    → 0 < count → count ≤ 1 + length rest
    → tokens_from 0 at (first ∷ rest) ≡ record { kind = kind; start = at; end = at + count } ∷ tokens_from 0 (at + count) (drop count (first ∷ rest))
first_token at first rest kind zero is s some within = absurd (omega arith)
first_token at first rest kind (suc k) is s some within =
    let one : suc k - 1 ≡ k = omega arith in
    let t : Token = record { kind = kind; start = at; end = at + suc k } in
    rw (s, is, tokens_from, one) (ap (λ ts. t ∷ ts) (skip k at rest (omega (arith, within))))

-- the token that begins at a place of a line, and those behind it
pub token_found : (line : List Element) (at : ℕ) (first : Element) (t : Token) → at < length line → first ≡ get_or line at first → is_space first ≡ false
    → t ≡ token_at at (lexeme first (drop (at + 1) line)) → LiesBehind at (at + 1 + length (drop (at + 1) line)) t
    → tokens_behind at line ≡ t ∷ tokens_behind t.end line
token_found line at first t within here_is s is lies =
    let rest = drop (at + 1) line in
    let l = lexeme first rest in
    let starts : t.start ≡ at = ap (λ (u : Token). u.start) is in
    let ends : t.end ≡ at + l.count = ap (λ (u : Token). u.end) is in
    let here = drop-here line at first within here_is in
    let behind : drop l.count (first ∷ rest) ≡ drop t.end line = ap (drop l.count) (sym here) ∙ drop-drop l.count at line ∙ ap (λ n. drop n line) (sym ends) in
    let found = first_token at first rest l.kind l.count refl s (omega (arith, lies.some, starts, ends)) (omega (arith, lies.within, ends)) in
    ap (tokens_from 0 at) here ∙ found ∙ ap (λ ts. token_at at l ∷ ts) (ap (λ n. tokens_from 0 n (drop l.count (first ∷ rest))) (sym ends) ∙ ap (tokens_from 0 t.end) behind)
    ∙ ap (λ u. u ∷ tokens_behind t.end line) (sym is)
