-- A text in quotes is one token, and what this gives is the text.
use Rattle.std.proofs.Common.{◌≡◌, ℕ, ◌+◌, ◌-◌, ◌==◌, ◌||◌, Bool, true, false, List, [], ◌∷◌, length, refl, sym, ap, ◌∙◌, Some, arith}
use Rattle.std.specs.Prelude.{if◌then◌else◌, option_map}
use Rattle.std.proofs.lemmas.List.{take_all}
use Rattle.cl_line.specs.declared.elements.Element.{Element}
use Rattle.cl_line.specs.declared.tokens.Token.{Token}
use Rattle.cl_line.specs.declared.tokens.TokenKind.TheVariants as kind
use Rattle.cl_line.specs.Elements.{characters, typed}
use Rattle.cl_line.specs.Laws.{QuotesReadBack, closed, in_quotes, is_marked, whole_token}
use Rattle.cl_line.specs.Texts.{elements_of, text_by, text_of, unquoted}
use Rattle.cl_line.specs.Tokens.{quote_length, tokens_behind, tokens_from}
use Rattle.cl_line.proofs.TypedLemmas.{characters-typed}

-- neither of two tests
neither : (a b : Bool) → (a || b) ≡ false → (a ≡ false) × (b ≡ false)
neither true b h = cc
neither false b h = (refl, h)

-- the quotes end with the closing one
closed_by : (b : ℕ) (bs : List ℕ) (marked : Bool) → is_marked b ≡ marked → quote_length false (typed (closed bs)) ≡ Some (length (closed bs))
    → quote_length false (typed (if marked then 92 ∷ b ∷ closed bs else b ∷ closed bs)) ≡ Some (length (if marked then 92 ∷ b ∷ closed bs else b ∷ closed bs))
closed_by b bs true m h =
    let more : 1 + (1 + length (closed bs)) ≡ length (92 ∷ b ∷ closed bs) = omega arith in
    ap (option_map (λ n. 1 + n)) (ap (option_map (λ n. 1 + n)) h) ∙ ap Some more
closed_by b bs false m h =
    let parts = neither (b == 34) (b == 92) m in
    let more : 1 + length (closed bs) ≡ length (b ∷ closed bs) = omega arith in
    rw (parts.0, parts.1) (ap (option_map (λ n. 1 + n)) h ∙ ap Some more)

closed_length : (x : List ℕ) → quote_length false (typed (closed x)) ≡ Some (length (closed x))
closed_length [] = refl
closed_length (b ∷ bs) = closed_by b bs (is_marked b) refl (closed_length bs)

-- what stands in them is the text
inside_by : (b : ℕ) (bs : List ℕ) (marked : Bool) → is_marked b ≡ marked → unquoted false (closed bs) ≡ bs
    → unquoted false (if marked then 92 ∷ b ∷ closed bs else b ∷ closed bs) ≡ b ∷ bs
inside_by b bs true m h = ap (λ x. b ∷ x) h
inside_by b bs false m h = let parts = neither (b == 34) (b == 92) m in rw (parts.0, parts.1) (ap (λ x. b ∷ x) h)

inside_of : (x : List ℕ) → unquoted false (closed x) ≡ x
inside_of [] = refl
inside_of (b ∷ bs) = inside_by b bs (is_marked b) refl (inside_of bs)

-- no token stands behind all elements
none_behind : (es : List Element) (at : ℕ) → tokens_from (length es) at es ≡ []
none_behind [] at = refl
none_behind (e ∷ es) at = none_behind es (at + 1)

length-typed : (bytes : List ℕ) → length (typed bytes) ≡ length bytes
length-typed [] = refl
length-typed (b ∷ bs) = omega (arith, length-typed bs)

one_token : (x : List ℕ) → tokens_behind 0 (in_quotes x) ≡ whole_token (length (in_quotes x)) ∷ []
one_token x =
    let es = typed (closed x) in
    let ends : quote_length false es ≡ Some (length es) = closed_length x ∙ ap Some (sym (length-typed (closed x))) in
    let t : Token = whole_token (length (in_quotes x)) in
    let rest : (1 + length es) - 1 ≡ length es = omega arith in
    let none : tokens_from ((1 + length es) - 1) 1 es ≡ [] = ap (λ k. tokens_from k 1 es) rest ∙ none_behind es 1 in
    let same : 0 + (1 + length es) ≡ length (in_quotes x) = omega arith in
    rw (ends, same) (ap (λ ts. t ∷ ts) none)

text_whole : (x : List ℕ) → text_of (in_quotes x) (whole_token (length (in_quotes x))) ≡ Some x
text_whole x =
    let line = in_quotes x in
    let whole : elements_of line (whole_token (length line)) ≡ line = take_all (length line - 0) line (omega arith) in
    let bytes : characters line ≡ 34 ∷ closed x = characters-typed (34 ∷ closed x) in
    ap (λ es. text_by kind.Quoted (characters es)) whole ∙ ap (text_by kind.Quoted) bytes ∙ ap Some (inside_of x)

pub quotes_read_back : QuotesReadBack
quotes_read_back x = (one_token x, text_whole x)
