-- The tokens of an application text, or the first refusal.
use Rattle.std.specs.Prelude.{◌≡◌, ℕ, zero, suc, ◌+◌, ◌-◌, ◌<◌, ◌≤◌, Bool, false, not, ◌==◌, List, [], ◌∷◌, ◌++◌, take, if◌then◌else◌, Result, Ok, Err, ⊤}
use Rattle.std.specs.List.{prefix_len}
use Rattle.cl_sexp.specs.Bytes.{is_space, in_comment, is_word, is_text}
use Rattle.cl_sexp.specs.Numbers.{is_number, number_of, fits_i64}
use Rattle.cl_sexp.specs.declared.Kind.{Kind}
use Rattle.cl_sexp.specs.declared.Kind.TheVariants.{Open, Close, Quote, Int, Text, Symbol}
use Rattle.cl_sexp.specs.declared.Token.{Token}
use Rattle.cl_sexp.specs.declared.begin.Begins.{Begins}
use Rattle.cl_sexp.specs.declared.begin.Begins.TheVariants.{Gap, Lexeme, Fault}

-- Refusals: 1 a byte that is not allowed, 2 the text ends inside a form or a text, or a `)` too many, 3 nesting above 64, 4 a number past i64.

-- a word of n bytes
abbrev pub word_begins : List ℕ → ℕ → Begins
word_begins word n = if is_number word then (if fits_i64 (number_of word) then Lexeme (Int (number_of word)) n else Fault 4 0) else Lexeme Symbol n

-- a text, of which these bytes follow the first n; the first of them may follow a `\`
abbrev pub text_begins : Bool → ℕ → List ℕ → Begins
text_begins escaped n [] = Fault 2 n
text_begins escaped n (b ∷ bs) =
    if not (is_text b) then Fault 1 n
    else (if escaped then text_begins false (n + 1) bs
    else (if b == 34 then Lexeme Text (n + 1)
    else text_begins (b == 92) (n + 1) bs))

-- what begins here, where so many forms are open: white space, a comment or a token of so many bytes, or a refusal so many bytes on
abbrev pub begins : ℕ → List ℕ → Begins
begins depth [] = Gap 0
begins depth (b ∷ bs) =
    if is_space b then Gap 1
    else (if b == 59 then Gap (prefix_len in_comment bs + 1)
    else (if b == 40 then (if depth == 64 then Fault 3 0 else Lexeme Open 1)
    else (if b == 41 then (if depth == 0 then Fault 2 0 else Lexeme Close 1)
    else (if b == 39 then Lexeme Quote 1
    else (if b == 34 then text_begins false 1 bs
    else (if is_word b then word_begins (take (prefix_len is_word (b ∷ bs)) (b ∷ bs)) (prefix_len is_word (b ∷ bs))
    else Fault 1 0))))))

-- how many forms are open behind a token
abbrev pub depth_after : Kind → ℕ → ℕ
depth_after Open depth = depth + 1
depth_after Close depth = depth - 1
depth_after Quote depth = depth
depth_after (Int z) depth = depth
depth_after Text depth = depth
depth_after Symbol depth = depth

-- the token keeps the nesting: no form is closed that is not open, and at most 64 are open at once
abbrev pub KeepsNest : Kind → ℕ → Type 0
KeepsNest Open depth = depth < 64
KeepsNest Close depth = 0 < depth
KeepsNest Quote depth = ⊤
KeepsNest (Int z) depth = ⊤
KeepsNest Text depth = ⊤
KeepsNest Symbol depth = ⊤

-- a list put before another, where there is one
abbrev pub with_front : {A E : Type 0} → List A → Result (List A) E → Result (List A) E
with_front xs (Ok ys) = Ok (xs ++ ys)
with_front xs (Err e) = Err e

-- the tokens of the bytes that stand at a place, where the first so many belong to what began before; or the first refusal and its place
abbrev pub tokens_from : ℕ → ℕ → ℕ → List ℕ → Result (List Token) (ℕ × ℕ)
tokens_from begun depth at [] = if depth == 0 then Ok [] else Err (2, at)
tokens_from (suc begun) depth at (b ∷ bs) = tokens_from begun depth (at + 1) bs
tokens_from zero depth at (b ∷ bs) =
    elim (begins depth (b ∷ bs)) [
      | Gap n ↦ tokens_from (n - 1) depth (at + 1) bs
      | Lexeme kind n ↦ with_front (record { kind = kind; start = at; end = at + n } ∷ []) (tokens_from (n - 1) (depth_after kind depth) (at + 1) bs)
      | Fault number n ↦ Err (number, at + n)
    ]

-- the tokens of a text; or the first refusal and its place
abbrev pub tokens_of : List ℕ → Result (List Token) (ℕ × ℕ)
tokens_of text = tokens_from 0 0 0 text

-- ---- what the next stage may rely on

-- from so many open forms on, each form is closed, none is closed twice, and at most 64 are open at once
abbrev pub Nests : ℕ → List Token → Type 0
Nests depth [] = depth ≡ 0
Nests depth (t ∷ ts) = KeepsNest t.kind depth × Nests (depth_after t.kind depth) ts

-- a token has a byte, and a text its two quotes
abbrev pub least_len : Kind → ℕ
least_len Open = 1
least_len Close = 1
least_len Quote = 1
least_len (Int z) = 1
least_len Text = 2
least_len Symbol = 1

-- the token lies in a text of this length
abbrev pub InText : ℕ → Token → Type 0
InText len t = (t.start + least_len t.kind ≤ t.end) × (t.end ≤ len)
