-- What the cut of a line means, in the words of its language.
use Rattle.std.specs.Prelude.{◌≡◌, ℕ, Bool, ◌==◌, ◌||◌, List, [], ◌∷◌, length, Some, if◌then◌else◌}
use Rattle.cl_line.specs.declared.elements.Element.{Element}
use Rattle.cl_line.specs.declared.tokens.Token.{Token}
use Rattle.cl_line.specs.declared.tokens.TokenKind.TheVariants as kind
use Rattle.cl_line.specs.Elements.{typed}
use Rattle.cl_line.specs.Texts.{text_of}
use Rattle.cl_line.specs.Tokens.{tokens_behind}

-- a character that stands behind a `\` in quotes
abbrev pub is_marked : ℕ → Bool
is_marked b = (b == 34) || (b == 92)

-- a text and its closing quote, as it is typed
abbrev pub closed : List ℕ → List ℕ
closed [] = 34 ∷ []
closed (b ∷ bs) = if is_marked b then 92 ∷ b ∷ closed bs else b ∷ closed bs

-- a text in quotes, as it is typed
abbrev pub in_quotes : List ℕ → List Element
in_quotes x = typed (34 ∷ closed x)

-- the one token of a line of so many elements
abbrev pub whole_token : ℕ → Token
whole_token count = record { kind = kind.Quoted; start = 0; end = count }

-- a line of any text in quotes is one token, and the text is what it gives
abbrev pub QuotesReadBack : Type 0
QuotesReadBack = (x : List ℕ)
    → (tokens_behind 0 (in_quotes x) ≡ whole_token (length (in_quotes x)) ∷ [])
    × (text_of (in_quotes x) (whole_token (length (in_quotes x))) ≡ Some x)
