-- How tokens lie in a line: spaces alone stand between them, and each is as long as it can be.
use Rattle.std.specs.Prelude.{◌≡◌, ℕ, ◌+◌, Bool, true, false, not, ◌&&◌, ◌==◌, List, [], ◌∷◌, ◌++◌, length, IsTrue, ⊤}
use Rattle.std.specs.List.{list_all}
use Rattle.cl_value.specs.declared.Value.{Value}
use Rattle.cl_line.specs.declared.elements.Element.{Element}
use Rattle.cl_line.specs.declared.elements.Element.TheVariants.{Char, Object}
use Rattle.cl_line.specs.declared.tokens.Token.{Token}
use Rattle.cl_line.specs.declared.tokens.TokenKind.{TokenKind}
use Rattle.cl_line.specs.declared.tokens.TokenKind.TheVariants as kind
use Rattle.cl_line.specs.Elements.{is_character, is_in_word}

-- a run ends before these elements: there is none, or the first one fails the test
abbrev pub Stops : (Element → Bool) → List Element → Type 0
Stops test [] = ⊤
Stops test (e ∷ es) = test e ≡ false

-- characters without a quote that ends them: each `"` follows a `\`, which takes the next character with it
abbrev pub is_endless : (escaped : Bool) → List Element → Bool
is_endless escaped [] = true
is_endless true (Char b ∷ es) = is_endless false es
is_endless false (Char b ∷ es) = not (b == 34) && is_endless (b == 92) es
is_endless escaped (Object v ∷ es) = false

-- the same, and the last `\` takes a character with it
abbrev pub is_enclosed : (escaped : Bool) → List Element → Bool
is_enclosed escaped [] = not escaped
is_enclosed true (Char b ∷ es) = is_enclosed false es
is_enclosed false (Char b ∷ es) = not (b == 34) && is_enclosed (b == 92) es
is_enclosed escaped (Object v ∷ es) = false

-- the elements of a token before the rest
pub data Spells : TokenKind → List Element → List Element → Type 0 where
  object : (v : Value) (rest : List Element) → Spells kind.Object (Object v ∷ []) rest
  plain : (b : ℕ) (es rest : List Element) → (b == 32) ≡ false → (b == 34) ≡ false → IsTrue (list_all is_in_word es) → Stops is_in_word rest
      → Spells kind.Plain (Char b ∷ es) rest
  quoted : (es rest : List Element) → IsTrue (is_enclosed false es) → Spells kind.Quoted (Char 34 ∷ es ++ Char 34 ∷ []) rest
  unended : (es rest : List Element) → IsTrue (is_endless false es) → Stops is_character rest → Spells kind.Open (Char 34 ∷ es) rest

-- from a place on, the elements are spaces and just these tokens
pub data Lies : ℕ → List Element → List Token → Type 0 where
  at_end : (at : ℕ) → Lies at [] []
  space : (at : ℕ) (rest : List Element) (ts : List Token) → Lies (at + 1) rest ts → Lies at (Char 32 ∷ rest) ts
  token : (at : ℕ) (kind : TokenKind) (es rest : List Element) (ts : List Token) → Spells kind es rest → Lies (at + length es) rest ts
      → Lies at (es ++ rest) (record { kind = kind; start = at; end = at + length es } ∷ ts)

-- the tokens of each line lie so
abbrev pub TokensLie : (List Element → List Token) → Type 0
TokensLie tokens = (line : List Element) → Lies 0 line (tokens line)
