-- The tokens of a line.
use Rattle.std.specs.Prelude.{◌≤◌, ◌<◌, ℕ, zero, suc, ◌+◌, ◌-◌, Bool, true, false, ◌==◌, List, [], ◌∷◌, drop, Option, Some, None, option_map, if◌then◌else◌}
use Rattle.std.specs.List.{prefix_len}
use Rattle.cl_line.specs.declared.elements.Element.{Element}
use Rattle.cl_line.specs.declared.elements.Element.TheVariants.{Char, Object}
use Rattle.cl_line.specs.declared.tokens.Token.{Token}
use Rattle.cl_line.specs.declared.tokens.TokenKind.{TokenKind}
use Rattle.cl_line.specs.declared.tokens.TokenKind.TheVariants as kind
use Rattle.cl_line.specs.Elements.{is_character, is_in_word, is_space}

-- how many elements stand in quotes, the closing quote included, where the first may follow a `\`, which gives the character behind it; None: the
-- characters end before a closing quote
abbrev pub quote_length : (escaped : Bool) → List Element → Option ℕ
quote_length escaped [] = None
quote_length escaped (Object v ∷ es) = None
quote_length true (Char b ∷ es) = option_map (λ n. 1 + n) (quote_length false es)
quote_length false (Char b ∷ es) = if b == 34 then Some 1 else option_map (λ n. 1 + n) (quote_length (b == 92) es)

-- a token of this kind, and how many elements it takes
pub record Lexeme : Type 0 where
  pub kind : TokenKind
  pub count : ℕ

-- the token that a quote opens before these elements: it runs to the closing quote, or else to an object or the line's end
abbrev pub quote_lexeme : Option ℕ → List Element → Lexeme
quote_lexeme (Some n) es = record { kind = kind.Quoted; count = 1 + n }
quote_lexeme None es = record { kind = kind.Open; count = 1 + prefix_len is_character es }

-- the token that begins with an element: an object is one by itself, a `"` opens one in quotes, and any other runs to a space, an object or the line's end
abbrev pub lexeme : Element → List Element → Lexeme
lexeme (Object v) es = record { kind = kind.Object; count = 1 }
lexeme (Char b) es =
    if b == 34 then quote_lexeme (quote_length false es) es
    else record { kind = kind.Plain; count = 1 + prefix_len is_in_word es }

-- the token that begins at a place, by its kind and how many elements it takes
abbrev pub token_at : ℕ → Lexeme → Token
token_at at l = record { kind = l.kind; start = at; end = at + l.count }

-- the tokens of the elements that stand at a place, where the first so many belong to what began before: spaces stand between them
abbrev pub tokens_from : ℕ → ℕ → List Element → List Token
tokens_from begun at [] = []
tokens_from (suc begun) at (e ∷ es) = tokens_from begun (at + 1) es
tokens_from zero at (e ∷ es) =
    if is_space e then tokens_from 0 (at + 1) es
    else token_at at (lexeme e es) ∷ tokens_from ((lexeme e es).count - 1) (at + 1) es

-- the tokens of a line from an element on
abbrev pub tokens_behind : ℕ → List Element → List Token
tokens_behind from line = tokens_from 0 from (drop from line)

-- a token and those behind it, if there is one
abbrev pub with_rest : List Element → Option Token → List Token
with_rest line None = []
with_rest line (Some t) = t ∷ tokens_behind t.end line

-- it begins at this place or later, takes elements, and lies in a line of so many
pub record LiesBehind (from count : ℕ) (t : Token) : Type 0 where
  pub later : from ≤ t.start
  pub some : t.start < t.end
  pub within : t.end ≤ count
