-- What data are spelled as: a quoted name is a `'` and the name that follows it, and a stray `'` is one that is followed by further ones,
-- by another form, or by nothing.
use Rattle.std.specs.Prelude.{◌≡◌, ℕ, List, [], ◌∷◌, ◌++◌, Option, Some, None, codes}
use Rattle.cl_forms.specs.Datum.{Datum, Datums, number, literal, word, quoted, stray, list, none, item}
use Rattle.cl_forms.specs.Tree.{Tree, Lexeme, open_at, close, number_at, literal_at, name_at, spelled}

-- the token of a quote at this offset
abbrev pub quote_at : ℕ → Lexeme
quote_at at = name_at (codes "'") at

-- quotes at these offsets
abbrev pub quotes : List ℕ → List Lexeme
quotes [] = []
quotes (at ∷ ats) = quote_at at ∷ quotes ats

-- the tokens of a form, if there is one
abbrev pub spelled_if : Option Tree → List Lexeme
spelled_if None = []
spelled_if (Some t) = spelled t

-- a stray quote, with what it took
pub record IsStray (at : ℕ) (ls : List Lexeme) : Type 0 where
  pub later : List ℕ
  pub form : Option Tree
  pub written : ls ≡ quote_at at ∷ (quotes later ++ spelled_if form)

-- two lists of tokens that are one behind the other
pub record IsJoined (First Rest : List Lexeme → Type 0) (ls : List Lexeme) : Type 0 where
  pub first : List Lexeme
  pub rest : List Lexeme
  pub is_first : First first
  pub is_rest : Rest rest
  pub joined : ls ≡ first ++ rest

-- a list: an opening parenthesis, what is inside, and a closing one
pub record IsForm (at : ℕ) (Inside : List Lexeme → Type 0) (ls : List Lexeme) : Type 0 where
  pub inside : List Lexeme
  pub is_inside : Inside inside
  pub written : ls ≡ open_at at ∷ (inside ++ close ∷ [])

-- a datum is written with these tokens
abbrev mutual
  pub IsWritten : Datum → List Lexeme → Type 0
  IsWritten (number z at) ls = ls ≡ number_at z at ∷ []
  IsWritten (literal s at) ls = ls ≡ literal_at s at ∷ []
  IsWritten (word s at) ls = ls ≡ name_at s at ∷ []
  IsWritten (quoted s at place) ls = ls ≡ quote_at at ∷ name_at s place ∷ []
  IsWritten (stray at) ls = IsStray at ls
  IsWritten (list ds at) ls = IsForm at (AreWritten ds) ls

  -- data in a row are written with these tokens
  pub AreWritten : Datums → List Lexeme → Type 0
  AreWritten none ls = ls ≡ []
  AreWritten (item d ds) ls = IsJoined (IsWritten d) (AreWritten ds) ls
