-- How tokens lie in a text: between them stand white space and comments alone, and each word is the longest.
use Rattle.std.specs.Prelude.{◌≡◌, ℕ, ◌+◌, ◌<◌, ◌≤◌, Bool, false, not, ◌&&◌, ◌==◌, List, [], ◌∷◌, ◌++◌, length, drop, if◌then◌else◌, IsTrue, ⊤}
use Rattle.std.specs.List.{list_all, slice_range}
use Rattle.cl_sexp.specs.Bytes.{is_space, in_comment, is_word, is_text}
use Rattle.cl_sexp.specs.Numbers.{is_number, number_of, fits_i64}
use Rattle.cl_sexp.specs.declared.Kind.{Kind}
use Rattle.cl_sexp.specs.declared.Kind.TheVariants.{Open, Close, Quote, Int, Text, Symbol}
use Rattle.cl_sexp.specs.declared.Token.{Token}

-- a run ends before these bytes: there is none, or the first one fails the test
abbrev pub Stops : (ℕ → Bool) → List ℕ → Type 0
Stops test [] = ⊤
Stops test (b ∷ bs) = test b ≡ false

-- one byte of white space, or a comment up to the line's end, before the rest
pub data IsBlank : List ℕ → List ℕ → Type 0 where
  space : (b : ℕ) (rest : List ℕ) → IsTrue (is_space b) → IsBlank (b ∷ []) rest
  comment : (bs rest : List ℕ) → IsTrue (list_all in_comment bs) → Stops in_comment rest → IsBlank (59 ∷ bs) rest

-- what may stand between two quotes: no control byte, and a quote only behind a `\`; a `\` takes the next byte with it
abbrev pub is_quoted : Bool → List ℕ → Bool
is_quoted escaped [] = not escaped
is_quoted escaped (b ∷ bs) = is_text b && (if escaped then is_quoted false bs else (not (b == 34) && is_quoted (b == 92) bs))

-- the bytes of a word before the rest, as many as there are
pub record IsWord (word rest : List ℕ) : Type 0 where
  pub some : 0 < length word
  pub whole : IsTrue (list_all is_word word)
  pub longest : Stops is_word rest

-- the bytes of a token before the rest
pub data Spells : Kind → List ℕ → List ℕ → Type 0 where
  opening : (rest : List ℕ) → Spells Open (40 ∷ []) rest
  closing : (rest : List ℕ) → Spells Close (41 ∷ []) rest
  quote : (rest : List ℕ) → Spells Quote (39 ∷ []) rest
  quoted : (body rest : List ℕ) → IsTrue (is_quoted false body) → Spells Text (34 ∷ body ++ 34 ∷ []) rest
  number : (word rest : List ℕ) → IsWord word rest → IsTrue (is_number word) → IsTrue (fits_i64 (number_of word)) → Spells (Int (number_of word)) word rest
  symbol : (word rest : List ℕ) → IsWord word rest → is_number word ≡ false → Spells Symbol word rest

-- from a place on, the bytes are blanks and just these tokens
pub data Lies : ℕ → List ℕ → List Token → Type 0 where
  at_end : (at : ℕ) → Lies at [] []
  blank : (at : ℕ) (gap rest : List ℕ) (ts : List Token) → IsBlank gap rest → Lies (at + length gap) rest ts → Lies at (gap ++ rest) ts
  token : (at : ℕ) (kind : Kind) (word rest : List ℕ) (ts : List Token) → Spells kind word rest → Lies (at + length word) rest ts
      → Lies at (word ++ rest) (record { kind = kind; start = at; end = at + length word } ∷ ts)

-- each token has bytes, and begins where the one before ends, or later
abbrev pub Rises : ℕ → List Token → Type 0
Rises at [] = ⊤
Rises at (t ∷ ts) = (at ≤ t.start) × (t.start < t.end) × Rises t.end ts

-- the tokens' slices, with what stands between them
abbrev pub joined : List ℕ → ℕ → List Token → List ℕ
joined text at [] = drop at text
joined text at (t ∷ ts) = slice_range text at t.start ++ slice_range text t.start t.end ++ joined text t.end ts
