-- The first fault of a text: up to it stand blanks and tokens, as in a text that is read.
use Rattle.std.specs.Prelude.{◌≡◌, ℕ, ◌+◌, ◌<◌, Bool, true, false, not, ◌&&◌, ◌||◌, ◌==◌, List, [], ◌∷◌, ◌++◌, length, if◌then◌else◌, IsTrue}
use Rattle.cl_sexp.specs.Bytes.{is_space, is_word, is_text}
use Rattle.cl_sexp.specs.Numbers.{is_number, number_of, fits_i64}
use Rattle.cl_sexp.specs.Tokens.{KeepsNest, depth_after}
use Rattle.cl_sexp.specs.Lies.{IsBlank, IsWord, Spells}
use Rattle.cl_sexp.specs.declared.Kind.{Kind}

-- a byte that may stand outside texts and comments: white space, ; ( ) ' " or a byte of a word
abbrev pub may_stand : ℕ → Bool
may_stand b = is_space b || b == 59 || b == 40 || b == 41 || b == 39 || b == 34 || is_word b

-- what may follow an opening quote that is not closed: no control byte, and a quote only behind a `\`
abbrev pub is_unclosed : Bool → List ℕ → Bool
is_unclosed escaped [] = true
is_unclosed escaped (b ∷ bs) = is_text b && (if escaped then is_unclosed false bs else (not (b == 34) && is_unclosed (b == 92) bs))

-- a fault where so many forms are open: the bytes from its token on, its number, and how many bytes on it is
pub data IsFault : ℕ → List ℕ → ℕ → ℕ → Type 0 where
  stray : (depth b : ℕ) (rest : List ℕ) → may_stand b ≡ false → IsFault depth (b ∷ rest) 1 0
  in_text : (depth b : ℕ) (body rest : List ℕ) → IsTrue (is_unclosed false body) → is_text b ≡ false → IsFault depth (34 ∷ body ++ b ∷ rest) 1 (1 + length body)
  text_at_end : (depth : ℕ) (body : List ℕ) → IsTrue (is_unclosed false body) → IsFault depth (34 ∷ body) 2 (1 + length body)
  form_at_end : (depth : ℕ) → 0 < depth → IsFault depth [] 2 0
  closes_nothing : (rest : List ℕ) → IsFault 0 (41 ∷ rest) 2 0
  too_deep : (rest : List ℕ) → IsFault 64 (40 ∷ rest) 3 0
  too_large : (depth : ℕ) (word rest : List ℕ) → IsWord word rest → IsTrue (is_number word) → fits_i64 (number_of word) ≡ false → IsFault depth (word ++ rest) 4 0

-- from a place on, where so many forms are open: blanks and tokens, then a fault of this number at this place
pub data FirstFault : ℕ → ℕ → List ℕ → ℕ → ℕ → Type 0 where
  here : (depth at number on : ℕ) (bs : List ℕ) → IsFault depth bs number on → FirstFault depth at bs number (at + on)
  blank : (depth at number place : ℕ) (gap rest : List ℕ) → IsBlank gap rest → FirstFault depth (at + length gap) rest number place → FirstFault depth at (gap ++ rest) number place
  token : (depth at number place : ℕ) (kind : Kind) (word rest : List ℕ) → Spells kind word rest → KeepsNest kind depth → FirstFault (depth_after kind depth) (at + length word) rest number place
      → FirstFault depth at (word ++ rest) number place
