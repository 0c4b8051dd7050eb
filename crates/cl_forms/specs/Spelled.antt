-- The tokens of a text with their contents.
use Rattle.std.specs.Prelude.{◌≡◌, ◌<◌, ◌≤◌, ◌++◌, length, All, not, ⊤, ℕ, ◌+◌, ◌-◌, Bool, false, true, ◌==◌, List, [], ◌∷◌, map, if◌then◌else◌}
use Rattle.std.specs.List.{slice_range}
use Rattle.cl_forms.specs.Tree.{Tree, spelled, spelled_all, trees_of, Lexeme, open_at, close, number_at, literal_at, name_at}
use Rattle.cl_sexp.specs.declared.Kind.{Kind}
use Rattle.cl_sexp.specs.declared.Kind.TheVariants.{Open, Close, Quote, Int, Text, Symbol}
use Rattle.cl_sexp.specs.Tokens.{Nests, InText}
use Rattle.cl_sexp.specs.declared.Token.{Token}
use Rattle.std.specs.Char.{to_ascii_lowercase}

-- what stands between two quotes without each `\`, which gives the byte behind it; the first byte may stand behind one
abbrev pub unescaped : Bool → List ℕ → List ℕ
unescaped escaped [] = []
unescaped true (b ∷ bs) = b ∷ unescaped false bs
unescaped false (b ∷ bs) = if b == 92 then unescaped true bs else b ∷ unescaped false bs

-- a symbol's letters A to Z are read as a to z, a text's quotes are left out, and a `'` is a name of this one byte
abbrev pub lexeme_of : List ℕ → Kind → ℕ → ℕ → Lexeme
lexeme_of text Open start end = open_at start
lexeme_of text Close start end = close
lexeme_of text Quote start end = name_at (39 ∷ []) start
lexeme_of text (Int z) start end = number_at z start
lexeme_of text Text start end = literal_at (unescaped false (slice_range text (start + 1) (end - 1))) start
lexeme_of text Symbol start end = name_at (map to_ascii_lowercase (slice_range text start end)) start

-- tokens with their contents
abbrev pub lexemes : List ℕ → List Token → List Lexeme
lexemes text [] = []
lexemes text (t ∷ ts) = lexeme_of text t.kind t.start t.end ∷ lexemes text ts

-- ---- what a parser may rely on and leaves

-- a token that is no parenthesis
abbrev pub IsAtom : Kind → Type 0
IsAtom Open = ⊥
IsAtom Close = ⊥
IsAtom Quote = ⊤
IsAtom (Int z) = ⊤
IsAtom Text = ⊤
IsAtom Symbol = ⊤

-- a token that closes a form
abbrev pub is_close : Kind → Bool
is_close Open = false
is_close Close = true
is_close Quote = false
is_close (Int z) = false
is_close Text = false
is_close Symbol = false

-- a form begins here: there is a token, and it closes none
abbrev pub begins_form : List Token → Bool
begins_form [] = false
begins_form (t ∷ ts) = not (is_close t.kind)

-- the tree is what stands before the rest, and the rest nests and lies in the text as before
pub record IsRead (text : List ℕ) (depth : ℕ) (tokens : List Token) (tree : Tree) (rest : List Token) : Type 0 where
  pub reads : lexemes text tokens ≡ spelled tree ++ lexemes text rest
  pub nested : Nests depth rest
  pub inside : All (InText (length text)) rest
  pub shorter : length rest < length tokens

-- the same of trees in a row
pub record AreRead (text : List ℕ) (depth : ℕ) (tokens : List Token) (trees : List Tree) (rest : List Token) : Type 0 where
  pub reads : lexemes text tokens ≡ spelled_all (trees_of trees) ++ lexemes text rest
  pub nested : Nests depth rest
  pub inside : All (InText (length text)) rest
  pub shorter : length rest ≤ length tokens
