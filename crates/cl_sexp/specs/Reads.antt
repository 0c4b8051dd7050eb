-- What the functions of this crate answer.
use Rattle.std.specs.Prelude.{◌≡◌, ℕ, ◌<◌, ◌≤◌, List, Result, Ok, Err, ⊤}
use Rattle.cl_sexp.specs.Tokens.{KeepsNest, least_len}
use Rattle.cl_sexp.specs.declared.Token.{Token}
use Rattle.cl_sexp.specs.declared.begin.Begins.{Begins}
use Rattle.cl_sexp.specs.declared.begin.Begins.TheVariants.{Gap, Lexeme, Fault}
use Rattle.cl_sexp.specs.declared.ReadRefusal.{ReadRefusal}
use Rattle.cl_sexp.specs.declared.ReadRefusal.TheVariants.{Refused, Memory}
use Rattle.std.specs.Prelude.{Vec}
use Rattle.std.specs.declared.alloc.Global.{Global}

-- want of memory answers nothing, a refusal is the first
abbrev pub Refuses : ReadRefusal → Result (List Token) (ℕ × ℕ) → Type 0
Refuses (Refused number at) r = r ≡ Err (number, at)
Refuses Memory r = ⊤

-- the tokens, or what the refusal answers
abbrev pub Gives : Result (Vec Token Global) ReadRefusal → Result (List Token) (ℕ × ℕ) → Type 0
Gives (Ok v) r = r ≡ Ok v.items
Gives (Err e) r = Refuses e r

-- what begins has a byte, a text its two quotes, and does not reach past bytes of this number
abbrev pub BeginsWithin : Begins → ℕ → Type 0
BeginsWithin (Gap n) len = (0 < n) × (n ≤ len)
BeginsWithin (Lexeme kind n) len = (least_len kind ≤ n) × (n ≤ len)
BeginsWithin (Fault number n) len = n ≤ len

-- a token that begins keeps the nesting
abbrev pub BeginsNested : Begins → ℕ → Type 0
BeginsNested (Gap n) depth = ⊤
BeginsNested (Lexeme kind n) depth = KeepsNest kind depth
BeginsNested (Fault number n) depth = ⊤
