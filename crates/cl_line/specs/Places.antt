-- The place in a line that is being typed.
use Rattle.std.specs.Prelude.{ℕ, ◌+◌, Bool, true, false, ◌&&◌, ◌==◌, nat_le, List, [], ◌∷◌, length, Option, Some, None, if◌then◌else◌}
use Rattle.cl_line.specs.declared.elements.Element.{Element}
use Rattle.cl_line.specs.declared.places.LineSlot.{LineSlot}
use Rattle.cl_line.specs.declared.places.LineSlot.TheVariants.{Name, Arg, Past}
use Rattle.cl_line.specs.declared.places.Named.{Named}
use Rattle.cl_line.specs.declared.tokens.Token.{Token}
use Rattle.cl_line.specs.declared.tokens.TokenKind.{TokenKind}
use Rattle.cl_line.specs.declared.tokens.TokenKind.TheVariants as kind
use Rattle.cl_line.specs.Tokens.{tokens_behind}

-- neither an object nor a closing quote ends it
abbrev pub is_unended : TokenKind → Bool
is_unended kind.Plain = true
is_unended kind.Quoted = false
is_unended kind.Open = true
is_unended kind.Object = false

-- whether a token of a line of so many elements is being typed: it runs to the line's end, and nothing ends it
abbrev pub is_half : ℕ → Token → Bool
is_half count t = is_unended t.kind && (t.end == count)

-- the number of the token that is being typed, else of the next one, from 1
abbrev pub number_typed : ℕ → List Token → ℕ
number_typed count [] = 1
number_typed count (t ∷ ts) = if is_half count t then 1 else 1 + number_typed count ts

-- where the token that is being typed begins; the line's end, where none is
abbrev pub half_start : ℕ → List Token → ℕ
half_start count [] = count
half_start count (t ∷ ts) = if is_half count t then t.start else half_start count ts

-- the argument of this number, of so many
abbrev pub slot_of : ℕ → ℕ → LineSlot
slot_of number arguments = if nat_le number arguments then Arg number else Past

-- the place of a line with this name: the name, where there is none or the line ends with it; else an argument, or past the last one
abbrev pub line_slot : Option Named → List Element → LineSlot
line_slot None line = Name
line_slot (Some named) line =
    if length line == named.end then Name
    else slot_of (number_typed (length line) (tokens_behind named.end line)) named.arguments
