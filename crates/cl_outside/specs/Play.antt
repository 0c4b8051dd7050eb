-- The picture that the bytes of a wire show: what their whole lines make of a blank picture of 1 by 1, one after another.
use Rattle.std.specs.Prelude.{ℕ, ◌-◌, ◌&&◌, ◌==◌, if◌then◌else◌, List, [], ◌∷◌, ◌++◌, length, slice_index, Option, None, Some, unwrap_or}
use Rattle.std.specs.Str.Parse.{digits_value}
use Rattle.std.specs.Str.{bytes_eq}
use Rattle.cl_outside.specs.Device.{Picture, in_span}
use Rattle.cl_outside.specs.Operations.{Op, clears, shows, may_stand, op_line}

-- ---- the operation that a line spells

-- the bytes before the first space
abbrev pub word : List ℕ → List ℕ
word [] = []
word (b ∷ bs) = if b == 32 then [] else b ∷ word bs

-- the bytes behind the first space
abbrev pub behind : List ℕ → List ℕ
behind [] = []
behind (b ∷ bs) = if b == 32 then bs else behind bs

-- the decimal number before the first space
abbrev pub number : List ℕ → ℕ
number bytes = digits_value 10 (word bytes)

-- the numbers of `W H`
abbrev pub clear_in : List ℕ → Op
clear_in bytes = clears (number bytes) (number (behind bytes))

-- the numbers and the text of `X Y I TEXT`
abbrev pub span_in : List ℕ → Op
span_in bytes = shows (number bytes) (number (behind bytes)) (number (behind (behind bytes))) (behind (behind (behind bytes)))

-- the operation that a line can be at most
abbrev pub guess_op : List ℕ → Op
guess_op line = if slice_index line 0 == 67 then clear_in (behind line) else span_in (behind line)

-- this operation, where it may stand and the line is exactly its own
abbrev pub when_spelled : Op → List ℕ → Option Op
when_spelled op line = if may_stand op && bytes_eq (op_line op) line then Some op else None

-- the operation whose line this is
unfoldable pub op_of : List ℕ → Option Op
op_of line = when_spelled (guess_op line) line

-- ---- what operations make of a picture

-- spaces with ink 0
abbrev pub blank_picture : (width height : ℕ) → Picture
blank_picture width height = record { width = width; height = height; glyph_at = λ x y. 32; ink_at = λ x y. 0 }

-- the span's glyphs where they lie inside it, and all other cells as before
abbrev pub painted : Picture → (x y ink : ℕ) → List ℕ → Picture
painted p x y ink glyphs = record {
  width = p.width;
  height = p.height;
  glyph_at = λ u v. if in_span x y (length glyphs) u v then slice_index glyphs (u - x) else p.glyph_at u v;
  ink_at = λ u v. if in_span x y (length glyphs) u v then ink else p.ink_at u v;
}

-- A line that is no operation changes nothing, nor does a span before the first `C`. None: the blank picture of 1 by 1 before that.
abbrev pub acted : Option Picture → Option Op → Option Picture
acted shown None = shown
acted shown (Some (clears width height)) = Some (blank_picture width height)
acted None (Some (shows x y ink glyphs)) = None
acted (Some p) (Some (shows x y ink glyphs)) = Some (painted p x y ink glyphs)

-- ---- bytes one after another

-- what is shown, and the bytes behind the last line feed
pub record Playing : Type 0 where
  pub shown : Option Picture
  pub line : List ℕ

-- nothing is shown, and no byte was played
abbrev pub at_start : Playing
at_start = record { shown = None; line = [] }

-- a line feed ends the line
abbrev pub with_byte : Playing → ℕ → Playing
with_byte s b = if b == 10 then record { shown = acted s.shown (op_of s.line); line = [] } else record { shown = s.shown; line = s.line ++ b ∷ [] }

-- each byte in turn
abbrev pub played : Playing → List ℕ → Playing
played s [] = s
played s (b ∷ bs) = played (with_byte s b) bs

-- what is shown, or a blank picture of one cell where nothing is
abbrev pub shown_picture : Option Picture → Picture
shown_picture shown = unwrap_or shown (blank_picture 1 1)

-- the picture behind these bytes
abbrev pub play : List ℕ → Picture
play bytes = shown_picture (played at_start bytes).shown
