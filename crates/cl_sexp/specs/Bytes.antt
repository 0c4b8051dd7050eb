-- The kinds of bytes of an application text.
use Rattle.std.specs.Prelude.{ℕ, Bool, not, ◌&&◌, ◌||◌, ◌==◌, nat_le}

-- white space: tab, line feed, carriage return, space
abbrev pub is_space : ℕ → Bool
is_space b = b == 9 || b == 10 || b == 13 || b == 32

-- a byte of a comment: any but the line feed
abbrev pub in_comment : ℕ → Bool
in_comment b = not (b == 10)

-- a byte of a word: printable, and none of ( ) ' " ;
abbrev pub is_word : ℕ → Bool
is_word b = nat_le 33 b && nat_le b 126 && not (b == 40) && not (b == 41) && not (b == 39) && not (b == 34) && not (b == 59)

-- a byte that may stand in a text: no control byte
abbrev pub is_text : ℕ → Bool
is_text b = nat_le 32 b && not (b == 127)
