-- The command-line name of a command.
use Rattle.std.specs.Prelude.{ℕ, ◌-◌, Bool, true, ◌&&◌, ◌==◌, nat_le, nat_eq, if◌then◌else◌, List, [], ◌∷◌, drop, codes}
use Rattle.std.specs.List.{starts_with}

-- a letter as a capital; any other byte itself
abbrev pub upper : ℕ → ℕ
upper b = if nat_le 97 b && nat_le b 122 then b - 32 else b

-- a hyphen as a space, and the first letter of a word as a capital
abbrev pub line_byte : Bool → ℕ → ℕ
line_byte first b = if b == 45 then 32 else (if first then upper b else b)

-- hyphens become spaces, and the first letter of each word a capital
abbrev pub words_of : Bool → List ℕ → List ℕ
words_of first [] = []
words_of first (b ∷ bs) = line_byte first b ∷ words_of (b == 45) bs

-- the command-line name that is made from a symbol: a leading `com-` is dropped
abbrev pub line_name_of : List ℕ → List ℕ
line_name_of symbol = words_of true (if starts_with nat_eq symbol (codes "com-") then drop 4 symbol else symbol)
