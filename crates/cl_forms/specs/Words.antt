-- Words that are names, keys, constants and quotes.
use Rattle.std.specs.Prelude.{ℕ, Bool, not, ◌&&◌, ◌||◌, List, codes, nat_eq}
use Rattle.std.specs.List.{starts_with}
use Rattle.std.specs.Str.{bytes_eq}

-- what begins with `:` is a key
abbrev pub is_key : List ℕ → Bool
is_key word = starts_with nat_eq word (codes ":")

-- `true`, `false`, `null` and `*` are constants
abbrev pub is_constant : List ℕ → Bool
is_constant word = bytes_eq word (codes "true") || bytes_eq word (codes "false") || bytes_eq word (codes "null") || bytes_eq word (codes "*")

-- a quote, which is an atom of this one byte
abbrev pub is_quote : List ℕ → Bool
is_quote word = bytes_eq word (codes "'")

-- a symbol that is no key and no constant
abbrev pub is_name : List ℕ → Bool
is_name word = not (is_key word) && not (is_constant word)
