-- Keys that one byte stands for, or a letter behind an escape.
use Rattle.std.specs.Prelude.{ℕ, Bool, not, ◌==◌, ◌&&◌, ◌||◌, nat_le, if◌then◌else◌, Option, Some, None}
use Rattle.std.specs.Char.{is_ascii_alphabetic, to_ascii_lowercase}
use Rattle.cl_keys.specs.declared.keys.Key.{Key}
use Rattle.cl_keys.specs.declared.keys.Key.TheVariants as key

-- the key that a byte at rest stands for
abbrev pub plain_key : ℕ → Option Key
plain_key byte =
    if nat_le 32 byte && nat_le byte 126 then Some (key.Typed byte) else
    (if (byte == 13) || (byte == 10) then Some key.Return else
    (if (byte == 127) || (byte == 8) then Some key.Rubout else
    (if byte == 21 then Some key.Clear else
    (if byte == 12 then Some key.Force else
    (if byte == 4 then Some key.End else None)))))

-- a letter other than `O`
abbrev pub is_stroke : ℕ → Bool
is_stroke byte = is_ascii_alphabetic byte && not (byte == 79)

-- the key that a byte behind an escape stands for
abbrev pub stroke_of : ℕ → Option Key
stroke_of byte = if is_stroke byte then Some (key.Stroke (to_ascii_lowercase byte)) else None
