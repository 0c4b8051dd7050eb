-- The least of offsets that there may be.
use Rattle.std.specs.Prelude.{ℕ, Bool, true, false, min, Option, Some, None}

-- the least of two offsets, or the one that there is
abbrev pub earlier : Option ℕ → Option ℕ → Option ℕ
earlier None other = other
earlier (Some at) None = Some at
earlier (Some at) (Some other) = Some (min at other)

-- an offset, where a test holds
abbrev pub at_if : Bool → ℕ → Option ℕ
at_if true at = Some at
at_if false at = None
