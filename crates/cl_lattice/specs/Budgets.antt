-- What is left of a number of nodes.
use Rattle.std.specs.Prelude.{ℕ, ◌-◌, nat_le, if◌then◌else◌, Option, Some, None}

-- what is left after a size; None where the size is none, or greater
abbrev pub left : Option ℕ → ℕ → Option ℕ
left None n = None
left (Some m) n = if nat_le m n then Some (n - m) else None
