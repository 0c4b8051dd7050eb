-- The names of types that no declaration may have.
use Rattle.std.specs.Prelude.{ℕ, Bool, is_some, List}
use Rattle.cl_syntax.specs.StandardTypes.{standard_named}

-- those of the standard types
abbrev pub is_standard_type : List ℕ → Bool
is_standard_type name = is_some (standard_named name)
