-- What stands behind a prefix.
use Rattle.std.proofs.Common.{◌≡◌, ℕ, ◌&&◌, Bool, true, false, nat_eq, nat_lt, is_some, Some, None, List, length, drop, refl, if◌then◌else◌}
use Rattle.std.specs.List.{starts_with}
use Rattle.cl_invocation.specs.Words.{behind}

-- something does where the text starts with the prefix and is longer
pub behind_some : (prefix word : List ℕ)
    → is_some (behind prefix word) ≡ (starts_with nat_eq word prefix && nat_lt (length prefix) (length word))
behind_some prefix word = go (starts_with nat_eq word prefix && nat_lt (length prefix) (length word))
  where
    go : (b : Bool) → is_some (if b then Some (drop (length prefix) word) else None) ≡ b
    go true = refl
    go false = refl
