-- Which paths begin others.
use Rattle.std.specs.Prelude.{ℕ, Bool, true, false, if◌then◌else◌, List, [], ◌∷◌, Option, Some, None}
use Rattle.std.specs.Str.{bytes_eq}
use Rattle.cl_syntax.specs.declared.paths.Path.{Path}
use Rattle.cl_syntax.specs.declared.paths.Root.{Root}
use Rattle.cl_syntax.specs.declared.paths.Root.TheVariants as root

-- fields in the order in which they are taken
abbrev pub Along : Type 0
Along = List (List ℕ)

-- two roots are the same
abbrev pub same_root : Root → Root → Bool
same_root (root.Variable x) (root.Variable y) = bytes_eq x y
same_root (root.Slot x) (root.Slot y) = bytes_eq x y
same_root r s = false

-- the second names begin with the first
abbrev pub begins : Along → Along → Bool
begins [] gs = true
begins (f ∷ fs) [] = false
begins (f ∷ fs) (g ∷ gs) = if bytes_eq f g then begins fs gs else false

-- the first path is the second, or a beginning of it
abbrev pub is_prefix : Path → Path → Bool
is_prefix q p = if same_root q.root p.root then begins q.fields p.fields else false

-- one of the paths is this one, or a beginning of it
abbrev pub has_prefix : List Path → Path → Bool
has_prefix [] p = false
has_prefix (q ∷ qs) p = if is_prefix q p then true else has_prefix qs p

-- the first of the second paths of which none of the first is a beginning
abbrev pub first_uncovered : List Path → List Path → Option Path
first_uncovered listed [] = None
first_uncovered listed (p ∷ ps) = if has_prefix listed p then first_uncovered listed ps else Some p
