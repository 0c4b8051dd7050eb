-- How paths are written.
use Rattle.std.specs.Prelude.{ℕ, List, [], ◌∷◌, ◌++◌, codes}
use Rattle.cl_syntax.specs.Paths.{Along}
use Rattle.cl_syntax.specs.declared.paths.Path.{Path}
use Rattle.cl_syntax.specs.declared.paths.Root.{Root}
use Rattle.cl_syntax.specs.declared.paths.Root.TheVariants as root

-- a variable is its name; a slot is `(slot NAME)`
abbrev pub root_text : Root → List ℕ
root_text (root.Variable x) = x
root_text (root.Slot x) = codes "(slot " ++ x ++ codes ")"

-- each field stands behind what it is taken of: `(get PATH FIELD)`
abbrev pub text_along : List ℕ → Along → List ℕ
text_along so_far [] = so_far
text_along so_far (f ∷ along) = text_along (codes "(get " ++ so_far ++ codes " " ++ f ++ codes ")") along

-- a path as it is written
abbrev pub path_text : Path → List ℕ
path_text p = text_along (root_text p.root) p.fields
