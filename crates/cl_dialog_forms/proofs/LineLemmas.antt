-- Forms behind others.
use Rattle.std.proofs.Common.{◌≡◌, List, [], ◌∷◌, ◌++◌, append_assoc}
use Rattle.cl_syntax.specs.ShapeTree.{ShapeTree}

-- three, one after the other
pub three_behind : (fs : List ShapeTree) (a b c : ShapeTree) → ((fs ++ a ∷ []) ++ b ∷ []) ++ c ∷ [] ≡ fs ++ (a ∷ b ∷ c ∷ [])
three_behind fs a b c = simp append_assoc
