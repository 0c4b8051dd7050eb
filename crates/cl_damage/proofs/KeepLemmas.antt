-- What is kept of one update more.
use Rattle.std.proofs.Common.{◌≡◌, List, [], ◌∷◌, ◌++◌, refl, ap}
use Rattle.cl_damage.specs.KeepRows.{inside_of, keeps_of, moved_of}
use Rattle.cl_damage.specs.Keeps.{Keeps, opened, with_last}
use Rattle.cl_damage.specs.declared.keeps.Keep.{Keep}

pub keeps-last : (ks : List Keep) (k : Keep) → keeps_of (ks ++ k ∷ []) ≡ with_last (keeps_of ks) (moved_of k) (inside_of k)
keeps-last [] k = refl
keeps-last (j ∷ ks) k = ap (λ (more : Keeps). opened (moved_of j) (inside_of j) more) (keeps-last ks k)
