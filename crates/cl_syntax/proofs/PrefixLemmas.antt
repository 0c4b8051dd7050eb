-- Names that begin others, from a place on.
use Rattle.std.proofs.Common.{◌≡◌, ◌+◌, ◌<◌, ℕ, false, List, length, get_or, drop, if◌then◌else◌, refl, drop-cons, add-one}
use Rattle.std.specs.Str.{bytes_eq}
use Rattle.cl_syntax.specs.Paths.{Along, begins}

-- from one place on, by the names there
pub begins_next : (fs gs : Along) (k : ℕ) (f g : List ℕ) → k < length fs → k < length gs
    → begins (drop k fs) (drop k gs) ≡ (if bytes_eq (get_or fs k f) (get_or gs k g) then begins (drop (k + 1) fs) (drop (k + 1) gs) else false)
begins_next fs gs k f g l m = rw (add-one, drop-cons fs k f, drop-cons gs k g) refl
