-- What was written of the bytes that were to be written.
use Rattle.std.specs.Prelude.{◌≡◌, ◌<◌, ℕ, Bool, true, false, Option, List, [], ◌∷◌, ◌++◌, length}
use Rattle.std.specs.Io.KnownBytes.{Appends}
use Rattle.cl_outside.specs.Causes.{Rose}

-- the sink took these bytes but for the last ones, which are left
pub record Wrote (old new : Option (List ℕ)) (bytes left : List ℕ) : Type 0 where
  pub sent : List ℕ
  pub appended : Appends old new sent
  pub same : bytes ≡ sent ++ left

-- the sink failed behind the first ones of the bytes, and at least one of them is lost
pub record CutShort (old new : Option (List ℕ)) (bytes : List ℕ) (faults_old faults_new : ℕ) : Type 0 where
  pub lost : List ℕ
  pub wrote : Wrote old new bytes lost
  pub some : 0 < length lost
  pub rose : Rose faults_old faults_new

-- the pieces one after another
abbrev pub joined : List (List ℕ) → List ℕ
joined [] = []
joined (p ∷ ps) = p ++ joined ps

-- all bytes were written; or the sink failed
abbrev pub Says : Bool → Option (List ℕ) → Option (List ℕ) → List ℕ → ℕ → ℕ → Type 0
Says true old new bytes faults_old faults_new = Appends old new bytes
Says false old new bytes faults_old faults_new = CutShort old new bytes faults_old faults_new
