-- Bytes that wait to be written.
use Rattle.std.specs.Prelude.{ℕ, Bool, true, false, Option, List}
use Rattle.cl_outside.specs.Writing.{CutShort, Wrote}

-- what is left waits; or the sink failed
abbrev pub Puts : Bool → Option (List ℕ) → Option (List ℕ) → List ℕ → List ℕ → ℕ → ℕ → Type 0
Puts true old new bytes left faults_old faults_new = Wrote old new bytes left
Puts false old new bytes left faults_old faults_new = CutShort old new bytes faults_old faults_new
