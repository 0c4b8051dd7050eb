-- What a device sent of an operation, and when its wire tells its picture.
use Rattle.std.specs.Prelude.{◌≡◌, ℕ, Bool, true, false, List, Option, Some}
use Rattle.cl_outside.specs.declared.answers.Sent.{Sent}
use Rattle.cl_outside.specs.declared.answers.Sent.TheVariants.{Done, Failed}
use Rattle.cl_outside.specs.Device.{Picture}
use Rattle.cl_outside.specs.Play.{play}
use Rattle.cl_outside.specs.Writing.{Says}

-- the operation did not fail
abbrev pub is_done : Sent → Bool
is_done Done = true
is_done Failed = false

-- all bytes were sent; of an operation that failed, the first ones, and at least one byte is lost
abbrev pub Sends : Sent → (old new : Option (List ℕ)) → (bytes : List ℕ) → (faults_old faults_new : ℕ) → Type 0
Sends sent old new bytes faults_old faults_new = Says (is_done sent) old new bytes faults_old faults_new

-- a device that is not broken, and whose wire is told at all times, shows what its wire shows
abbrev pub IsTied : (told : Bool) → (wire : Option (List ℕ)) → (broken : Bool) → Option Picture → Type 0
IsTied told wire broken picture = told ≡ true → broken ≡ false → (bytes : List ℕ) → wire ≡ Some bytes → picture ≡ Some (play bytes)
