-- Operations of a device that tells of no wire.
use Rattle.std.proofs.Common.{ℕ, ◌<◌, Bool, true, false, None, List, [], ◌∷◌, length, refl, arith}
use Rattle.cl_outside.specs.Causes.{Rose}
use Rattle.cl_outside.specs.MemoryDevice.{CountsFailure}
use Rattle.cl_outside.specs.Operations.{mended}
use Rattle.cl_outside.specs.Writing.{CutShort}
use Rattle.cl_outside.specs.declared.answers.Sent.TheVariants.{Failed}

pub some-mended : (broken : Bool) (byte : ℕ) (bytes : List ℕ) → 0 < length (mended broken (byte ∷ bytes))
some-mended true byte bytes = omega arith
some-mended false byte bytes = omega arith

rose-failed : (before now : ℕ) → CountsFailure before now Failed → Rose before now
rose-failed before now h = rw h (omega arith)

pub CutShort-untold : (bytes : List ℕ) (before now : ℕ) → 0 < length bytes → CountsFailure before now Failed → CutShort None None bytes before now
CutShort-untold bytes before now some counts = record {
  lost = bytes;
  wrote = record { sent = []; appended = tt; same = refl };
  some = some;
  rose = rose-failed before now counts;
}
