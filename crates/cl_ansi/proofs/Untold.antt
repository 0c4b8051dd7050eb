-- Operations of a device that tells of no wire.
use Rattle.std.proofs.Common.{ℕ, ◌<◌, None, List, [], length, refl}
use Rattle.cl_outside.specs.Device.{SentRose}
use Rattle.cl_outside.specs.Sending.{Sends}
use Rattle.cl_outside.specs.declared.answers.Sent.{Sent}
use Rattle.cl_outside.specs.declared.answers.Sent.TheVariants.{Done, Failed}

pub Sends-untold : (sent : Sent) (bytes : List ℕ) (before now : ℕ) → 0 < length bytes → SentRose before now sent → Sends sent None None bytes before now
Sends-untold Done bytes before now some rose = tt
Sends-untold Failed bytes before now some rose = record {
  lost = bytes;
  wrote = record { sent = []; appended = tt; same = refl };
  some = some;
  rose = rose.1;
}
