-- What surrounds a run of the program: a place with its files, a source of gestures, an output, a ledger, and the device of its screen.
use Rattle.std.specs.Prelude.{◌≡◌, ℕ, true, false, List, [], Option, None, Some}
use Rattle.cl_frame.specs.Sending.{Wire, wire_of}
use Rattle.cl_outside.specs.Place.{IsTold}

-- what is told of the files of a place, the counts of faults by an application's name, that of making a sink, and what is told of the sink
-- that was made last
pub record Placed : Type 0 where
  pub file : List ℕ → Option (Option (List ℕ))
  pub app_faults : List ℕ → ℕ
  pub making_faults : ℕ
  pub sink : Wire

-- a place of these parts
abbrev pub placed : (List ℕ → Option (Option (List ℕ))) → (List ℕ → ℕ) → ℕ → Wire → Placed
placed file app_faults making_faults sink = record { file = file; app_faults = app_faults; making_faults = making_faults; sink = sink }

-- what is told of the gestures and of the output, with their counts of faults, and what the ledger stands at
pub record Streams : Type 0 where
  pub left : Option (List ℕ)
  pub gesture_faults : ℕ
  pub taken : Option (List ℕ)
  pub output_faults : ℕ
  pub spent : ℕ

-- streams of these parts
abbrev pub streams : Option (List ℕ) → ℕ → Option (List ℕ) → ℕ → ℕ → Streams
streams left gesture_faults taken output_faults spent =
    record { left = left; gesture_faults = gesture_faults; taken = taken; output_faults = output_faults; spent = spent }

-- ---- the device

-- that of a screen at which nobody looks: nothing is told, and it never fails
abbrev pub no_device : Wire
no_device = wire_of None 0 false

-- a sink that was just made: where its bytes are told at all times, it took none
pub record IsMade (old made : Wire) : Type 0 where
  pub faults : made.faults ≡ old.faults
  pub told : made.told ≡ old.told
  pub unused : made.told ≡ true → made.bytes ≡ Some []

-- the device of a run, before its opening and at its end: without a wire nobody looks; with one it is the sink of the file of that name, which
-- holds what the sink took
abbrev pub UsesDevice : (wire : Option (List ℕ)) → (place_old place_new : Placed) → (device_old device_new : Wire) → Type 0
UsesDevice None place_old place_new device_old device_new = (device_old ≡ no_device) × (device_new ≡ no_device) × (place_new.sink ≡ place_old.sink)
UsesDevice (Some name) place_old place_new device_old device_new =
    IsMade place_old.sink device_old × (place_new.sink ≡ device_new) × IsTold None device_new.bytes (place_new.file name)
