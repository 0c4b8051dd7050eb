-- What holds above the step, in every transcript.
use Rattle.std.specs.Prelude.{◌≡◌, ◌⊎◌, ℕ, ◌+◌, ◌-◌, ◌^◌, ◌<◌, ◌≤◌, min, Bool, true, false, if◌then◌else◌, All, List, [], ◌∷◌, length}
use Rattle.cl_gesture.specs.Gesture.{LineKind, idle, bad, does, kind_of}
use Rattle.cl_eval.specs.Slots.{Slots}
use Rattle.cl_frame.specs.Ground.{Ground}
use Rattle.cl_gesture.specs.Lines.{Piece}
use Rattle.cl_gesture.specs.declared.answers.Gesture.{Gesture}
use Rattle.cl_gesture.specs.declared.answers.Gesture.TheVariants as gesture
use Rattle.cl_line.specs.declared.lines.TheConstants.{MAX_ELEMENTS}
use Rattle.cl_session.specs.Current.{IsCurrent}
use Rattle.cl_session.specs.Runs.{command_trap_line}
use Rattle.cl_session.specs.Step.{Met, handled, next}
use Rattle.cl_session.specs.Streams.{SpendsAll, transcript, worlds}
use Rattle.cl_session.specs.Transcript.{Meters, SpentOfPiece, Went, lost, said_of_piece, stepped, world_after_piece}
use Rattle.cl_session.specs.World.{World, opening}

-- ---- the headline

-- the worlds on the way through pieces, by what is chosen at each of them
abbrev pub worlds_of : Ground → World → List Piece → List Went → List World
worlds_of g w ps wents = worlds (said_of_piece g) (world_after_piece g) (SpentOfPiece g) w ps wents

-- At the opening, and in every world of a transcript from one on in which it is so, each pane is blank or has the script of its display
-- on that world's own slots.
pub record AreCurrentAlways : Type 0 where
  pub at_opening : (g : Ground) (slots : Slots) (failed : Bool) → IsCurrent g (opening g slots failed)
  pub from_then_on : (g : Ground) (w : World) (ps : List Piece) (wents : List Went) → IsCurrent g w → All (IsCurrent g) (worlds_of g w ps wents)

-- ---- want of memory is all freedom

-- each of them is false
abbrev pub AllFalse : List Bool → Type 0
AllFalse mets = All (λ met. met ≡ false) mets

-- nothing met want of memory, and no device failed
abbrev pub MetNothing : Went → Type 0
MetNothing lost = ⊥
MetNothing (stepped met) = (met.handling ≡ false) × AllFalse met.panes × (met.wire ≡ false)

-- two lists of choices in which nothing was met come to the same bytes and worlds, and the ledger rises by the same
pub record AreDetermined : Type 0 where
  pub bytes : (g : Ground) (w : World) (before : ℕ) (ps : List Piece) (first second : List Went) (from to other : Meters)
      → All MetNothing first → All MetNothing second
      → SpendsAll (said_of_piece g) (world_after_piece g) (SpentOfPiece g) w ps first from to
      → SpendsAll (said_of_piece g) (world_after_piece g) (SpentOfPiece g) w ps second from other
      → transcript (said_of_piece g) (world_after_piece g) (SpentOfPiece g) w before ps first
      ≡ transcript (said_of_piece g) (world_after_piece g) (SpentOfPiece g) w before ps second
  pub same_worlds : (g : Ground) (w : World) (ps : List Piece) (first second : List Went) (from to other : Meters)
      → All MetNothing first → All MetNothing second
      → SpendsAll (said_of_piece g) (world_after_piece g) (SpentOfPiece g) w ps first from to
      → SpendsAll (said_of_piece g) (world_after_piece g) (SpentOfPiece g) w ps second from other
      → worlds_of g w ps first ≡ worlds_of g w ps second
  pub costs : (g : Ground) (w : World) (ps : List Piece) (first second : List Went) (from to other : Meters)
      → All MetNothing first → All MetNothing second
      → SpendsAll (said_of_piece g) (world_after_piece g) (SpentOfPiece g) w ps first from to
      → SpendsAll (said_of_piece g) (world_after_piece g) (SpentOfPiece g) w ps second from other
      → to.spent ≡ other.spent

-- ---- what met want of memory is told

-- equal lines of one gesture from one world, whose panes are as many as are declared, mean the same next world
abbrev pub IsToldByLines : Type 0
IsToldByLines = (g : Ground) (w : World) (act : Gesture) (first second : Met) → IsCurrent g w
    → (next g w act first).lines ≡ (next g w act second).lines → (next g w act first).world ≡ (next g w act second).world

-- ---- a command that fails changes nothing

-- a handling that met want of memory, or whose reply is the line of a trap
abbrev pub Fails : Ground → World → Gesture → Met → Type 0
Fails g w act met = (met.handling ≡ true) ⊎ ((kind : ℕ) × ((handled g w act).replies ≡ command_trap_line kind ∷ []))

-- slots, line, what is enabled and the dialog are as before
abbrev pub IsUnchangedByFailure : Type 0
IsUnchangedByFailure = (g : Ground) (w : World) (act : Gesture) (met : Met) → Fails g w act met
    → ((next g w act met).world.slots ≡ w.slots) × ((next g w act met).world.line ≡ w.line) × ((next g w act met).world.enabled ≡ w.enabled)
    × ((next g w act met).world.dialog ≡ w.dialog)

-- ---- a rubout takes back what was typed

-- where the line has room for a byte, typing it and rubbing it out leaves the world as it was
abbrev pub IsTakenBack : Type 0
IsTakenBack = (g : Ground) (w : World) (byte : ℕ) → length w.line < MAX_ELEMENTS
    → (handled g (handled g w (gesture.«Type» (byte ∷ []))).world gesture.Rubout).world ≡ w

-- ---- faults of the wire are told

-- how many gestures say `! wire`
abbrev pub wires_in : LineKind → Went → ℕ
wires_in idle went = 0
wires_in bad went = 0
wires_in (does act) lost = 0
wires_in (does act) (stepped met) = if met.wire then 1 else 0

-- how many gestures met a failed device
abbrev pub wires_told : List Piece → List Went → ℕ
wires_told [] wents = 0
wires_told (p ∷ ps) [] = 0
wires_told (p ∷ ps) (c ∷ wents) = wires_in (kind_of p) c + wires_told ps wents

-- they are at most as many as the device's count of faults rose by, unless that stands at 2^64 - 1
abbrev pub AreCountedByFaults : Type 0
AreCountedByFaults = (g : Ground) (w : World) (ps : List Piece) (wents : List Went) (old new : Meters)
    → SpendsAll (said_of_piece g) (world_after_piece g) (SpentOfPiece g) w ps wents old new
    → min (old.device.faults + wires_told ps wents) (2 ^ 64 - 1) ≤ new.device.faults
