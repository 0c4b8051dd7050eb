-- The transcript of a session: what is said of the pieces of a stream, one after another.
use Rattle.std.specs.Prelude.{◌≡◌, ◌≤◌, ℕ, ◌+◌, Bool, true, false, not, List, [], ◌∷◌, ◌++◌, codes, map}
use Rattle.cl_outside.specs.Causes.{Rose}
use Rattle.cl_outside.specs.Writing.{joined}
use Rattle.cl_gesture.specs.Lines.{Piece}
use Rattle.cl_gesture.specs.Gesture.{LineKind, idle, bad, does, kind_of}
use Rattle.cl_gesture.specs.declared.answers.Gesture.{Gesture}
use Rattle.cl_frame.specs.Ground.{Ground}
use Rattle.cl_frame.specs.Sending.{SendsOn, ShowsPanes, Wire}
use Rattle.cl_frame.specs.Settling.{report_after}
use Rattle.cl_session.specs.World.{World}
use Rattle.cl_session.specs.Step.{Met, Spends, gesture_bytes, handled_or_not, next, settled_behind}
use Rattle.cl_session.specs.Runs.{bad_line}
use Rattle.cl_session.specs.Streams as streams
use Rattle.cl_session.specs.Totals.{with_gesture, with_memory}
use Rattle.cl_session.specs.declared.totals.Totals.{Totals}

-- a line with the line feed that ends it
abbrev pub ended_line : List ℕ → List ℕ
ended_line bytes = bytes ++ 10 ∷ []

-- lines, each with its line feed
abbrev pub line_bytes : List (List ℕ) → List ℕ
line_bytes lines = joined (map ended_line lines)

-- How a gesture's line went: it was lost for want of memory, or it was handled, whatever met want of memory then.
pub data Went : Type 0 where
  lost : Went
  stepped : Met → Went

-- what is said of a line, where so many were read before
abbrev pub said_of : Ground → World → ℕ → LineKind → Went → List ℕ
said_of g w before idle went = []
said_of g w before bad went = line_bytes (bad_line (before + 1) ∷ [])
said_of g w before (does act) lost = line_bytes (codes "! memory" ∷ [])
said_of g w before (does act) (stepped met) = line_bytes (next g w act met).lines

-- the world after a line
abbrev pub world_after : Ground → World → LineKind → Went → World
world_after g w idle went = w
world_after g w bad went = w
world_after g w (does act) lost = w
world_after g w (does act) (stepped met) = (next g w act met).world

-- what the ledger stands at, what is told of the device, and the sums over what was told of panes
pub record Meters : Type 0 where
  pub spent : ℕ
  pub device : Wire
  pub totals : Totals

-- meters of these parts
abbrev pub meters : (spent : ℕ) → (device : Wire) → (totals : Totals) → Meters
meters spent device totals = record { spent = spent; device = device; totals = totals }

-- no count falls, and one rose where this holds
abbrev pub RoseIf : Bool → (old new : ℕ) → Type 0
RoseIf true old new = (old ≤ new) × Rose old new
RoseIf false old new = old ≤ new

-- the sums behind a gesture
abbrev pub counted : Ground → World → Gesture → Met → Totals → Totals
counted g w act met totals =
    with_gesture totals met.handling (map report_after (settled_behind g (handled_or_not g w act met.handling) met.panes))

-- What a gesture spends and sends. The ledger rises by what it ran. All its bytes were sent, and playback of the wire is what the panes show
-- then; where it says `! wire`, the device failed behind the first bytes. What was told of the panes is counted.
pub record SpendsStep (g : Ground) (w : World) (act : Gesture) (met : Met) (old new : Meters) : Type 0 where
  pub ran : Spends g w act met old.spent new.spent
  pub failed : RoseIf met.wire old.device.faults new.device.faults
  pub sent : SendsOn (not met.wire) old.device new.device (gesture_bytes g w act met)
  pub shows : met.wire ≡ false → ShowsPanes g.app (next g w act met).world.panes new.device
  pub told : new.device.told ≡ old.device.told
  pub counts : new.totals ≡ counted g w act met old.totals

-- what a line spends; one that was lost is counted
abbrev pub Spent : Ground → World → LineKind → Went → (old new : Meters) → Type 0
Spent g w idle went old new = new ≡ old
Spent g w bad went old new = new ≡ old
Spent g w (does act) lost old new = new ≡ record old { totals = with_memory old.totals }
Spent g w (does act) (stepped met) old new = SpendsStep g w act met old new

-- ---- the session as a machine over a stream

-- what is said of a piece
abbrev pub said_of_piece : Ground → World → ℕ → Piece → Went → List ℕ
said_of_piece g w before p went = said_of g w before (kind_of p) went

-- the world after a piece
abbrev pub world_after_piece : Ground → World → Piece → Went → World
world_after_piece g w p went = world_after g w (kind_of p) went

-- the meters went from old to new with a piece
abbrev pub SpentOfPiece : Ground → World → Piece → Went → (old new : Meters) → Type 0
SpentOfPiece g w p went old new = Spent g w (kind_of p) went old new

-- These bytes are a transcript of the pieces. Want of memory and faults of the device are chosen at each gesture; nothing else is free,
-- but for the steps of what met want of memory.
abbrev pub IsTranscript : Ground → (from to : World) → ℕ → List Piece → List ℕ → (old new : Meters) → Type 0
IsTranscript g from to before ps bytes old new =
    streams.IsTranscript (said_of_piece g) (world_after_piece g) (SpentOfPiece g) from to before ps bytes old new
