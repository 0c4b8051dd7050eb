-- What serving a terminal comes to.
use Rattle.std.specs.Prelude.{◌≡◌, ◌≤◌, ◌⊎◌, ℕ, true, List, [], ◌∷◌, ◌++◌, length, Option, None, Some, ⊤}
use Rattle.std.specs.Io.KnownBytes.{Consumes, IsAtEnd}
use Rattle.cl_ansi.specs.Terminal.{Terminal}
use Rattle.cl_eval.specs.Slots.{Slots}
use Rattle.cl_frame.specs.Ground.{Ground}
use Rattle.cl_gesture.specs.declared.answers.Gesture.{Gesture}
use Rattle.cl_keys.specs.Decoding.{State, state_after}
use Rattle.cl_outside.specs.Causes.{Rose}
use Rattle.cl_session.specs.Step.{Met}
use Rattle.cl_session.specs.World.{World}
use Rattle.cl_session.specs.declared.sessions.Session.{Session}
use Rattle.cl_terminal.specs.Handled.{end_among, gestures_from}
use Rattle.cl_terminal.specs.Live.{EndsAt, GoesOn, Handles, IsReady, Whole, whole_behind, world_behind}
use Rattle.cl_terminal.specs.declared.flows.Flow.{Flow}
use Rattle.cl_terminal.specs.declared.flows.Flow.TheVariants as flow
use Rattle.cl_terminal.specs.declared.flows.Closing.{Closing}
use Rattle.cl_terminal.specs.declared.flows.Closing.TheVariants as closing
use Rattle.cl_terminal.specs.declared.serving.TheConstants.{MOST_READS}

-- where a terminal stands: the state of its decoder and the world
pub record Standing : Type 0 where
  pub state : State
  pub world : World

-- a standing of these parts
abbrev pub standing : State → World → Standing
standing state world = record { state = state; world = world }

-- a byte ends a key whose gesture was handled, and in that the terminal failed
pub record FallsIn (g : Ground) (old new : Standing) (byte : ℕ) : Type 0 where
  pub act : Gesture
  pub met : Met
  pub is : gestures_from g.app old.state (byte ∷ []) ≡ act ∷ []
  pub failed : met.wire ≡ true
  pub world : new.world ≡ world_behind g old.world act met

-- the first ones of the bytes were taken, and the terminal failed in the gesture of the next one
pub record Broke (g : Ground) (old new : Standing) (bytes : List ℕ) (faults_old faults_new : ℕ) : Type 0 where
  pub front : List ℕ
  pub byte : ℕ
  pub back : List ℕ
  pub same : bytes ≡ front ++ byte ∷ back
  pub mid : Standing
  pub goes : GoesOn g old.state old.world mid.state mid.world front
  pub falls : FallsIn g mid new byte
  pub rose : Rose faults_old faults_new

-- what taking bytes comes to, by what it answers
abbrev pub Takes : Ground → (old new : Standing) → List ℕ → (faults_old faults_new : ℕ) → Flow → Type 0
Takes g old new bytes faults_old faults_new flow.On = GoesOn g old.state old.world new.state new.world bytes
Takes g old new bytes faults_old faults_new flow.End = EndsAt g old.state old.world new.world bytes
Takes g old new bytes faults_old faults_new flow.Fault = Broke g old new bytes faults_old faults_new

-- a gesture was handled, and the terminal failed in it or did not
abbrev pub HandlesOne : Ground → (from : World) → Gesture → (to : World) → (faults_old faults_new : ℕ) → Flow → Type 0
HandlesOne g from act to faults_old faults_new flow.On = (how : Whole) × (to ≡ whole_behind g from act how)
HandlesOne g from act to faults_old faults_new flow.End = ⊥
HandlesOne g from act to faults_old faults_new flow.Fault =
    (met : Met) × (met.wire ≡ true) × (to ≡ world_behind g from act met) × Rose faults_old faults_new

-- bytes were read, and the gestures of all of them were handled
pub record Served (g : Ground) (old new : Standing) (left_old left_new : Option (List ℕ)) : Type 0 where
  pub read : List ℕ
  pub consumes : Consumes left_old left_new read
  pub handled : Handles g old.state old.world new.world read

-- the same, and the key that ends the run is among them, or no byte is left
pub record ServedAll (g : Ground) (old new : Standing) (left_old left_new : Option (List ℕ)) : Type 0 where
  pub read : List ℕ
  pub consumes : Consumes left_old left_new read
  pub handled : Handles g old.state old.world new.world read
  pub complete : (end_among old.state read ≡ true) ⊎ IsAtEnd left_new

-- the same, and there were so many bytes or more
pub record ServedLong (g : Ground) (old new : Standing) (left_old left_new : Option (List ℕ)) (reads : ℕ) : Type 0 where
  pub read : List ℕ
  pub consumes : Consumes left_old left_new read
  pub handled : Handles g old.state old.world new.world read
  pub long : reads ≤ length read

-- the terminal failed in the gesture of the next byte, or in the rows below the screen, where no byte is left of those that were read
abbrev pub Falls : Ground → (old new : Standing) → List ℕ → Type 0
Falls g old new [] = new ≡ old
Falls g old new (byte ∷ bytes) = FallsIn g old new byte

-- bytes were read, and the gestures of the first ones were handled: then the terminal failed
pub record ServedFirst (g : Ground) (old new : Standing) (left_old left_new : Option (List ℕ)) (faults_old faults_new : ℕ) : Type 0 where
  pub front : List ℕ
  pub back : List ℕ
  pub consumes : Consumes left_old left_new (front ++ back)
  pub mid : Standing
  pub state : mid.state ≡ state_after old.state front
  pub handled : Handles g old.state old.world mid.world front
  pub falls : Falls g mid new back
  pub rose : Rose faults_old faults_new

-- what serving comes to, by how it closed: the faults are those of the keys and those of the terminal
abbrev pub Serves : Ground → (old new : Standing) → (left_old left_new : Option (List ℕ)) → (keys_old keys_new terminal_old terminal_new : ℕ) → Closing → Type 0
Serves g old new left_old left_new keys_old keys_new terminal_old terminal_new closing.Done = ServedAll g old new left_old left_new
Serves g old new left_old left_new keys_old keys_new terminal_old terminal_new closing.ReadFault =
    Served g old new left_old left_new × Rose keys_old keys_new
Serves g old new left_old left_new keys_old keys_new terminal_old terminal_new closing.OutputFault =
    ServedFirst g old new left_old left_new terminal_old terminal_new
Serves g old new left_old left_new keys_old keys_new terminal_old terminal_new closing.TooLong =
    ServedLong g old new left_old left_new MOST_READS

-- bytes were read in so many reads, each of one or more, and taken
pub record Turned (g : Ground) (reads : ℕ) (old new : Standing) (left_old left_new : Option (List ℕ)) : Type 0 where
  pub read : List ℕ
  pub consumes : Consumes left_old left_new read
  pub goes : GoesOn g old.state old.world new.state new.world read
  pub long : reads ≤ length read

-- what the bytes of one read come to, by whether they close the run
abbrev pub Turns : Ground → (old new : Standing) → (left_old left_new : Option (List ℕ)) → (keys_old keys_new terminal_old terminal_new : ℕ) → Option Closing → Type 0
Turns g old new left_old left_new keys_old keys_new terminal_old terminal_new None = Turned g 1 old new left_old left_new
Turns g old new left_old left_new keys_old keys_new terminal_old terminal_new (Some how) =
    Serves g old new left_old left_new keys_old keys_new terminal_old terminal_new how

-- how the bytes of a read close the run, if they do
abbrev pub closing_of : Flow → Option Closing
closing_of flow.On = None
closing_of flow.End = Some closing.Done
closing_of flow.Fault = Some closing.OutputFault

-- unless the terminal failed, the session fits and the terminal shows its screen
abbrev pub IsReadyAt : Ground → Slots → Session → Terminal → Closing → Type 0
IsReadyAt g slots session t closing.Done = IsReady g slots session t
IsReadyAt g slots session t closing.ReadFault = IsReady g slots session t
IsReadyAt g slots session t closing.OutputFault = ⊤
IsReadyAt g slots session t closing.TooLong = IsReady g slots session t

-- the same behind one read
abbrev pub IsReadyBehind : Ground → Slots → Session → Terminal → Option Closing → Type 0
IsReadyBehind g slots session t None = IsReady g slots session t
IsReadyBehind g slots session t (Some how) = IsReadyAt g slots session t how
