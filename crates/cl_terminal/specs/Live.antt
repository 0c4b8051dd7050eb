-- A session that a person works with in a terminal.
use Rattle.std.specs.Prelude.{◌≡◌, ℕ, true, false, List}
use Rattle.cl_ansi.specs.Terminal.{Terminal, picture_of}
use Rattle.cl_eval.specs.Slots.{Slots}
use Rattle.cl_frame.specs.Ground.{Ground}
use Rattle.cl_gesture.specs.declared.answers.Gesture.{Gesture}
use Rattle.cl_keys.specs.Decoding.{State}
use Rattle.cl_redisplay.specs.Screens.{Agree}
use Rattle.cl_session.specs.Session.{Fits}
use Rattle.cl_session.specs.Step.{Met, next}
use Rattle.cl_session.specs.World.{World}
use Rattle.cl_session.specs.declared.sessions.Session.{Session}
use Rattle.cl_terminal.specs.Handled as handled

-- the world behind a gesture
abbrev pub world_behind : Ground → World → Gesture → Met → World
world_behind g w act met = (next g w act met).world

-- what met want of memory in a gesture in which the terminal did not fail
pub record Whole : Type 0 where
  pub met : Met
  pub whole : met.wire ≡ false

-- the world behind such a gesture
abbrev pub whole_behind : Ground → World → Gesture → Whole → World
whole_behind g w act how = world_behind g w act how.met

-- the gestures of bytes were handled, on the way from a world to another one, and the terminal did not fail
abbrev pub Handles : Ground → State → (from to : World) → List ℕ → Type 0
Handles g s from to bytes = handled.Handles (whole_behind g) g.app s from to bytes

-- bytes were taken on the way from a state and a world to others
abbrev pub GoesOn : Ground → (s : State) → (w : World) → (s_new : State) → (w_new : World) → List ℕ → Type 0
GoesOn g s w s_new w_new bytes = handled.GoesOn (whole_behind g) g.app s w s_new w_new bytes

-- the bytes hold the key that ends the run, and this is the world then
abbrev pub EndsAt : Ground → State → (from to : World) → List ℕ → Type 0
EndsAt g s from to bytes = handled.EndsAt (whole_behind g) g.app s from to bytes

-- A session fits its application and its slots, and the terminal shows its screen, unless that is stale.
pub record IsReady (g : Ground) (slots : Slots) (session : Session) (t : Terminal) : Type 0 where
  pub fits : Fits g slots session
  pub agree : Agree session.frame.screen.stale session.frame.screen.raster t.broken t.cleared (picture_of t)
  pub breaks : session.frame.screen.stale ≡ true → t.broken ≡ true
