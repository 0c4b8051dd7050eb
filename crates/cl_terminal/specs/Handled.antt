-- What the handling of what a terminal sends comes to: bytes make keys, keys make gestures, and gestures are handled one after another.
use Rattle.std.specs.Prelude.{◌≡◌, ◌⊎◌, ℕ, Bool, true, false, List, [], ◌∷◌, ◌++◌}
use Rattle.std.specs.List.{before_first, list_any}
use Rattle.cl_application.specs.declared.applications.App.{App}
use Rattle.cl_gesture.specs.declared.answers.Gesture.{Gesture}
use Rattle.cl_keys.specs.Decoding.{State, keys_from, state_after}
use Rattle.cl_keys.specs.Gestures.{gestures_of}
use Rattle.cl_keys.specs.declared.keys.Key.{Key}
use Rattle.cl_keys.specs.declared.keys.Key.TheVariants as key

-- the key that ends a run
abbrev pub is_end : Key → Bool
is_end (key.Typed byte) = false
is_end key.Return = false
is_end key.Rubout = false
is_end key.Clear = false
is_end key.Force = false
is_end (key.Stroke letter) = false
is_end (key.Press press) = false
is_end key.End = true

-- the gestures of bytes, from a state of the decoder on, up to the key that ends the run
abbrev pub gestures_from : App → State → List ℕ → List Gesture
gestures_from app s bytes = gestures_of app (before_first is_end (keys_from s bytes))

-- whether that key is among those of the bytes
abbrev pub end_among : State → List ℕ → Bool
end_among s bytes = list_any is_end (keys_from s bytes)

module _ {World Choice : Type 0} (after : World → Gesture → Choice → World) (app : App) where
  -- Each of these gestures was handled in its turn, whatever met want of memory then, or was lost out of memory. Nothing else happened.
  abbrev pub AreHandled : World → List Gesture → World → Type 0
  AreHandled w [] to = to ≡ w
  AreHandled w (act ∷ more) to = AreHandled w more to ⊎ ((choice : Choice) × AreHandled (after w act choice) more to)

  -- the gestures of bytes were handled, on the way from a world to another one
  abbrev pub Handles : State → (from to : World) → List ℕ → Type 0
  Handles s from to bytes = AreHandled from (gestures_from app s bytes) to

  -- Bytes were taken on the way from a state and a world to others. What handling more bytes comes to from there on, handling all of them comes
  -- to from the first ones on; and where the key that ends the run is among those, it is among all of them.
  pub record GoesOn (s : State) (w : World) (s_new : State) (w_new : World) (bytes : List ℕ) : Type 0 where
    pub state : s_new ≡ state_after s bytes
    pub handles : (more : List ℕ) (to : World) → Handles s_new w_new to more → Handles s w to (bytes ++ more)
    pub ends : (more : List ℕ) → end_among s_new more ≡ true → end_among s (bytes ++ more) ≡ true

  -- the bytes hold the key that ends the run: whatever comes behind them, this is the world
  pub record EndsAt (s : State) (from to : World) (bytes : List ℕ) : Type 0 where
    pub handles : (more : List ℕ) → Handles s from to (bytes ++ more)
    pub ends : (more : List ℕ) → end_among s (bytes ++ more) ≡ true
