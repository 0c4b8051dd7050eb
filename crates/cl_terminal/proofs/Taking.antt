-- What is taken of bytes that are read.
use Rattle.std.proofs.Common.{◌≡◌, ◌≤◌, ◌<◌, ◌∙◌, ◌++◌, ◌∷◌, ◌+◌, ℕ, false, List, [], Some, append_assoc, ap, drop, get_or, length, refl, subst, sym, take, arith}
use Rattle.std.proofs.lemmas.List.{take-append-drop, take_more}
use Rattle.cl_frame.specs.Ground.{Ground}
use Rattle.cl_gesture.specs.declared.answers.Gesture.{Gesture}
use Rattle.cl_keys.specs.Decoding.{State, step}
use Rattle.cl_keys.specs.Gestures.{gesture_of}
use Rattle.cl_keys.specs.declared.keys.Key.{Key}
use Rattle.cl_outside.specs.Causes.{Rose}
use Rattle.cl_session.specs.World.{World}
use Rattle.cl_terminal.specs.Handled.{is_end}
use Rattle.cl_terminal.specs.Live.{EndsAt, GoesOn, whole_behind}
use Rattle.cl_terminal.specs.Serving.{HandlesOne, Takes, standing}
use Rattle.cl_terminal.specs.declared.flows.Flow.{Flow}
use Rattle.cl_terminal.specs.declared.flows.Flow.TheVariants as flow
use Rattle.cl_terminal.proofs.Handling.{both-taken, byte-act, byte-handled, byte-unhandled, end-before, nothing-taken, taken-to-end}

pub rose-earlier : (a b c : ℕ) → a ≤ b → Rose b c → Rose a c
rose-earlier a b c h r = omega (arith, h, r)

pub rose-later : (a b c : ℕ) → Rose a b → b ≤ c → Rose a c
rose-later a b c r h = omega (arith, r, h)

-- a byte that ends a key whose gesture is not handled
pub byte-passed : (g : Ground) (s s_new : State) (w : World) (b : ℕ) (k : Key) → (step s b).key ≡ Some k → is_end k ≡ false → s_new ≡ (step s b).state
    → GoesOn g s w s_new w (b ∷ [])
byte-passed g s s_new w b k e other state =
    subst (λ (t : State). GoesOn g s w t w (b ∷ [])) (sym state) (byte-unhandled (whole_behind g) g.app s w b k e other)

-- a byte that ends a key whose gesture is handled
pub byte-acts : (g : Ground) (s s_new : State) (w w_new : World) (b : ℕ) (k : Key) (act : Gesture) (faults_old faults_new : ℕ) (f : Flow)
    → (step s b).key ≡ Some k → is_end k ≡ false → gesture_of g.app k ≡ Some act → s_new ≡ (step s b).state
    → HandlesOne g w act w_new faults_old faults_new f → Takes g (standing s w) (standing s_new w_new) (b ∷ []) faults_old faults_new f
byte-acts g s s_new w w_new b k act faults_old faults_new flow.On e other has state (how, world) =
    subst (λ (t : State). GoesOn g s w t w_new (b ∷ [])) (sym state) (byte-handled (whole_behind g) g.app s w w_new b k act how e other has world)
byte-acts g s s_new w w_new b k act faults_old faults_new flow.End e other has state never = elim never [ ]
byte-acts g s s_new w w_new b k act faults_old faults_new flow.Fault e other has state (met, failed, world, rose) = record {
  front = [];
  byte = b;
  back = [];
  same = refl;
  mid = standing s w;
  goes = nothing-taken (whole_behind g) g.app s w;
  falls = record { act = act; met = met; is = byte-act (whole_behind g) g.app s b k act e other has; failed = failed; world = world };
  rose = rose;
}

-- bytes are those before one of them, that one, and those behind it
pub bytes-around : (bytes : List ℕ) (i : ℕ) → i < length bytes → bytes ≡ (take i bytes ++ get_or bytes i 0 ∷ []) ++ drop (i + 1) bytes
bytes-around bytes i h = sym (take-append-drop (i + 1) bytes) ∙ ap (λ (xs : List ℕ). xs ++ drop (i + 1) bytes) (take_more bytes i 0 h)

-- one byte more is taken
pub taken-more : (g : Ground) (s : State) (w : World) (s_mid : State) (w_mid : World) (s_new : State) (w_new : World) (bytes : List ℕ) (i : ℕ) → i < length bytes
    → GoesOn g s w s_mid w_mid (take i bytes) → GoesOn g s_mid w_mid s_new w_new (get_or bytes i 0 ∷ []) → GoesOn g s w s_new w_new (take (i + 1) bytes)
taken-more g s w s_mid w_mid s_new w_new bytes i h first then =
    subst (λ (xs : List ℕ). GoesOn g s w s_new w_new xs) (sym (take_more bytes i 0 h))
    (both-taken (whole_behind g) g.app s w s_mid w_mid s_new w_new (take i bytes) (get_or bytes i 0 ∷ []) first then)

-- a byte behind others closes the run, and the bytes behind it are passed over
pub taken-and-closed : (g : Ground) (s : State) (w : World) (s_mid : State) (w_mid : World) (s_new : State) (w_new : World) (bytes : List ℕ) (i : ℕ)
    (faults_old faults_mid faults_new : ℕ) (f : Flow) → i < length bytes → (f ≡ flow.On → ⊥) → faults_old ≤ faults_mid
    → GoesOn g s w s_mid w_mid (take i bytes) → Takes g (standing s_mid w_mid) (standing s_new w_new) (get_or bytes i 0 ∷ []) faults_mid faults_new f
    → Takes g (standing s w) (standing s_new w_new) bytes faults_old faults_new f
taken-and-closed g s w s_mid w_mid s_new w_new bytes i faults_old faults_mid faults_new flow.On h off le first then = absurd (off refl)
taken-and-closed g s w s_mid w_mid s_new w_new bytes i faults_old faults_mid faults_new flow.End h off le first then =
    subst (λ (xs : List ℕ). EndsAt g s w w_new xs) (sym (bytes-around bytes i h))
    (end-before (whole_behind g) g.app s w w_new (take i bytes ++ get_or bytes i 0 ∷ []) (drop (i + 1) bytes)
    (taken-to-end (whole_behind g) g.app s w s_mid w_mid w_new (take i bytes) (get_or bytes i 0 ∷ []) first then))
taken-and-closed g s w s_mid w_mid s_new w_new bytes i faults_old faults_mid faults_new flow.Fault h off le first then = record {
  front = take i bytes ++ then.front;
  byte = then.byte;
  back = then.back ++ drop (i + 1) bytes;
  same = bytes-around bytes i h ∙ ap (λ (xs : List ℕ). (take i bytes ++ xs) ++ drop (i + 1) bytes) then.same
      ∙ (ap (λ (xs : List ℕ). xs ++ drop (i + 1) bytes) (sym (append_assoc (take i bytes) then.front (then.byte ∷ then.back)))
      ∙ append_assoc (take i bytes ++ then.front) (then.byte ∷ then.back) (drop (i + 1) bytes));
  mid = then.mid;
  goes = both-taken (whole_behind g) g.app s w s_mid w_mid then.mid.state then.mid.world (take i bytes) then.front first then.goes;
  falls = then.falls;
  rose = rose-earlier faults_old faults_mid faults_new le then.rose;
}
