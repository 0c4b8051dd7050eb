-- How the bytes of a terminal make keys, one byte at a time.
use Rattle.std.specs.Prelude.{ℕ, Bool, ◌==◌, ◌&&◌, nat_le, nat_lt, if◌then◌else◌, Option, Some, None, option_map, List, [], ◌∷◌, ◌++◌, length}
use Rattle.cl_keys.specs.declared.keys.Key.{Key}
use Rattle.cl_keys.specs.declared.keys.Key.TheVariants as key
use Rattle.cl_keys.specs.Keys.{plain_key, stroke_of}
use Rattle.cl_keys.specs.Reports.{press_in}

-- what came of a key that has begun: nothing, an escape, an escape and `O`, a control sequence with these bytes so far, or one that is too long to be
-- kept
pub data State : Type 0 where
  at_rest : State
  escaped : State
  shifted : State
  collecting : List ℕ → State
  passing : State

-- the state after a byte, and the key that it ends
pub record Step : Type 0 where
  pub state : State
  pub key : Option Key

-- the state after a byte that begins no key but an escape
abbrev pub rested : ℕ → State
rested byte = if byte == 27 then escaped else at_rest

-- the state after an escape and a byte
abbrev pub begun : ℕ → State
begun byte = if byte == 91 then collecting [] else (if byte == 79 then shifted else rested byte)

-- a byte within a control sequence
abbrev pub is_part : ℕ → Bool
is_part byte = nat_le 32 byte && nat_le byte 63

-- a control sequence with one byte more: at most 16 are kept
abbrev pub with_part : List ℕ → ℕ → State
with_part bytes byte = if nat_lt (length bytes) 16 then collecting (bytes ++ byte ∷ []) else passing

-- the key of a control sequence that a byte ends: a press, where it is `M`
abbrev pub key_ended : List ℕ → ℕ → Option Key
key_ended bytes byte = if byte == 77 then option_map key.Press (press_in bytes) else None

-- what a byte does in a state
abbrev pub step : State → ℕ → Step
step at_rest byte = record { state = rested byte; key = plain_key byte }
step escaped byte = record { state = begun byte; key = stroke_of byte }
step shifted byte = record { state = at_rest; key = None }
step (collecting bytes) byte =
    if is_part byte then record { state = with_part bytes byte; key = None } else record { state = rested byte; key = key_ended bytes byte }
step passing byte = if is_part byte then record { state = passing; key = None } else record { state = rested byte; key = None }

-- a key, if there is one, before others
abbrev pub before_keys : Option Key → List Key → List Key
before_keys None keys = keys
before_keys (Some k) keys = k ∷ keys

-- the keys that end in the bytes, from a state on
abbrev pub keys_from : State → List ℕ → List Key
keys_from s [] = []
keys_from s (b ∷ bs) = before_keys (step s b).key (keys_from (step s b).state bs)

-- the state after the bytes
abbrev pub state_after : State → List ℕ → State
state_after s [] = s
state_after s (b ∷ bs) = state_after (step s b).state bs

-- the keys that bytes make
abbrev pub keys_of : List ℕ → List Key
keys_of bytes = keys_from at_rest bytes
