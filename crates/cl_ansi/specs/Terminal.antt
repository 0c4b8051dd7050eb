-- What callers see of a device that is a terminal, and what its calls do to it.
use Rattle.std.specs.Prelude.{◌≡◌, ℕ, ◌-◌, Bool, true, false, ◌&&◌, ◌||◌, not, nat_lt, if◌then◌else◌, is_some, unwrap_or, List, [], Option, None, Some, take}
use Rattle.cl_outside.specs.Device.{Picture, SentRose}
use Rattle.cl_outside.specs.Sending.{Sends, is_done}
use Rattle.cl_outside.specs.declared.answers.Sent.{Sent}
use Rattle.cl_ansi.specs.Screen.{Screen, blank_screen, part_of, shown}
use Rattle.cl_ansi.specs.Sequences.{clear_bytes, span_bytes}

-- whether the sink tells its bytes at all times; the bytes that it took (None: not told) and its faults; whether an operation failed since the last
-- `clear`, whether there was one, and the size of its picture
pub record Terminal : Type 0 where
  pub told : Bool
  pub taken : Option (List ℕ)
  pub faults : ℕ
  pub broken : Bool
  pub cleared : Bool
  pub width : ℕ
  pub height : ℕ

-- a sink that tells its bytes at all times tells them now
abbrev pub IsTelling : (told : Bool) → (taken : Option (List ℕ)) → Type 0
IsTelling told taken = told ≡ true → is_some taken ≡ true

-- a terminal over a sink that took these bytes, and is not yet cleared
abbrev pub new_terminal : (told : Bool) → Option (List ℕ) → ℕ → Terminal
new_terminal told taken faults =
    record { told = told; taken = taken; faults = faults; broken = false; cleared = false; width = 1; height = 1 }

-- the screen of a terminal that was blank, after all bytes that it was sent
abbrev pub screen_of : Option (List ℕ) → Screen
screen_of taken = shown blank_screen (unwrap_or taken [])

-- its first columns and rows; None: its bytes are not told at all times
abbrev pub picture_in : (told : Bool) → Option (List ℕ) → (width height : ℕ) → Option Picture
picture_in true taken width height = Some (part_of (screen_of taken) width height)
picture_in false taken width height = None

-- what it shows in the columns and rows of the device
abbrev pub picture_of : Terminal → Option Picture
picture_of t = picture_in t.told t.taken t.width t.height

-- whether column x of row y is in the picture
abbrev pub is_inside : Terminal → (x y : ℕ) → Bool
is_inside t x y = t.cleared && nat_lt x t.width && nat_lt y t.height

-- the bytes of a span: the glyphs that lie in the picture; none where it begins outside
abbrev pub shown_bytes : Terminal → (x y ink : ℕ) → (glyphs : List ℕ) → List ℕ
shown_bytes t x y ink glyphs = if is_inside t x y then span_bytes x y ink (take (t.width - x) glyphs) else []

-- the bytes were sent and nothing else changed; or the sink failed behind the first ones of them, and the device is broken
pub record Writes (old new : Terminal) (bytes : List ℕ) (sent : Sent) : Type 0 where
  pub told_is : new.told ≡ old.told
  pub tells : IsTelling old.told old.taken
  pub sends : Sends sent old.taken new.taken bytes old.faults new.faults
  pub cause : SentRose old.faults new.faults sent
  pub broken_is : new.broken ≡ (old.broken || not (is_done sent))
  pub cleared_is : new.cleared ≡ old.cleared
  pub width_is : new.width ≡ old.width
  pub height_is : new.height ≡ old.height

-- the terminal was cleared, and its picture has this size; or the sink failed behind the first bytes, and the device is broken
pub record Clears (old new : Terminal) (width height : ℕ) (sent : Sent) : Type 0 where
  pub told_is : new.told ≡ old.told
  pub sends : Sends sent old.taken new.taken clear_bytes old.faults new.faults
  pub cause : SentRose old.faults new.faults sent
  pub broken_is : new.broken ≡ not (is_done sent)
  pub cleared_is : new.cleared ≡ (old.cleared || is_done sent)
  pub width_is : new.width ≡ (if is_done sent then width else old.width)
  pub height_is : new.height ≡ (if is_done sent then height else old.height)
