-- When a device over a sink is in step with the bytes that the sink took, and which picture it shows.
use Rattle.std.specs.Prelude.{◌≡◌, Bool, true, false, ℕ, List, [], Option, None, Some, is_some, unwrap_or}
use Rattle.cl_outside.specs.Device.{Picture}
use Rattle.cl_outside.specs.Play.{Playing, at_start, play, played}

-- the last line was ended, and something is shown just where the device was cleared
pub record IsSteady (cleared : Bool) (state : Playing) : Type 0 where
  pub ended : state.line ≡ []
  pub shown : is_some state.shown ≡ cleared

-- a sink that tells its bytes at all times tells them now, and they stand at the start of a line while the device is whole
pub record IsInStep (told broken cleared : Bool) (taken : Option (List ℕ)) : Type 0 where
  pub tells : told ≡ true → is_some taken ≡ true
  pub steady : told ≡ true → broken ≡ false → IsSteady cleared (played at_start (unwrap_or taken []))

-- the picture of the bytes that the sink took, while the device is whole and the sink tells them at all times
abbrev pub wire_picture : (told broken : Bool) → (taken : Option (List ℕ)) → Option Picture
wire_picture true false taken = Some (play (unwrap_or taken []))
wire_picture true true taken = None
wire_picture false broken taken = None

-- a sink that tells its bytes at all times took none
abbrev pub IsUnused : (told : Bool) → (taken : Option (List ℕ)) → Type 0
IsUnused told taken = told ≡ true → taken ≡ Some []
