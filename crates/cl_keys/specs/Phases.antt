-- How a decoder holds its state.
use Rattle.std.specs.Prelude.{ℕ, List}
use Rattle.cl_keys.specs.declared.decoder.Phase.{Phase}
use Rattle.cl_keys.specs.declared.decoder.Phase.TheVariants as phase
use Rattle.cl_keys.specs.Decoding.{State, at_rest, escaped, shifted, collecting, passing}

-- the state of a phase and the bytes that are kept
abbrev pub state_of : Phase → List ℕ → State
state_of phase.Rest kept = at_rest
state_of phase.Escape kept = escaped
state_of phase.Shifted kept = shifted
state_of phase.Sequence kept = collecting kept
state_of phase.Long kept = passing
