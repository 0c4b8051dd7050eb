-- Constants among values.
use Rattle.std.proofs.Common.{◌≡◌, ℕ, List, refl}
use Rattle.std.specs.Prelude.{Option, Some, None, if◌then◌else◌}
use Rattle.cl_value.specs.Data.{Data}
use Rattle.cl_lattice.specs.Arguments as arguments
use Rattle.cl_print.specs.Plain.{plain_of}
use Rattle.cl_ptext.specs.Words.{constant_in, same_word}

-- the constant that an argument is, else one of the others
abbrev pub constant_or : Option Data → List ℕ → Option Data → Option Data
constant_or None x other = other
constant_or (Some d) x other = if same_word (plain_of d) x then Some d else other

pub constant_first : (v : Option Data) (ds : List Data) (x : List ℕ) → constant_in (arguments.constant_before v ds) x ≡ constant_or v x (constant_in ds x)
constant_first None ds x = refl
constant_first (Some d) ds x = refl
