-- What a `Keyed` of the program is.
use Rattle.std.specs.Prelude.{map}
use Rattle.cl_forms.specs.DatumView.{datum_of}
use Rattle.cl_forms.specs.Keys as key
use Rattle.cl_forms.specs.declared.keys.Keyed.{Keyed}

-- a key of the program, with its offset and what stands behind it
abbrev pub keyed_of : Keyed → key.Keyed
keyed_of k = record { key = k.key; at = k.at; values = map datum_of k.values.now }
