-- What an `Outer` of the program is.
use Rattle.std.specs.Prelude.{map, option_map}
use Rattle.cl_forms.specs.DatumView.{datum_of}
use Rattle.cl_forms.specs.Outer as form
use Rattle.cl_forms.specs.declared.outer.Outer.{Outer}

-- an outermost form of the program, with its data as trees
abbrev pub outer_of : Outer → form.Outer
outer_of o = record { kind = o.kind; name = option_map (λ d. datum_of d.now) o.name; parts = map datum_of o.parts.now; at = o.at }
