-- A datum's parts weigh less than the datum, by which a recursion over data ends.
use Rattle.std.specs.Prelude.{◌≤◌, List, [], ◌∷◌, map}
use Rattle.std.proofs.Common.{arith}
use Rattle.cl_forms.specs.Datum.{weight, weights, datums_of}
use Rattle.cl_forms.specs.DatumView.{datum_of}
use Rattle.cl_forms.specs.declared.datum.Datum.{Datum}
use Rattle.cl_forms.specs.declared.datum.Datum.TheVariants as variant
use Rattle.cl_forms.specs.declared.datum.Datums.TheDeep.{deep-Datum, deep-Datums}
use Rattle.cl_forms.specs.declared.datum.Datums.TheInside.{Inside}
use denote.Param.Weighed.{most}

-- a datum is no deeper than its weight
pub deep-weight : (d : Datum) → deep-Datum d ≤ weight (datum_of d)
deep-weight (variant.Number z at) = omega arith
deep-weight (variant.Literal s at) = omega arith
deep-weight (variant.Word s at) = omega arith
deep-weight (variant.Quoted s at name_at) = omega arith
deep-weight (variant.Stray at) = omega arith
deep-weight (variant.List ds at) = omega arith

-- no datum of a row is deeper than the row's weight
pub most-weight : (ds : List Datum) → most deep-Datum ds ≤ weights (datums_of (map datum_of ds))
most-weight [] = omega arith
most-weight (d ∷ ds) = omega (arith, deep-weight d, most-weight ds)

-- shared data are no deeper than their weight
pub data-weight : (a : Inside) → deep-Datums a ≤ weights (datums_of (map datum_of a.items.items))
data-weight a = omega (arith, most-weight a.items.items)
