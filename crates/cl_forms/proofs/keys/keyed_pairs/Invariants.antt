use Rattle.std.proofs.Common.{◌≡◌, [], length, map}
use Rattle.cl_forms.specs.DatumView.{datum_of}
use Rattle.cl_forms.specs.KeyedView.{keyed_of}
use Rattle.cl_forms.specs.Keys.{keyed_pairs}
use Rattle.cl_forms.proofs.keys.keyed_pairs.Given as goal

abbrev pub invariant-loop-key : goal.invariant-loop-key
invariant-loop-key l = keyed_pairs l.may_have (map keyed_of l.keyed.items) (map datum_of l.rest) ≡ keyed_pairs l.may_have [] (map datum_of l.parts)

abbrev pub decreases-loop-key : goal.decreases-loop-key
decreases-loop-key l = length l.rest
