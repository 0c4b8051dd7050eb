use Rattle.std.proofs.Common.{◌≡◌, drop, map}
use Rattle.cl_forms.specs.KeyedView.{keyed_of}
use Rattle.cl_forms.specs.Keys.{values_of}
use Rattle.cl_forms.proofs.keys.values_of.Given as goal

abbrev pub invariant-loop-one : goal.invariant-loop-one
invariant-loop-one l = values_of l.key (map keyed_of (drop l.one-index l.keyed)) ≡ values_of l.key (map keyed_of l.keyed)
