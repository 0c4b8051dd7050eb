use Rattle.std.proofs.Common.{◌≡◌, drop, map}
use Rattle.cl_forms.specs.OuterView.{outer_of}
use Rattle.cl_words.specs.Signatures.{with_outers, signatures_of}
use Rattle.cl_words.proofs.gathering.signatures_of.Given as goal

abbrev pub invariant-loop-outer : goal.invariant-loop-outer
invariant-loop-outer l = with_outers l.signatures (map outer_of (drop l.outer-index l.outers)) ≡ signatures_of (map outer_of l.outers)
