use Rattle.std.proofs.Common.{◌≡◌, drop, map}
use Rattle.cl_forms.specs.DatumView.{datum_of}
use Rattle.cl_words.specs.Signatures.{with_panes}
use Rattle.cl_words.proofs.gathering.add_panes.Given as goal

abbrev pub invariant-loop-pane : goal.invariant-loop-pane
invariant-loop-pane l = with_panes l.signatures (map datum_of (drop l.pane-index l.panes)) ≡ with_panes l.initial.signatures (map datum_of l.panes)
