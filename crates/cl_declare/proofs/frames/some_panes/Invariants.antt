use Rattle.std.proofs.Common.{◌≡◌, ◌++◌, drop, map}
use Rattle.std.specs.Prelude.{option_map}
use Rattle.cl_forms.specs.DatumView.{datum_of}
use Rattle.cl_declare.specs.Frames.{all_panes, some_panes}
use Rattle.cl_declare.proofs.frames.some_panes.Given as goal

abbrev pub invariant-loop-pane : goal.invariant-loop-pane
invariant-loop-pane l =
    option_map (λ qs. l.forms ++ qs) (all_panes l.signatures (map datum_of (drop l.pane-index l.more)))
    ≡ some_panes l.signatures (map datum_of l.panes)
