-- The panes of a frame, one behind the other.
use Rattle.std.proofs.Common.{◌≡◌, List, [], ◌∷◌, ◌++◌, refl, ap, sym}
use Rattle.std.specs.Prelude.{Option, Some, None, option_map}
use Rattle.std.proofs.lemmas.List.{append_assoc}
use Rattle.cl_declare.specs.Frames.{pane_before}
use Rattle.cl_declare.specs.declared.pane_forms.PaneForm.{PaneForm}

-- what stands before a pane stands before what begins with it
pub pane_behind : (ps : List PaneForm) (p : PaneForm) (more : Option (List PaneForm))
    → option_map (λ qs. (ps ++ p ∷ []) ++ qs) more ≡ option_map (λ qs. ps ++ qs) (pane_before (Some p) more)
pane_behind ps p None = refl
pane_behind ps p (Some qs) = ap Some (append_assoc ps (p ∷ []) qs)
