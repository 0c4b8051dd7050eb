use Rattle.std.proofs.Common.{◌∙◌, ap, refl}
use Rattle.cl_application.specs.Panes.{panes_of}
use Rattle.cl_frame.specs.declared.panes.Pane.{Pane}
use Rattle.cl_frame.proofs.DeclaredPanes.{declared_pane}
use Rattle.cl_frame.proofs.OpenedPanes.{areas_next, blank_next}
use Rattle.cl_frame.proofs.frames.blank_panes.Goals as goal

pub loop-place-preserved : goal.loop-place-preserved
loop-place-preserved c =
    let items = c.in_ok-push.ensures.items in
    let area = ap (λ (p : Pane). p.area) c.blank.ensures ∙ c.area_of.ensures in
    rw items (record {
      areas = areas_next (panes_of c.args.app.now) c.loop-place.place c.in-Some.declared.now c.loop-place.panes.items c.blank.result _
          (declared_pane c.args.app.now.frame.panes c.loop-place.place c.in-Some.declared.now c.in-Some.ensures) area c.loop-place.invariant.areas;
      blank = blank_next c.loop-place.panes.items c.blank.result c.loop-place.invariant.blank (rw c.blank.ensures (refl, refl));
    })
