-- Frames that are updated: what is sent, and what the wire shows then.
use Rattle.std.proofs.Common.{◌≡◌, ℕ, Bool, true, false, if◌then◌else◌, List, Option, map, sym, ◌∙◌, ap, subst}
use Rattle.cl_application.specs.declared.applications.App.{App}
use Rattle.cl_outside.specs.Device as device
use Rattle.cl_outside.specs.Operations.{Op, mended, ops_bytes}
use Rattle.cl_outside.specs.Sending.{IsTied}
use Rattle.cl_redisplay.proofs.WireLemmas.{wire_shows}
use Rattle.cl_redisplay.specs.Operations.{redraw_ops}
use Rattle.cl_redisplay.specs.Paint.{cell_at}
use Rattle.cl_redisplay.specs.Screens.{Agree, StaleAfter, is_fault}
use Rattle.cl_redisplay.specs.declared.screens.Painted.{Painted}
use Rattle.cl_redisplay.specs.declared.screens.Painted.TheVariants as painted
use Rattle.cl_application.specs.Panes.{panes_of}
use Rattle.cl_frame.specs.Frames.{IsFrameOf, is_stale_under, marks_of_frame}
use Rattle.cl_frame.specs.States.{StateAt}
use Rattle.cl_frame.specs.Ground.{Ground}
use Rattle.cl_frame.specs.Panes.{PaneMarks, marks_of_pane}
use Rattle.cl_frame.specs.Sending.{SendsOn, ShowsPanes, Wire, frame_ops, settled_ops, update_bytes}
use Rattle.cl_frame.specs.declared.frames.Frame.{Frame}
use Rattle.cl_frame.specs.declared.settling.Which.{Which}
use Rattle.cl_frame.proofs.ShownFrames.{redraw_shown, wire_panes}

-- a screen that was stale stays so while panes are settled
pub stays-stale : (s new : Bool) (p : Painted) → StaleAfter s new p → s ≡ true → new ≡ true
stays-stale s new painted.Done h e = h ∙ e
stays-stale s new painted.DeviceFault h e = h

-- one that was not is not, where the device did not fail
pub stays-fresh : (s new : Bool) (p : Painted) → StaleAfter s new p → is_fault p ≡ false → s ≡ false → new ≡ false
stays-fresh s new painted.Done h whole e = h ∙ e
stays-fresh s new painted.DeviceFault h whole e = cc

-- the whole screen was sent
pub sends-redraw : (g : Ground) (which : Which) (state : StateAt) (stale broken : Bool) (olds : List PaneMarks) (mid new : Frame) (whole : Bool) (a b : Wire)
    → is_stale_under which stale ≡ true → IsFrameOf g.app mid → new.panes ≡ mid.panes
    → SendsOn whole a b (mended broken (ops_bytes (redraw_ops (cell_at mid.screen.raster) mid.screen.raster.width mid.screen.raster.height)))
    → SendsOn whole a b (update_bytes g which state stale broken olds (marks_of_frame new))
sends-redraw g which state stale broken olds mid new whole a b redraws frame panes sent =
    let marks : marks_of_frame new ≡ marks_of_frame mid = ap (λ ps. map marks_of_pane ps.items) panes in
    let bytes : update_bytes g which state stale broken olds (marks_of_frame new)
    ≡ mended broken (ops_bytes (redraw_ops (cell_at mid.screen.raster) mid.screen.raster.width mid.screen.raster.height)) =
    ap (λ (c : Bool). if c then mended broken (ops_bytes (frame_ops g.app (marks_of_frame new))) else ops_bytes (settled_ops g which state (panes_of g.app) olds (marks_of_frame new))) redraws
    ∙ (ap (λ (ms : List PaneMarks). mended broken (ops_bytes (frame_ops g.app ms))) marks
    ∙ ap (λ (ops : List Op). mended broken (ops_bytes ops)) (sym (redraw_shown g.app mid frame))) in
    subst (λ (bs : List ℕ). SendsOn whole a b bs) (sym bytes) sent

-- what the wire shows of a screen that is not stale
pub shows-frame : (app : App) (f : Frame) (w : Wire) (stale broken cleared : Bool) (shown : Option device.Picture) → IsFrameOf app f → stale ≡ false
    → Agree stale f.screen.raster broken cleared shown → IsTied w.told w.bytes broken shown → ShowsPanes app (marks_of_frame f) w
shows-frame app f w stale broken cleared shown frame fresh agree tied =
    wire_panes app f w frame
    (wire_shows f.screen.raster w.told broken cleared w.bytes shown (subst (λ (b : Bool). Agree b f.screen.raster broken cleared shown) fresh agree) tied)

-- the same, where the panes are those of another frame
pub shows-same : (app : App) (old new : Frame) (w : Wire) → new.panes ≡ old.panes → ShowsPanes app (marks_of_frame old) w → ShowsPanes app (marks_of_frame new) w
shows-same app old new w panes h =
    subst (λ (ms : List PaneMarks). ShowsPanes app ms w) (sym (ap (λ ps. map marks_of_pane ps.items) panes)) h
