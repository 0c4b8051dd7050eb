-- Frames whose panes are shown where they are declared.
use Rattle.std.proofs.Common.{◌≡◌, ℕ, ◌<◌, List, [], ◌∷◌, map, refl, sym, ◌∙◌, ap, arith}
use Rattle.std.proofs.lemmas.Bool.Decides.{nat_tests}
use Rattle.cl_application.specs.Panes.{panes_of}
use Rattle.cl_application.specs.declared.applications.App.{App}
use Rattle.cl_application.specs.declared.declarations.PaneDecl.{PaneDecl}
use Rattle.cl_outside.specs.Operations.{Op, clears}
use Rattle.cl_redisplay.proofs.OperationLemmas.{area_ops-same}
use Rattle.cl_redisplay.specs.Operations.{redraw_ops, whole_area}
use Rattle.cl_redisplay.specs.Paint.{cell_at}
use Rattle.cl_redisplay.specs.Shown.{Shown, shown_at}
use Rattle.cl_redisplay.specs.Wires.{WireShows}
use Rattle.cl_redisplay.specs.declared.areas.Area.{Area}
use Rattle.cl_frame.specs.Frames.{IsFrameOf, marks_of_frame}
use Rattle.cl_frame.specs.Panes.{area_of, area_of_pane, marks_in, marks_of_pane, shown_of_pane, shown_panes}
use Rattle.cl_frame.specs.Sending.{ShowsPanes, Wire, frame_ops}
use Rattle.cl_frame.specs.declared.frames.Frame.{Frame}
use Rattle.cl_frame.specs.declared.panes.Pane.{Pane}

first_area : (a b : Area) (xs ys : List Area) → ◌≡◌ {A = List Area} (a ∷ xs) (b ∷ ys) → a ≡ b
first_area a b xs ys e = cc

later_areas : (a b : Area) (xs ys : List Area) → ◌≡◌ {A = List Area} (a ∷ xs) (b ∷ ys) → xs ≡ ys
later_areas a b xs ys e = cc

no_area : (b : Area) (ys : List Area) → ◌≡◌ {A = List Area} [] (b ∷ ys) → ⊥
no_area b ys e = cc

-- panes that lie where they are declared are shown there
shown_same : (ds : List PaneDecl) (ps : List Pane) → map area_of_pane ps ≡ map area_of ds → shown_panes ds (map marks_of_pane ps) ≡ map shown_of_pane ps
shown_same [] [] e = refl
shown_same [] (p ∷ ps) e = absurd (no_area p.area (map area_of_pane ps) (sym e))
shown_same (d ∷ ds) [] e = absurd (no_area (area_of d) (map area_of ds) e)
shown_same (d ∷ ds) (p ∷ ps) e =
    let here : area_of d ≡ p.area = sym (first_area p.area (area_of d) (map area_of_pane ps) (map area_of ds) e) in
    let of : Area → Shown = λ a. record { area = a; marks = marks_in (marks_of_pane p) } in
    ap (λ (a : Area). of a ∷ shown_panes ds (map marks_of_pane ps)) here
    ∙ ap (λ (ss : List Shown). shown_of_pane p ∷ ss) (shown_same ds ps (later_areas p.area (area_of d) (map area_of_pane ps) (map area_of ds) e))

pub frame_shown : (app : App) (f : Frame) → IsFrameOf app f → shown_panes (panes_of app) (marks_of_frame f) ≡ map shown_of_pane f.panes.items
frame_shown app f h = shown_same (panes_of app) f.panes.items h.areas

-- the cells of the screen are those of its panes
pub cells_shown : (app : App) (f : Frame) (x y : ℕ) → IsFrameOf app f → x < app.frame.width → y < app.frame.height
    → cell_at f.screen.raster x y ≡ shown_at (shown_panes (panes_of app) (marks_of_frame f)) x y
cells_shown app f x y h columns rows =
    h.shown.shows.cells x y (omega (arith, h.width, columns)) (omega (arith, h.height, rows))
    ∙ ap (λ (ss : List Shown). shown_at ss x y) (sym (frame_shown app f h))

-- a redraw of the screen sends the panes
pub redraw_shown : (app : App) (f : Frame) → IsFrameOf app f
    → redraw_ops (cell_at f.screen.raster) f.screen.raster.width f.screen.raster.height ≡ frame_ops app (marks_of_frame f)
redraw_shown app f h =
    ap (λ (n : ℕ). redraw_ops (cell_at f.screen.raster) n f.screen.raster.height) h.width
    ∙ (ap (λ (n : ℕ). redraw_ops (cell_at f.screen.raster) app.frame.width n) h.height
    ∙ ap (λ (ops : List Op). clears app.frame.width app.frame.height ∷ ops)
    (area_ops-same (cell_at f.screen.raster) (shown_at (shown_panes (panes_of app) (marks_of_frame f))) (whole_area app.frame.width app.frame.height)
    (λ u v inside. cells_shown app f u v h (grind (arith, nat_tests, inside)) (grind (arith, nat_tests, inside)))))

-- a wire that shows the screen shows the panes
pub wire_panes : (app : App) (f : Frame) (w : Wire) → IsFrameOf app f
    → WireShows w.told w.bytes f.screen.raster.width f.screen.raster.height (cell_at f.screen.raster) → ShowsPanes app (marks_of_frame f) w
wire_panes app f w h shows = λ told bytes is_wire.
    let all = shows told bytes is_wire in
    record {
      width_is = all.width_is ∙ h.width;
      height_is = all.height_is ∙ h.height;
      cells = λ x y columns rows.
          all.cells x y (omega (arith, h.width, columns)) (omega (arith, h.height, rows)) ∙ cells_shown app f x y h columns rows;
    }
