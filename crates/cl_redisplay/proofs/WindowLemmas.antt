-- Items that are painted through a window.
use Rattle.std.proofs.Common.{◌≡◌, ℕ, ◌+◌, ◌-◌, ◌<◌, ◌≤◌, ℤ, pos, true, List, [], refl, sym, ◌∙◌, ap, subst, arith}
use Rattle.std.proofs.lemmas.Bool.Decides.{nat_tests}
use Rattle.std.proofs.lemmas.Int.{ints}
use Rattle.cl_medium.specs.Items.{Painted, item_cell, Item}
use Rattle.cl_raster.specs.Raster.{Picture}
use Rattle.cl_record.specs.Marks.{Mark}
use Rattle.cl_record.specs.Replays.{items_drawn, cell_after}
use Rattle.cl_region.specs.Places.{holds}
use Rattle.cl_region.specs.declared.rects.Rect.{Rect}
use Rattle.cl_region.proofs.Corners.{holds_within}
use Rattle.cl_redisplay.specs.Paint.{KeepsOthers, Repaints, cell_at, covers, own_rect}
use Rattle.cl_redisplay.specs.Parts.{window_cell}
use Rattle.cl_redisplay.specs.Windows.{Keeps, others_through}
use Rattle.cl_redisplay.specs.declared.areas.Area.{Area}
use Rattle.cl_redisplay.specs.declared.windows.Window.{Window}

-- ---- a whole history

in_area : (area : Area) (x y : ℕ) → covers area x y ≡ true
    → (area.x ≤ x) × ((x < area.x + area.width) × ((area.y ≤ y) × (y < area.y + area.height)))
in_area area x y h = (grind (arith, nat_tests, h), (grind (arith, nat_tests, h), (grind (arith, nat_tests, h), grind (arith, nat_tests, h))))

-- the cell of a window at a place of the screen
window_at : (p : Picture) (area : Area) (x y : ℕ) → covers area x y ≡ true
    → (holds (own_rect area) (pos (x - area.x)) (pos (y - area.y)) ≡ true) × (window_cell p area (pos (x - area.x)) (pos (y - area.y)) ≡ cell_at p x y)
window_at p area x y h =
    let k = in_area area x y h in
    let shown = holds_within (own_rect area) (pos (x - area.x)) (pos (y - area.y)) (record { x1 = omega (arith, ints); x2 = omega (arith, ints, k); y1 = omega (arith, ints); y2 = omega (arith, ints, k) }) in
    let column : area.x + (x - area.x) ≡ x = omega (arith, k) in
    let row : area.y + (y - area.y) ≡ y = omega (arith, k) in
    (shown, rw (shown, column, row) refl)

shows_marks : (p q r : Picture) (area : Area) (marks : List (Mark Item)) → Repaints p q area [] → KeepsOthers q r area
    → ((x y : ℤ) → holds (own_rect area) x y ≡ true → window_cell r area x y ≡ cell_after item_cell (items_drawn marks) x y (window_cell q area x y))
    → Repaints p r area marks
shows_marks p q r area marks b k f = record {
  others = others_through p q r area b.others k;
  cells = λ x y hx hy yes.
      let before = window_at q area x y yes in
      let after = window_at r area x y yes in
      sym after.1 ∙ (f (pos (x - area.x)) (pos (y - area.y)) before.0
      ∙ ap (λ (c : Painted). cell_after item_cell (items_drawn marks) (pos (x - area.x)) (pos (y - area.y)) c) (before.1 ∙ b.cells x y hx hy yes));
}

-- a window on an area that was made blank, before and after all marks were painted through it
pub repainted : (p q r : Picture) (first last : Window) (area : Area) (rect : Rect) (marks : List (Mark Item)) → Repaints p q area []
    → first.raster.now ≡ q → first.area ≡ area → rect ≡ own_rect area → last.raster.now ≡ r → Keeps first last
    → ((x y : ℤ) → holds (own_rect first.area) x y ≡ true → holds rect x y ≡ true
    → window_cell last.raster.now last.area x y ≡ cell_after item_cell (items_drawn marks) x y (window_cell first.raster.now first.area x y))
    → Repaints p r area marks
repainted p q r first last area rect marks b same_raster same_area same_rect is_last k f =
    let own : rect ≡ own_rect first.area = same_rect ∙ ap own_rect (sym same_area) in
    let blanked : Repaints p first.raster.now first.area [] =
    subst (λ (a : Area). Repaints p first.raster.now a []) (sym same_area) (subst (λ (t : Picture). Repaints p t area []) (sym same_raster) b) in
    let shown : Repaints p last.raster.now first.area marks =
    shows_marks p first.raster.now last.raster.now first.area marks blanked k.others
    (λ x y h. ap (λ (a : Area). window_cell last.raster.now a x y) (sym k.area) ∙ f x y h (subst (λ (o : Rect). holds o x y ≡ true) (sym own) h)) in
    subst (λ (t : Picture). Repaints p t area marks) is_last (subst (λ (a : Area). Repaints p last.raster.now a marks) same_area shown)
