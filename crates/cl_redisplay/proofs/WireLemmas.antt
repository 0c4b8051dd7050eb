-- What was sent of the bytes of operations, and what playback of a wire shows.
use Rattle.std.proofs.Common.{◌≡◌, ℕ, ◌+◌, ◌-◌, ◌<◌, ◌≤◌, Bool, true, false, List, [], ◌∷◌, ◌++◌, length, slice_index, take, drop, Option, refl, sym, ◌∙◌, ap, subst, append_assoc, append-nil, arith}
use Rattle.std.proofs.KnownBytes.{Appends-trans}
use Rattle.std.proofs.lemmas.Bool.Decides.{nat_tests}
use Rattle.std.specs.Io.KnownBytes.{Appends}
use Rattle.cl_medium.specs.Items.{Item}
use Rattle.cl_outside.specs.Device as device
use Rattle.cl_outside.specs.Operations.{Op, clears, mended, op_bytes, ops_bytes, shows}
use Rattle.cl_outside.specs.Play.{play}
use Rattle.cl_outside.specs.Sending.{IsTied, Sends, is_done}
use Rattle.cl_outside.specs.Writing.{CutShort, Says, Wrote}
use Rattle.cl_outside.specs.declared.answers.Sent.{Sent}
use Rattle.cl_outside.proofs.WritingLemmas.{CutShort-behind, CutShort-more, Wrote-trans}
use Rattle.cl_raster.specs.Raster.{Picture, row_of}
use Rattle.cl_record.specs.Marks.{Mark}
use Rattle.cl_region.proofs.Corners.{wrong}
use Rattle.cl_redisplay.specs.Operations.{area_ops, pane_ops, redraw_ops, row_ops, rows_ops, whole_area}
use Rattle.cl_redisplay.specs.Paint.{LiesIn, Repaints, cell_at, covers, pane_cell}
use Rattle.cl_redisplay.specs.Screens.{Follows, HasCells, Mirrors}
use Rattle.cl_redisplay.specs.Sending.{IsRunEnd, list_ops}
use Rattle.cl_redisplay.specs.Wires.{PaintSends, SendsUnless, WireShows}
use Rattle.cl_redisplay.specs.declared.areas.Area.{Area}
use Rattle.cl_redisplay.specs.declared.screens.Painted as answer
use Rattle.cl_redisplay.proofs.OperationLemmas.{area_ops-same, rows_ops-next}
use Rattle.cl_redisplay.proofs.Runs.{list_ops-first, list_ops-row}

-- ---- the bytes of operations one behind the other

pub ops_bytes-append : (xs ys : List Op) → ops_bytes (xs ++ ys) ≡ ops_bytes xs ++ ops_bytes ys
ops_bytes-append [] ys = refl
ops_bytes-append (x ∷ xs) ys =
    ap (λ (bytes : List ℕ). op_bytes x ++ bytes) (ops_bytes-append xs ys) ∙ sym (append_assoc (op_bytes x) (ops_bytes xs) (ops_bytes ys))

pub mended-append : (broken : Bool) (xs ys : List ℕ) → mended broken (xs ++ ys) ≡ mended broken xs ++ ys
mended-append true xs ys = refl
mended-append false xs ys = refl

-- ---- the first of the bytes that were left

module _ (a b c : Option (List ℕ)) (all left xs ys : List ℕ) where
  -- they were sent
  pub Wrote-first : left ≡ xs ++ ys → Wrote a b all left → Appends b c xs → Wrote a c all ys
  Wrote-first first wrote sent = Wrote-trans a b c all left ys wrote (record { sent = xs; appended = sent; same = first })

  -- the device failed in them
  pub CutShort-first : (x y z : ℕ) → left ≡ xs ++ ys → Wrote a b all left → x ≤ y → CutShort b c xs y z → CutShort a c all x z
  CutShort-first x y z first wrote later cut =
      CutShort-behind a b c all left x y z wrote later
      (subst (λ (bytes : List ℕ). CutShort b c bytes y z) (sym first) (CutShort-more b c xs ys y z cut))

-- ---- the steps of a row and of an area

-- the bytes of a row begin with those of its first run
pub row_bytes : (glyphs inks : List ℕ) (y x end right : ℕ) → right ≤ length glyphs → IsRunEnd inks x right end
    → ops_bytes (list_ops glyphs inks y x (right - x))
    ≡ op_bytes (shows x y (slice_index inks x) (take (end - x) (drop x glyphs))) ++ ops_bytes (list_ops glyphs inks y end (right - end))
row_bytes glyphs inks y x end right most run = ap ops_bytes (list_ops-first glyphs inks y x end right most run)

-- the bytes of rows begin with those of the first one
pub area_bytes : (p : Picture) (glyphs inks : List ℕ) (x width right y end : ℕ) → right ≡ x + width → right ≤ p.width → y < end
    → glyphs ≡ row_of p.glyphs p.width y → inks ≡ row_of p.inks p.width y
    → ops_bytes (rows_ops (cell_at p) x width y (end - y))
    ≡ ops_bytes (list_ops glyphs inks y x (right - x)) ++ ops_bytes (rows_ops (cell_at p) x width (y + 1) (end - (y + 1)))
area_bytes p glyphs inks x width right y end is_right most less is_glyphs is_inks =
    let count : right - x ≡ width = omega (arith, is_right) in
    let ops : list_ops glyphs inks y x (right - x) ≡ row_ops (cell_at p) y x width =
    rw (is_glyphs, is_inks, count) (list_ops-row p y x width (omega (arith, is_right, most))) in
    let rest = rows_ops (cell_at p) x width (y + 1) (end - (y + 1)) in
    ap ops_bytes (rows_ops-next (cell_at p) x width y end less)
    ∙ (ops_bytes-append (row_ops (cell_at p) y x width) rest ∙ ap (λ (row : List Op). ops_bytes row ++ ops_bytes rest) (sym ops))

-- ---- the bytes of a paint

-- the clear and the rows of a redraw; it may be cut short in the rows
pub Says-mended : (done broken : Bool) (a b c : Option (List ℕ)) (first rest : List ℕ) (x y z : ℕ)
    → Appends a b (mended broken first) → x ≤ y → Says done b c rest y z → Says done a c (mended broken (first ++ rest)) x z
Says-mended true broken a b c first rest x y z cleared later sent =
    rw (mended-append broken first rest) (Appends-trans a b c (mended broken first) rest cleared sent)
Says-mended false broken a b c first rest x y z cleared later cut =
    rw (mended-append broken first rest)
    (CutShort-first a b c (mended broken first ++ rest) rest rest [] x y z (sym (append-nil rest))
    (record { sent = mended broken first; appended = cleared; same = refl }) later cut)

-- a redraw of a picture of this width and height
pub Sends-redraw : (p : Picture) (width height : ℕ) (sent : Sent) (broken : Bool) (a b c : Option (List ℕ)) (x y z : ℕ)
    → width ≡ p.width → height ≡ p.height
    → Appends a b (mended broken (op_bytes (clears width height))) → x ≤ y
    → Sends sent b c (ops_bytes (area_ops (cell_at p) (whole_area width height))) y z
    → Sends sent a c (mended broken (ops_bytes (redraw_ops (cell_at p) p.width p.height))) x z
Sends-redraw p width height sent broken a b c x y z w h cleared later rows =
    Says-mended (is_done sent) broken a b c (op_bytes (clears p.width p.height)) (ops_bytes (area_ops (cell_at p) (whole_area p.width p.height))) x y z
    (rw (w, h) at cleared) later (rw (w, h) at rows)

-- the device failed in the clear of a redraw
pub CutShort-redraw : (p : Picture) (width height : ℕ) (broken : Bool) (a b : Option (List ℕ)) (x y : ℕ)
    → width ≡ p.width → height ≡ p.height → CutShort a b (mended broken (op_bytes (clears width height))) x y
    → CutShort a b (mended broken (ops_bytes (redraw_ops (cell_at p) p.width p.height))) x y
CutShort-redraw p width height broken a b x y w h cut =
    let clear = op_bytes (clears p.width p.height) in
    let rest = ops_bytes (area_ops (cell_at p) (whole_area p.width p.height)) in
    subst (λ (bytes : List ℕ). CutShort a b bytes x y) (sym (mended-append broken clear rest))
    (CutShort-more a b (mended broken clear) rest x y (rw (w, h) at cut))

-- a place that an area covers is one of the picture it lies in
pub left_of : (area : Area) (p : Picture) (u v : ℕ) → LiesIn area p → covers area u v ≡ true → u < p.width
left_of area p u v lies here = let columns = lies.columns in grind (arith, nat_tests, here, columns)

pub above : (area : Area) (p : Picture) (u v : ℕ) → LiesIn area p → covers area u v ≡ true → v < p.height
above area p u v lies here = let rows = lies.rows in grind (arith, nat_tests, here, rows)

-- the operations of an area that was painted anew are those of its pane
pub repainted_ops : (old new : Picture) (area : Area) (marks : List (Mark Item)) → LiesIn area old → Repaints old new area marks
    → area_ops (cell_at new) area ≡ pane_ops area marks
repainted_ops old new area marks lies paints =
    area_ops-same (cell_at new) (pane_cell area marks) area
    (λ u v here. paints.cells u v (left_of area old u v lies here) (above area old u v lies here) here)

-- what was sent of an area that was painted anew is what is sent of its pane
pub SendsUnless-repainted : (stale : Bool) (painted : answer.Painted) (a b : Option (List ℕ)) (old new : Picture) (area : Area)
    (marks : List (Mark Item)) (x y : ℕ) → stale ≡ false → LiesIn area old → Repaints old new area marks
    → PaintSends painted a b (ops_bytes (area_ops (cell_at new) area)) x y
    → SendsUnless stale painted a b (ops_bytes (pane_ops area marks)) x y
SendsUnless-repainted true painted a b old new area marks x y fresh lies paints sent = absurd (wrong (sym fresh))
SendsUnless-repainted false painted a b old new area marks x y fresh lies paints sent =
    subst (λ (ops : List Op). PaintSends painted a b (ops_bytes ops) x y) (repainted_ops old new area marks lies paints) sent

-- ---- playback

-- a device that shows the cells of a screen sent bytes that show them
pub wire_shows : (p : Picture) (told broken cleared : Bool) (wire : Option (List ℕ)) (shown : Option device.Picture)
    → Follows p broken cleared shown → IsTied told wire broken shown → WireShows told wire p.width p.height (cell_at p)
wire_shows p told broken cleared wire shown follows tied is_told bytes is_wire =
    let same : HasCells p (play bytes) =
    subst (λ (shown : Option device.Picture). Mirrors p shown) (tied is_told follows.whole bytes is_wire) follows.mirrors in
    record { width_is = same.width; height_is = same.height; cells = same.cells }
