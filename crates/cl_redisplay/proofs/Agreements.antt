-- A device that was sent the cells of a screen shows them.
use Rattle.std.proofs.Common.{◌≡◌, ℕ, ◌+◌, ◌-◌, ◌<◌, ◌≤◌, Bool, true, false, if◌then◌else◌, List, [], ◌∷◌, ◌++◌, length, slice_index, take, drop, Option, Some, None, refl, sym, ◌∙◌, ap, subst, arith}
use Rattle.std.proofs.lemmas.Bool.Decides.{nat_tests}
use Rattle.cl_medium.specs.Items.{Painted}
use Rattle.cl_outside.specs.Device as device
use Rattle.cl_outside.specs.Device.{Blanks, IsPainted, Paints, PaintsWhereCleared, in_span}
use Rattle.cl_outside.specs.Operations.{Op, shows}
use Rattle.cl_outside.specs.declared.answers.Sent.{Sent}
use Rattle.cl_outside.specs.declared.answers.Sent.TheVariants.{Done, Failed}
use Rattle.cl_raster.specs.Raster.{Picture, row_of}
use Rattle.cl_region.proofs.Corners.{wrong}
use Rattle.cl_redisplay.specs.Operations.{area_ops, cell_after_all, rows_ops, whole_area}
use Rattle.cl_redisplay.specs.Paint.{KeepsOthers, cell_at, covers}
use Rattle.cl_redisplay.specs.Screens.{Agree, Mirrors, device_cell}
use Rattle.cl_redisplay.specs.Sending.{AllSent, IsRunEnd, OpsSent, Plays, list_ops}
use Rattle.cl_redisplay.specs.declared.areas.Area.{Area}
use Rattle.cl_redisplay.proofs.Choices.{choice_is}
use Rattle.cl_redisplay.proofs.OperationLemmas.{area_after, cell_after_all-append, rows_ops-next}
use Rattle.cl_redisplay.proofs.Runs.{list_ops-first, list_ops-row}

-- ---- operations one behind the other

-- nothing was played yet
pub Plays-none : (a : Option device.Picture) (ops : List Op) → Plays a a ops ops
Plays-none None ops = tt
Plays-none (Some p) ops = record { width = refl; height = refl; cells = λ x y hx hy. refl }

-- the first of those that were left are played
pub Plays-more : (a b c : Option device.Picture) (all xs ys : List Op) → Plays a b all (xs ++ ys) → Plays b c xs [] → Plays a c all ys
Plays-more None None None all xs ys f g = tt
Plays-more None None (Some r) all xs ys f g = g
Plays-more None (Some q) c all xs ys f g = absurd f
Plays-more (Some p) None c all xs ys f g = absurd f
Plays-more (Some p) (Some q) None all xs ys f g = g
Plays-more (Some p) (Some q) (Some r) all xs ys f g = record {
  width = g.width ∙ f.width;
  height = g.height ∙ f.height;
  cells = λ x y hx hy.
      ap (cell_after_all ys x y) (g.cells x y (omega (arith, f.width, hx)) (omega (arith, f.height, hy)))
      ∙ (sym (cell_after_all-append xs ys x y (device_cell q x y)) ∙ f.cells x y hx hy);
}

abbrev cell_of : (glyph ink : ℕ) → Painted
cell_of glyph ink = record { glyph = glyph; ink = ink }

cell_pair : (b : Bool) (g i g1 i1 g2 i2 : ℕ) → g ≡ (if b then g1 else g2) → i ≡ (if b then i1 else i2)
    → cell_of g i ≡ (if b then cell_of g1 i1 else cell_of g2 i2)
cell_pair true g i g1 i1 g2 i2 e f = λ k. record { glyph = e k; ink = f k }
cell_pair false g i g1 i1 g2 i2 e f = λ k. record { glyph = e k; ink = f k }

-- a span that was shown
pub Plays-span : (a b : Option device.Picture) (x y ink : ℕ) (glyphs : List ℕ) → Paints a b x y ink glyphs → Plays a b (shows x y ink glyphs ∷ []) []
Plays-span None None x y ink glyphs h = tt
Plays-span None (Some q) x y ink glyphs h = h
Plays-span (Some p) None x y ink glyphs h = h
Plays-span (Some p) (Some q) x y ink glyphs h = record {
  width = h.width_is;
  height = h.height_is;
  cells = λ u v hu hv.
      cell_pair (in_span x y (length glyphs) u v) (q.glyph_at u v) (q.ink_at u v) (slice_index glyphs (u - x)) ink (p.glyph_at u v) (p.ink_at u v)
      (h.glyph_is u v hu hv) (h.ink_is u v hu hv);
}

-- ---- the steps of a row and of an area

-- the first run of a row was shown
pub row_step : (cleared : Bool) (a b c : Option device.Picture) (all : List Op) (glyphs inks : List ℕ) (y x end right : ℕ) → cleared ≡ true
    → right ≤ length glyphs → IsRunEnd inks x right end → Plays a b all (list_ops glyphs inks y x (right - x))
    → PaintsWhereCleared cleared b c x y (slice_index inks x) (take (end - x) (drop x glyphs))
    → Plays a c all (list_ops glyphs inks y end (right - end))
row_step cleared a b c all glyphs inks y x end right begun most run before shown =
    let first = list_ops-first glyphs inks y x end right most run in
    let op = shows x y (slice_index inks x) (take (end - x) (drop x glyphs)) in
    Plays-more a b c all (op ∷ []) (list_ops glyphs inks y end (right - end))
    (subst (λ (ops : List Op). Plays a b all ops) first before)
    (Plays-span b c x y (slice_index inks x) (take (end - x) (drop x glyphs))
    (subst (λ (t : Bool). PaintsWhereCleared t b c x y (slice_index inks x) (take (end - x) (drop x glyphs))) begun shown))

-- the first of some rows was shown
pub area_step : (p : Picture) (a b c : Option device.Picture) (all : List Op) (glyphs inks : List ℕ) (x width right y end : ℕ) → right ≡ x + width
    → right ≤ p.width → y < end → glyphs ≡ row_of p.glyphs p.width y → inks ≡ row_of p.inks p.width y
    → Plays a b all (rows_ops (cell_at p) x width y (end - y)) → Plays b c (list_ops glyphs inks y x (right - x)) []
    → Plays a c all (rows_ops (cell_at p) x width (y + 1) (end - (y + 1)))
area_step p a b c all glyphs inks x width right y end is_right most less is_glyphs is_inks before row =
    let count : right - x ≡ width = omega (arith, is_right) in
    let ops : list_ops glyphs inks y x (right - x) ≡ list_ops (row_of p.glyphs p.width y) (row_of p.inks p.width y) y x width = rw (is_glyphs, is_inks, count) refl in
    let shown = subst (λ (ops : List Op). Plays b c ops []) (ops ∙ list_ops-row p y x width (omega (arith, is_right, most))) row in
    Plays-more a b c all _ (rows_ops (cell_at p) x width (y + 1) (end - (y + 1)))
    (subst (λ (ops : List Op). Plays a b all ops) (rows_ops-next (cell_at p) x width y end less) before) shown

-- ---- screen and device

-- an area of the screen was painted anew, and sent
Mirrors-repainted : (p q : Picture) (area : Area) (a b : Option device.Picture) → KeepsOthers p q area → Mirrors p a
    → Plays a b (area_ops (cell_at q) area) [] → Mirrors q b
Mirrors-repainted p q area None None keeps same sent = tt
Mirrors-repainted p q area None (Some e) keeps same sent = absurd sent
Mirrors-repainted p q area (Some d) None keeps same sent = absurd sent
Mirrors-repainted p q area (Some d) (Some e) keeps same sent = record {
  width = sent.width ∙ (same.width ∙ sym keeps.size.width);
  height = sent.height ∙ (same.height ∙ sym keeps.size.height);
  cells = λ x y hx hy.
      let wide : x < p.width = omega (arith, keeps.size.width, hx) in
      let high : y < p.height = omega (arith, keeps.size.height, hy) in
      sent.cells x y (omega (arith, same.width, wide)) (omega (arith, same.height, high))
      ∙ (area_after (cell_at q) area x y (device_cell d x y)
      ∙ choice_is (covers area x y) (cell_at q x y) (device_cell d x y) (cell_at q x y) (λ here. refl)
      (λ apart. same.cells x y wide high ∙ sym (keeps.cells x y wide high apart)));
}

-- a screen that is not stale agrees with its device once the area was sent
pub sent_agrees : (stale : Bool) (p q : Picture) (area : Area) (a b : Option device.Picture) (broken cleared broken_now cleared_now : Bool) → stale ≡ false
    → KeepsOthers p q area → Agree stale p broken cleared a → Plays a b (area_ops (cell_at q) area) [] → broken_now ≡ false → cleared_now ≡ true
    → Agree stale q broken_now cleared_now b
sent_agrees true p q area a b broken cleared broken_now cleared_now fresh keeps before sent whole begun = absurd (wrong (sym fresh))
sent_agrees false p q area a b broken cleared broken_now cleared_now fresh keeps before sent whole begun =
    record { whole = whole; begun = begun; mirrors = Mirrors-repainted p q area a b keeps before.mirrors sent }

all_covered : (width height x y : ℕ) → x < width → y < height → covers (record { x = 0; y = 0; width = width; height = height }) x y ≡ true
all_covered width height x y h k = grind (arith, nat_tests)

-- a device that was cleared was sent the whole screen
Mirrors-redrawn : (p : Picture) (a b : Option device.Picture) → Blanks p.width p.height a → Plays a b (area_ops (cell_at p) (whole_area p.width p.height)) [] → Mirrors p b
Mirrors-redrawn p None None blank sent = tt
Mirrors-redrawn p None (Some e) blank sent = absurd sent
Mirrors-redrawn p (Some d) None blank sent = absurd sent
Mirrors-redrawn p (Some d) (Some e) blank sent = record {
  width = sent.width ∙ blank.width_is;
  height = sent.height ∙ blank.height_is;
  cells = λ x y hx hy.
      sent.cells x y (omega (arith, blank.width_is, hx)) (omega (arith, blank.height_is, hy))
      ∙ (area_after (cell_at p) (whole_area p.width p.height) x y (device_cell d x y)
      ∙ choice_is (covers (whole_area p.width p.height) x y) (cell_at p x y) (device_cell d x y) (cell_at p x y) (λ here. refl)
      (λ apart. absurd (wrong (sym apart ∙ all_covered p.width p.height x y hx hy))));
}

pub all_sent : (p : Picture) (width height : ℕ) (a b : Option device.Picture) (broken cleared : Bool) (sent : Sent) → width ≡ p.width → height ≡ p.height
    → Blanks width height a → cleared ≡ true → OpsSent a b (area_ops (cell_at p) (record { x = 0; y = 0; width = width; height = height })) broken sent
    → AllSent p broken cleared b sent
all_sent p width height a b broken cleared Done w h blank begun sent = record {
  whole = sent.1;
  begun = begun;
  mirrors = Mirrors-redrawn p a b (rw (w, h) at blank) (rw (w, h) at sent.0);
}
all_sent p width height a b broken cleared Failed w h blank begun sent = sent
