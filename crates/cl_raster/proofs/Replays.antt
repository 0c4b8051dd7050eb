-- What a raster shows behind each operation of a wire.
use Rattle.std.proofs.Common.{◌≡◌, ◌≢◌, ◌⊎◌, ℕ, ◌+◌, ◌-◌, ◌*◌, ◌<◌, ◌≤◌, if◌then◌else◌, true, false, Option, None, Some, Result, Ok, Err, List, [], ◌∷◌, length, take, slice_index, refl, sym, ◌∙◌, ap, subst, arith, All, ⊎_elim, min}
use Rattle.std.proofs.lemmas.Bool.{cases_Bool}
use Rattle.std.proofs.lemmas.Bool.Decides.{nat_tests}
use Rattle.std.proofs.lemmas.List.{get_or-replicate, get_or-take, length-take}
use Rattle.std.specs.Result.{IfOk}
use Rattle.cl_outside.specs.Device as device
use Rattle.cl_outside.specs.Operations.{Op, clears, shows}
use Rattle.cl_outside.specs.Play as wire
use Rattle.cl_raster.specs.Playback.{Acts, HasCellsOf, IsCut, IsShown, IsSize, ShowsNothing, cells_of}
use Rattle.cl_raster.specs.Raster.{Picture, blank_picture}
use Rattle.cl_raster.proofs.Places.{inside}
use Rattle.cl_raster.proofs.Progress.{IsPlayed}
use Rattle.cl_raster.proofs.Readings.{all_not, no_clears}
use Rattle.cl_raster.proofs.Spelling.{played-append, played-no_feed}

-- ---- glyphs that are painted

-- glyphs that are cut where a row ends paint as all of them do
same_span : (x y count more u v width : ℕ) → u < width → count ≡ min more (width - x) → x < width
    → device.in_span x y count u v ≡ device.in_span x y more u v
same_span x y count more u v width less e in_row =
    ⊎_elim
    (λ (within : device.in_span x y more u v ≡ true).
    let few : device.in_span x y count u v ≡ true = grind (arith, nat_tests, within, less, e, in_row) in few ∙ sym within)
    (λ (away : device.in_span x y more u v ≡ false).
    let few : device.in_span x y count u v ≡ false = grind (arith, nat_tests, away, less, e, in_row) in few ∙ sym away)
    (cases_Bool (device.in_span x y more u v))

same_glyph : (x y count u v : ℕ) (glyphs : List ℕ) (old : ℕ)
    → (if device.in_span x y count u v then slice_index (take count glyphs) (u - x) else old)
    ≡ (if device.in_span x y count u v then slice_index glyphs (u - x) else old)
same_glyph x y count u v glyphs old =
    ⊎_elim
    (λ (within : device.in_span x y count u v ≡ true).
    let place : u - x < count = grind (arith, nat_tests, within) in
    rw within (get_or-take count glyphs (u - x) 0 place))
    (λ (away : device.in_span x y count u v ≡ false). rw away refl)
    (cases_Bool (device.in_span x y count u v))

outside_span : (x y count u v width height : ℕ) → u < width → v < height → IsSize width height → (512 ≤ x) ⊎ (256 ≤ y)
    → device.in_span x y count u v ≡ false
outside_span x y count u v width height less_u less_v size out =
    ⊎_elim
    (λ (within : device.in_span x y count u v ≡ true).
    let left : x ≤ u = grind (arith, nat_tests, within) in
    let row : v ≡ y = grind (arith, nat_tests, within) in
    absurd (omega (arith, left, row, less_u, less_v, size, out)))
    (λ (away : device.in_span x y count u v ≡ false). away)
    (cases_Bool (device.in_span x y count u v))

pub paints_cut : (old new : device.Picture) (x y ink : ℕ) (glyphs : List ℕ) (count : ℕ) → x < old.width → count ≡ min (length glyphs) (old.width - x)
    → device.IsPainted old new x y ink (take count glyphs) → device.IsPainted old new x y ink glyphs
paints_cut old new x y ink glyphs count in_row e p =
    let long : length (take count glyphs) ≡ count = omega (arith, length-take count glyphs, e) in
    record {
      width_is = p.width_is;
      height_is = p.height_is;
      glyph_is = λ u v less_u less_v.
          let same = same_span x y count (length glyphs) u v old.width less_u e in_row in
          let first = rw long at (p.glyph_is u v less_u less_v) in
          first ∙ same_glyph x y count u v glyphs (old.glyph_at u v) ∙ ap (λ b. if b then slice_index glyphs (u - x) else old.glyph_at u v) same;
      ink_is = λ u v less_u less_v.
          let same = same_span x y count (length glyphs) u v old.width less_u e in_row in
          let first = rw long at (p.ink_is u v less_u less_v) in
          first ∙ ap (λ b. if b then ink else old.ink_at u v) same;
    }

-- ---- what is shown

blank_has : (w h : ℕ) → HasCellsOf (blank_picture w h) (wire.blank_picture w h)
blank_has w h = record {
  width = refl;
  height = refl;
  glyphs = λ x y less_x less_y. get_or-replicate (w * h) (y * w + x) 32 0 (inside w h x y less_x less_y);
  inks = λ x y less_x less_y. get_or-replicate (w * h) (y * w + x) 0 0 (inside w h x y less_x less_y);
}

pub acts_clear : (old : Option Picture) (r : Picture) (o : Option Op) (w h : ℕ) → o ≡ Some (clears w h) → IsSize w h → r ≡ blank_picture w h → Acts old (Some r) o
acts_clear old r o w h e size is = λ shown before. rw (e, is) (blank_has w h, size)

painted_has : (r s : Picture) (p : device.Picture) (x y ink : ℕ) (glyphs : List ℕ) → HasCellsOf r p → device.IsPainted (cells_of r) (cells_of s) x y ink glyphs
    → HasCellsOf s (wire.painted p x y ink glyphs)
painted_has r s p x y ink glyphs h i = record {
  width = i.width_is ∙ h.width;
  height = i.height_is ∙ h.height;
  glyphs = λ u v less_u less_v.
      i.glyph_is u v (omega (arith, less_u, h.width)) (omega (arith, less_v, h.height))
      ∙ ap (λ n. if device.in_span x y (length glyphs) u v then slice_index glyphs (u - x) else n) (h.glyphs u v less_u less_v);
  inks = λ u v less_u less_v.
      i.ink_is u v (omega (arith, less_u, h.width)) (omega (arith, less_v, h.height))
      ∙ ap (λ n. if device.in_span x y (length glyphs) u v then ink else n) (h.inks u v less_u less_v);
}

acts_span-shown : (r s : Picture) (x y ink : ℕ) (glyphs : List ℕ) → device.IsPainted (cells_of r) (cells_of s) x y ink glyphs
    → Acts (Some r) (Some s) (Some (shows x y ink glyphs))
acts_span-shown r s x y ink glyphs i None h = absurd h
acts_span-shown r s x y ink glyphs i (Some p) h = (painted_has r s p x y ink glyphs h.0 i, h.1)

pub acts_span : (r s : Picture) (o : Option Op) (x y ink : ℕ) (glyphs : List ℕ) → o ≡ Some (shows x y ink glyphs)
    → device.IsPainted (cells_of r) (cells_of s) x y ink glyphs → Acts (Some r) (Some s) o
acts_span r s o x y ink glyphs e i = rw e (acts_span-shown r s x y ink glyphs i)

-- a span that lies outside paints nothing
outside_has : (r : Picture) (p : device.Picture) (x y ink : ℕ) (glyphs : List ℕ) → HasCellsOf r p → IsSize p.width p.height → (512 ≤ x) ⊎ (256 ≤ y)
    → HasCellsOf r (wire.painted p x y ink glyphs)
outside_has r p x y ink glyphs h size out = record {
  width = h.width;
  height = h.height;
  glyphs = λ u v less_u less_v. rw (outside_span x y (length glyphs) u v p.width p.height less_u less_v size out) (h.glyphs u v less_u less_v);
  inks = λ u v less_u less_v. rw (outside_span x y (length glyphs) u v p.width p.height less_u less_v size out) (h.inks u v less_u less_v);
}

acts_nothing-in : (old : Option Picture) (o : Option Op) → ShowsNothing o → (shown : Option device.Picture) → IsShown old shown → IsShown old (wire.acted shown o)
acts_nothing-in old None n shown h = h
acts_nothing-in old (Some (clears w k)) n shown h = absurd n
acts_nothing-in old (Some (shows x y ink glyphs)) n None h = h
acts_nothing-in None (Some (shows x y ink glyphs)) n (Some p) h = absurd h
acts_nothing-in (Some r) (Some (shows x y ink glyphs)) n (Some p) h = (outside_has r p x y ink glyphs h.0 h.1 n, h.1)

pub acts_nothing : (old : Option Picture) (o : Option Op) → ShowsNothing o → Acts old old o
acts_nothing old o n = λ shown h. acts_nothing-in old o n shown h

pub acts_other : (old : Option Picture) (o : Option Op) → o ≡ None → Acts old old o
acts_other old o e = rw e (λ shown h. h)

-- before the first `C`
acts_before-in : (o : Option Op) → ((w h : ℕ) → o ≡ Some (clears w h) → ⊥) → (shown : Option device.Picture) → IsShown None shown → IsShown None (wire.acted shown o)
acts_before-in None n shown h = h
acts_before-in (Some (clears w k)) n shown h = absurd (n w k refl)
acts_before-in (Some (shows x y ink glyphs)) n None h = h
acts_before-in (Some (shows x y ink glyphs)) n (Some p) h = absurd h

pub acts_before : (text : List ℕ) → Acts None None (wire.op_of (83 ∷ 32 ∷ text))
acts_before text = λ shown h. acts_before-in (wire.op_of (83 ∷ 32 ∷ text)) (no_clears text) shown h

-- ---- bytes that were played

pub played_none : (bytes : List ℕ) → IsPlayed None bytes bytes
played_none bytes = record { before = None; is_shown = tt; same = refl }

-- one line more
pub played_line : (old new : Option Picture) (bytes rest line behind : List ℕ) → IsPlayed old bytes rest → IsCut 10 rest line behind
    → Acts old new (wire.op_of line) → IsPlayed new bytes behind
played_line old new bytes rest line behind p c acts =
    let start : wire.Playing = record { shown = p.before; line = [] } in
    let step : wire.played start rest ≡ wire.played (record { shown = wire.acted p.before (wire.op_of line); line = [] }) behind =
    ap (wire.played start) c.same
    ∙ (played-append start line (10 ∷ behind)
    ∙ ap (λ (s : wire.Playing). wire.played s (10 ∷ behind)) (played-no_feed start line (all_not 10 line c.first))) in
    record {
      before = wire.acted p.before (wire.op_of line);
      is_shown = acts p.before p.is_shown;
      same = ap (λ (s : wire.Playing). s.shown) (sym step) ∙ p.same;
    }

-- no line is left
played_all : (shown : Option Picture) (bytes rest : List ℕ) (p : IsPlayed shown bytes rest) → All (λ b. b ≢ 10) rest
    → wire.play bytes ≡ wire.shown_picture p.before
played_all shown bytes rest p none =
    let start : wire.Playing = record { shown = p.before; line = [] } in
    let end : (wire.played start rest).shown ≡ p.before = ap (λ (s : wire.Playing). s.shown) (played-no_feed start rest (all_not 10 rest none)) in
    ap wire.shown_picture (sym p.same ∙ end)

shown_has : (r : Picture) (before : Option device.Picture) → IsShown (Some r) before → HasCellsOf r (wire.shown_picture before)
shown_has r None h = absurd h
shown_has r (Some p) h = h.0

pub played_shown : (r : Picture) (bytes rest : List ℕ) → IsPlayed (Some r) bytes rest → All (λ b. b ≢ 10) rest → HasCellsOf r (wire.play bytes)
played_shown r bytes rest p none =
    subst (λ (q : device.Picture). HasCellsOf r q) (sym (played_all (Some r) bytes rest p none)) (shown_has r p.before p.is_shown)

nothing_has : (before : Option device.Picture) → IsShown None before → HasCellsOf (blank_picture 1 1) (wire.shown_picture before)
nothing_has None h = blank_has 1 1
nothing_has (Some p) h = absurd h

played_blank : (r : Picture) (bytes rest : List ℕ) → IsPlayed None bytes rest → All (λ b. b ≢ 10) rest → r ≡ blank_picture 1 1
    → HasCellsOf r (wire.play bytes)
played_blank r bytes rest p none is =
    rw is (subst (λ (q : device.Picture). HasCellsOf (blank_picture 1 1) q) (sym (played_all None bytes rest p none)) (nothing_has p.before p.is_shown))

pub played_nothing : {E : Type 0} (made : Result Picture E) (bytes rest : List ℕ) → IsPlayed None bytes rest → All (λ b. b ≢ 10) rest
    → IfOk made (λ r. r ≡ blank_picture 1 1) → IfOk made (λ r. HasCellsOf r (wire.play bytes))
played_nothing (Ok r) bytes rest p none is = played_blank r bytes rest p none is
played_nothing (Err e) bytes rest p none is = tt
