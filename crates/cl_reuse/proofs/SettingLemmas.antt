-- What forms set for their bodies elsewhere, and how the bodies are left: margins, inks, rooms and presentations.
use Rattle.std.proofs.Common.{◌≡◌, ◌∙◌, ap, sym, refl, ℕ, ◌+◌, ◌≤◌, ℤ, pos, ◌+ℤ◌, Bool, true, false, ◌||◌, nat_le, if◌then◌else◌, Result, Ok, Err, arith}
use Rattle.std.specs.Int.{int_max}
use Rattle.std.specs.Prelude.{negsuc}
use Rattle.std.specs.Option.{unwrap_or}
use Rattle.std.proofs.lemmas.Bool.Decides.{nat_tests}
use Rattle.std.proofs.lemmas.Int.{ints}
use Rattle.cl_value.specs.Data.{Data, int}
use Rattle.cl_region.specs.Places.{box, move_rect}
use Rattle.cl_medium.specs.Ambients.{AmbientAt, after_indent}
use Rattle.cl_record.specs.Labels.{LabelAt}
use Rattle.cl_record.proofs.Boxes.{box-move}
use Rattle.cl_display.specs.Drawings.{DrawingAt, PartAt, cursor_box, is_near, join_parts, start}
use Rattle.cl_display.specs.Presentations.{enter_presentation, label_weight, leave_after, leave_presentation, present_text, presented_part}
use Rattle.cl_display.specs.Presentations.{write_inside, write_value}
use Rattle.cl_display.specs.Settings.{behind_room, enter_room, indent, leave_room, margin_box, restore_ink, restore_margin, room_part, set_ink}
use Rattle.cl_display.specs.Settings.{with_ink, with_margin}
use Rattle.cl_display.proofs.CornerLemmas.{box-first, box-second, holds-then}
use Rattle.cl_reuse.specs.Motions.{Motion, move_ambient, move_drawing, move_end, move_part}
use Rattle.cl_reuse.proofs.MotionLemmas.{Fits, cursor-move, join-move, lowest-move, max-move, near-test, presented-move, range-within, sides-within, swapped}
use Rattle.cl_reuse.proofs.StepLemmas.{Grows, StepsTo, steps-write_value}

pub or-first : (a b : Bool) → a ≡ true → a || b ≡ true
or-first a b e = rw e refl

pub or-second : (a b : Bool) → b ≡ true → a || b ≡ true
or-second true b e = refl
or-second false b e = e

-- a body that is drawn from u, and left: nothing falls from s on; where what is left fits, what was drawn inside does; and what is left elsewhere
-- is the same there
pub record Leaves (m inner : Motion) (most : ℕ) (s u : DrawingAt) (leave leave' : DrawingAt → DrawingAt) : Type 0 where
  pub grows : (t : DrawingAt) → Grows u t → Grows s (leave t)
  pub fits : (t : DrawingAt) → Grows u t → Fits m most (leave t) → Fits inner most t
  pub moves : (t : DrawingAt) → Grows u t → Fits m most (leave t) → leave' (move_drawing inner t) ≡ move_drawing m (leave t)

-- what is set for a body, and how it is left
abbrev pub EntersTo : (m inner : Motion) (most : ℕ) → DrawingAt → Result DrawingAt ℕ → Result DrawingAt ℕ → (leave leave' : DrawingAt → DrawingAt) → Type 0
EntersTo m inner most s (Ok u) r leave leave' =
    Leaves m inner most s u leave leave' × ((t : DrawingAt) → Grows u t → Fits m most (leave t) → r ≡ Ok (move_drawing inner u))
EntersTo m inner most s (Err k) r leave leave' = Unit {0}

module _ (m : Motion) (most : ℕ) where
  -- ---- margins

  abbrev indented : DrawingAt → ℤ → DrawingAt
  indented s n = record s { ambient = after_indent s.ambient n; part = with_margin (after_indent s.ambient n) s.part }

  indented-move : (s : DrawingAt) (n : ℤ) → m.margin ≡ m.by.dx → indented (move_drawing m s) n ≡ move_drawing m (indented s n)
  indented-move s n e =
      let a = s.ambient in
      let margins = swapped a.margin m.margin n in
      let places : (a.margin +ℤ m.margin) +ℤ n ≡ (a.margin +ℤ n) +ℤ m.by.dx = omega (arith, ints, e) in
      let boxes : box (move_rect m.by s.part.extent) (margin_box (after_indent (move_ambient m a) n)) ≡ move_rect m.by
      (box s.part.extent (margin_box (after_indent a n))) =
      (λ i. box (move_rect m.by s.part.extent) (record { x1 = places i; y1 = a.y +ℤ m.by.dy; x2 = places i; y2 = a.y +ℤ m.by.dy }))
      ∙ sym (box-move m.by s.part.extent (margin_box (after_indent a n))) in
      λ i. record (move_drawing m s) {
        ambient = record (move_ambient m a) { margin = margins i };
        part = record (move_part m.by s.part) { extent = boxes i; margin_used = true };
      }

  enters-indented : (s : DrawingAt) (n : ℤ) (b : Bool)
      → EntersTo m m most s (if b then Ok (indented s n) else Err 9) (indent (int n) (move_drawing m s)) (restore_margin s.ambient)
      (restore_margin (move_ambient m s.ambient))
  enters-indented s n true =
      let u = indented s n in
      let a = s.ambient in
      let set = margin_box (after_indent a n) in (
        record {
          grows = λ t g. record {
            weight = g.weight;
            margin = λ h. g.margin refl;
            origin = g.origin;
            extent = holds-then t.part.extent u.part.extent s.part.extent g.extent (box-first s.part.extent set);
          };
          fits = λ t g f. record { weight = f.weight; margin = f.margin; origin = f.origin; range = f.range };
          moves = λ t g f. refl;
        },
        λ t g f.
            let e : m.margin ≡ m.by.dx = f.margin (g.margin refl) in
            let inside = holds-then t.part.extent u.part.extent set g.extent (box-second s.part.extent set) in
            let moved = range-within m.by t.part.extent set (record { across = omega (arith, ints); down = omega (arith, ints) }) inside f.range in
            let place : (a.margin +ℤ m.margin) +ℤ n ≡ (a.margin +ℤ n) +ℤ m.by.dx = omega (arith, ints, e) in
            let near : is_near ((a.margin +ℤ m.margin) +ℤ n) ≡ true = ap (λ (z : ℤ). is_near z) place ∙ near-test ((a.margin +ℤ n) +ℤ m.by.dx) moved.x1 in
            rw near (ap (λ (x : DrawingAt). Ok x) (indented-move s n e)),
      )
  enters-indented s n false = tt

  pub enters-indent : (s : DrawingAt) (d : Data)
      → EntersTo m m most s (indent d s) (indent d (move_drawing m s)) (restore_margin s.ambient) (restore_margin (move_ambient m s.ambient))
  enters-indent s (int n) = enters-indented s n (is_near (s.ambient.margin +ℤ n))
  enters-indent s d = tt

  -- ---- inks

  enters-inked : (s : DrawingAt) (n : ℕ) (b : Bool)
      → EntersTo m m most s (if b then Ok (with_ink n s) else Err 9) (if b then Ok (with_ink n (move_drawing m s)) else Err 9)
      (restore_ink s.ambient) (restore_ink (move_ambient m s.ambient))
  enters-inked s n true = (
    record {
      grows = λ t g. record { weight = g.weight; margin = g.margin; origin = g.origin; extent = g.extent };
      fits = λ t g f. record { weight = f.weight; margin = f.margin; origin = f.origin; range = f.range };
      moves = λ t g f. refl;
    },
    λ t g f. refl,
  )
  enters-inked s n false = tt

  pub enters-ink : (s : DrawingAt) (d : Data)
      → EntersTo m m most s (set_ink d s) (set_ink d (move_drawing m s)) (restore_ink s.ambient) (restore_ink (move_ambient m s.ambient))
  enters-ink s (int (pos n)) = enters-inked s n (nat_le n 7)
  enters-ink s (int (negsuc n)) = tt
  enters-ink s d = tt

  -- ---- rooms

  -- in a room the origin moves as the cursor does
  abbrev pub in_the_room : Motion
  in_the_room = record m { origin = m.by }

  behind-move : (before : AmbientAt) (t : DrawingAt) → m.margin ≡ m.by.dx
      → behind_room (move_ambient m before) (move_drawing in_the_room t) ≡ move_ambient m (behind_room before t)
  behind-move before t e =
      let bottom = unwrap_or t.part.lowest before.y in
      let down : int_max (unwrap_or (move_end m.by t.part.lowest) (before.y +ℤ m.by.dy)) (before.y +ℤ m.by.dy) ≡ int_max bottom before.y +ℤ m.by.dy =
      ap (λ (z : ℤ). int_max z (before.y +ℤ m.by.dy)) (lowest-move m.by t.part.lowest before.y) ∙ max-move bottom before.y m.by.dy in
      λ i. record (move_ambient m (behind_room before t)) { x = t.ambient.margin +ℤ e i; y = down i }

  room-move : (a a' : AmbientAt) (p : PartAt) → a' ≡ move_ambient m a → room_part a' (move_part m.by p) ≡ move_part m.by (room_part a p)
  room-move a a' p e =
      ap (λ (b : AmbientAt). room_part b (move_part m.by p)) e
      ∙ (λ i. record (cursor-move m.by a (move_ambient m a) p refl i) { margin_used = true; origin_used = false })

  left-move : (outer : PartAt) (before : AmbientAt) (t : DrawingAt) → m.margin ≡ m.by.dx
      → leave_room (move_ambient m before) (move_part m.by outer) (move_drawing in_the_room t) ≡ move_drawing m (leave_room before outer t)
  left-move outer before t e =
      let a = behind_room before t in
      let behind = behind-move before t e in
      let parts : join_parts (move_part m.by outer) (room_part (behind_room (move_ambient m before) (move_drawing in_the_room t)) (move_part m.by t.part))
      ≡ move_part m.by (join_parts outer (room_part a t.part)) =
      ap (λ (p : PartAt). join_parts (move_part m.by outer) p) (room-move a (behind_room (move_ambient m before) (move_drawing in_the_room t)) t.part behind)
      ∙ join-move m.by outer (room_part a t.part) in
      λ i. record { ambient = behind i; weight = t.weight; siblings = t.siblings; part = parts i }

  pub leaves-room : (s : DrawingAt)
      → Leaves m in_the_room most s (enter_room s) (leave_room s.ambient s.part) (leave_room (move_ambient m s.ambient) (move_part m.by s.part))
  leaves-room s = record {
    grows = λ t g. record {
      weight = g.weight;
      margin = λ h. refl;
      origin = λ h. h;
      extent = box-first s.part.extent (room_part (behind_room s.ambient t) t.part).extent;
    };
    fits = λ t g f.
        let behind = behind_room s.ambient t in
        let room = room_part behind t.part in
        let inside = holds-then (box s.part.extent room.extent) room.extent t.part.extent (box-second s.part.extent room.extent)
        (box-first t.part.extent (cursor_box behind)) in
        record {
          weight = f.weight;
          margin = λ h. f.margin refl;
          origin = λ h. refl;
          range = sides-within m.by (box s.part.extent room.extent) t.part.extent inside f.range;
        };
    moves = λ t g f. left-move s.part s.ambient t (f.margin refl);
  }

  -- ---- presentations

  -- the opening, at the cursor
  abbrev opened : DrawingAt → ℕ → DrawingAt
  opened s weight = start (record s { weight = s.weight + weight })

  leaves-presented : (s : DrawingAt) (weight : ℕ) (label : LabelAt)
      → Leaves m m most s (opened s weight) (leave_presentation label s.part) (leave_presentation label (move_part m.by s.part))
  leaves-presented s weight label = record {
    grows = λ t g. record {
      weight = omega (arith, g.weight);
      margin = λ h. or-second t.part.margin_used s.part.margin_used h;
      origin = λ h. or-second t.part.origin_used s.part.origin_used h;
      extent = box-first s.part.extent t.part.extent;
    };
    fits = λ t g f. record {
      weight = f.weight;
      margin = λ h. f.margin (or-first t.part.margin_used s.part.margin_used h);
      origin = λ h. f.origin (or-first t.part.origin_used s.part.origin_used h);
      range =
          sides-within m.by (box s.part.extent t.part.extent) t.part.extent (box-second s.part.extent t.part.extent) f.range;
    };
    moves = λ t g f.
        let parts : join_parts (move_part m.by s.part) (presented_part label (move_part m.by t.part)) ≡ move_part m.by
        (join_parts s.part (presented_part label t.part)) =
        ap (λ (p : PartAt). join_parts (move_part m.by s.part) p) (presented-move m.by label t.part) ∙ join-move m.by s.part (presented_part label t.part) in
        λ i. record { ambient = move_ambient m t.ambient; weight = t.weight; siblings = t.siblings; part = parts i };
  }

  presented-there : (d : Data) (s t : DrawingAt) → Grows (opened s (label_weight d)) t → t.weight ≤ most
      → enter_presentation most d (move_drawing m s) ≡ Ok (move_drawing m (opened s (label_weight d)))
  presented-there d s t g light =
      let fits : nat_le (s.weight + label_weight d) most ≡ true = grind (arith, nat_tests, light, g.weight) in
      rw fits refl

  enters-presented : (s : DrawingAt) (d : Data) (label : LabelAt) (b : Bool)
      → EntersTo m m most s (if b then Ok (opened s (label_weight d)) else Err 10) (enter_presentation most d (move_drawing m s))
      (leave_presentation label s.part) (leave_presentation label (move_part m.by s.part))
  enters-presented s d label true = (leaves-presented s (label_weight d) label, λ t g f. presented-there d s t g f.weight)
  enters-presented s d label false = tt

  pub enters-presentation : (w : ℕ) (s : DrawingAt) (d : Data) (label : LabelAt)
      → EntersTo m m most s (enter_presentation w d s) (enter_presentation most d (move_drawing m s))
      (leave_presentation label s.part) (leave_presentation label (move_part m.by s.part))
  enters-presentation w s d label = enters-presented s d label (nat_le (s.weight + label_weight d) w)

  steps-inside : (label : LabelAt) (s : DrawingAt) (x : Data) (r : Result DrawingAt ℕ)
      → StepsTo m most (opened s (label_weight label.object)) r (write_value most (move_drawing m (opened s (label_weight label.object))) x)
      → StepsTo m most s (leave_after label s.part r) (present_text most label (move_drawing m s) x)
  steps-inside label s x (Ok t) g =
      let leaves = leaves-presented s (label_weight label.object) label in (
        leaves.grows t g.0,
        λ f.
            ap (λ (r : Result DrawingAt ℕ). leave_after label (move_part m.by s.part) (write_inside most x r)) (presented-there label.object s t g.0 f.weight)
            ∙ ap (λ (r : Result DrawingAt ℕ). leave_after label (move_part m.by s.part) r) (g.1 (leaves.fits t g.0 f))
            ∙ ap (λ (u : DrawingAt). Ok u) (leaves.moves t g.0 f),
      )
  steps-inside label s x (Err k) g = tt

  steps-text_in : (w : ℕ) (label : LabelAt) (s : DrawingAt) (x : Data) (b : Bool)
      → StepsTo m most s (leave_after label s.part (write_inside w x (if b then Ok (opened s (label_weight label.object)) else Err 10)))
      (present_text most label (move_drawing m s) x)
  steps-text_in w label s x true =
      let u = opened s (label_weight label.object) in
      steps-inside label s x (write_value w u x) (steps-write_value m most w u x)
  steps-text_in w label s x false = tt

  pub steps-present_text : (w : ℕ) (label : LabelAt) (s : DrawingAt) (x : Data) → StepsTo m most s (present_text w label s x)
      (present_text most label (move_drawing m s) x)
  steps-present_text w label s x = steps-text_in w label s x (nat_le (s.weight + label_weight label.object) w)
