-- What forms draw: items behind those that were there, and their weight.
use Rattle.std.proofs.Common.{◌≡◌, ℕ, ◌+◌, ◌≤◌, pos, ◌+ℤ◌, Bool, true, false, if◌then◌else◌, nat_le, List}
use Rattle.std.proofs.Common.{[]}
use Rattle.std.proofs.Common.{◌∷◌, ◌++◌, length, Option, Some, None, Result, Ok, Err, arith, refl}
use Rattle.std.proofs.lemmas.Bool.Decides.{nat_tests}
use Rattle.std.specs.Prelude.{negsuc, int_le, int_lt, ◌||◌}
use Rattle.cl_value.specs.Data.{Data, int, text}
use Rattle.cl_eval.specs.Outcome.{Outcome, Gives, Traps, Run, give, lift, after}
use Rattle.cl_medium.specs.Drawing.{text_leaf}
use Rattle.cl_medium.specs.Ambients.{AmbientAt, after_indent, after_newline}
use Rattle.cl_medium.specs.Items.{bounds_of, item_bounds, Item}
use Rattle.cl_medium.specs.declared.areas.Area.{Area}
use Rattle.cl_region.specs.Places.{box}
use Rattle.cl_record.specs.Marks.{Mark, draw}
use Rattle.cl_eval.specs.Statements.{Member}
use Rattle.cl_display.specs.Drawings.{DrawingAt, add_item, after_text, cursor_box, cursor_to}
use Rattle.cl_display.specs.Drawings.{is_in_range, is_near}
use Rattle.cl_display.specs.Drawings.{newline, then_to, with_cursor, with_item, with_margin_used}
use Rattle.cl_display.specs.Drawings.{write_text}
use Rattle.cl_display.specs.Figures.{area_at, draw_parts, draw_shape, leaf_in, with_origin_used}
use Rattle.cl_display.specs.declared.figures.FigureItem.{FigureItem}
use Rattle.cl_display.specs.declared.figures.FigureItem.TheVariants as item
use Rattle.cl_display.specs.declared.figures.FigureParts.{FigureParts}
use Rattle.cl_display.specs.Settings.{indent, margin_box}
use Rattle.cl_display.specs.Settings.{set_ink, with_ink, with_margin}
use Rattle.cl_display.specs.Outcomes.{Draw, opens_none, run_of, ◌>->◌, ◌>>=◌}
use Rattle.cl_display.specs.Presentations.{write_value}
use Rattle.std.proofs.lemmas.Int.{ints}
use Rattle.cl_display.proofs.CornerLemmas.{IsUpright, box-first, box-second, corners-of, holds-itself, holds-then}
use Rattle.cl_display.specs.Sums.{AreMembers, Holds, item_weight, weight_of}
use Rattle.cl_display.proofs.PartLemmas.{PartAdds, members-behind, part-none, part-then, weight_of-behind}

-- what was drawn between two states, where all may weigh so much, and these are the members of types
pub record Adds (most : ℕ) (holds : Member) (s t : DrawingAt) : Type 0 where
  pub marks : List (Mark Item)
  pub part : PartAdds s.part t.part marks
  pub weight : t.weight ≡ s.weight + weight_of marks
  pub members : AreMembers holds marks
  pub light : s.weight ≤ most → t.weight ≤ most
  pub cursor : Holds s.part.extent (cursor_box s.ambient) → Holds t.part.extent (cursor_box t.ambient)

module _ (most : ℕ) (holds : Member) where
  -- ---- steps

  adds-none : (s t : DrawingAt) → PartAdds s.part t.part [] → t.weight ≡ s.weight
      → (Holds s.part.extent (cursor_box s.ambient) → Holds t.part.extent (cursor_box t.ambient)) → Adds most holds s t
  adds-none s t p w c = record { marks = []; part = p; weight = omega (arith, w); members = tt; light = λ h. omega (arith, w, h); cursor = c }

  -- the same items and the same extent, with the cursor where it was
  pub adds-nothing : (s t : DrawingAt) → t.part ≡ s.part → t.weight ≡ s.weight → cursor_box t.ambient ≡ cursor_box s.ambient → Adds most holds s t
  adds-nothing s t p w c =
      adds-none s t (rw p (part-none s.part s.part refl refl (holds-itself s.part.extent) (λ h. h) (λ h. h))) w (λ h. rw (p, c) h)

  adds-then : (s t u : DrawingAt) → Adds most holds s t → Adds most holds t u → Adds most holds s u
  adds-then s t u p q = record {
    marks = p.marks ++ q.marks;
    part = part-then s.part t.part u.part p.marks q.marks p.part q.part;
    weight = omega (arith, p.weight, q.weight, weight_of-behind p.marks q.marks);
    members = members-behind holds p.marks q.marks p.members q.members;
    light = λ h. q.light (p.light h);
    cursor = λ h. q.cursor (p.cursor h);
  }

  -- ---- answers and runs

  abbrev pub AddsTo : DrawingAt → Result DrawingAt ℕ → Type 0
  AddsTo s (Ok t) = Adds most holds s t
  AddsTo s (Err k) = Unit {0}

  abbrev pub AddsOut : DrawingAt → Outcome DrawingAt → Type 0
  AddsOut s (Gives t cost deepest) = Adds most holds s t
  AddsOut s (Traps kind cost deepest) = Unit {0}

  abbrev pub AddsRun : DrawingAt → Draw → Type 0
  AddsRun s m = (c d : ℕ) → AddsOut s (m c d).outcome

  pub adds-further : (s t : DrawingAt) → Adds most holds s t → (o : Outcome DrawingAt) → AddsOut t o → AddsOut s o
  adds-further s t p (Gives u cost deepest) q = adds-then s t u p q
  adds-further s t p (Traps kind cost deepest) q = tt

  adds-behind : (s : DrawingAt) (f : DrawingAt → Draw) → ((t : DrawingAt) → AddsRun t (f t)) → (o : Outcome DrawingAt) → AddsOut s o
      → AddsOut s (after o (λ t. run_of (f t)))
  adds-behind s f h (Gives t c d) p = adds-further s t p (f t c d).outcome (h t c d)
  adds-behind s f h (Traps kind c d) p = tt

  pub adds-run : (s : DrawingAt) (m : Draw) (f : DrawingAt → Draw) → AddsRun s m → ((t : DrawingAt) → AddsRun t (f t)) → AddsRun s (m >>= f)
  adds-run s m f g h c d = adds-behind s f h (m c d).outcome (g c d)

  adds-value : {A : Type 0} (s : DrawingAt) (o : Outcome A) (f : A → Draw) → ((x : A) → AddsRun s (f x))
      → AddsOut s (after o (λ x. run_of (f x)))
  adds-value s (Gives x c d) f h = h x c d
  adds-value s (Traps kind c d) f h = tt

  pub adds-given : {A : Type 0} (s : DrawingAt) (m : Run A) (f : A → Draw) → ((x : A) → AddsRun s (f x)) → AddsRun s (m >-> f)
  adds-given s m f h c d = adds-value s (m c d) f h

  pub adds-lift : (s : DrawingAt) (r : Result DrawingAt ℕ) → AddsTo s r → AddsRun s (opens_none (lift r))
  adds-lift s (Ok t) p c d = p
  adds-lift s (Err k) p c d = tt

  pub adds-give : (s : DrawingAt) → AddsRun s (opens_none (give s))
  adds-give s c d = adds-nothing s s refl refl refl

  pub adds-choice : (s : DrawingAt) (b : Bool) (m n : Draw) → AddsRun s m → AddsRun s n → AddsRun s (if b then m else n)
  adds-choice s true m n g h = g
  adds-choice s false m n g h = h

  -- ---- what one form draws

  adds-item : (b : Bool) (leaf : Item) (weight : ℕ) (s : DrawingAt) → nat_le (s.weight + weight) most ≡ b → weight ≡ item_weight leaf
      → IsUpright (item_bounds leaf) → AddsTo s (if b then Ok (record s { weight = s.weight + weight; part = with_item leaf s.part }) else Err 10)
  adds-item true leaf weight s h e u = record {
    marks = draw leaf ∷ [];
    part = record {
      behind = refl;
      lowest = refl;
      wider = box-first s.part.extent (item_bounds leaf);
      within = (corners-of (box s.part.extent (item_bounds leaf)) (item_bounds leaf) u (box-second s.part.extent (item_bounds leaf)), tt);
      margin = λ g. g;
      origin = λ g. g;
    };
    weight = omega (arith, e);
    members = tt;
    light = λ g. grind (arith, nat_tests, h);
    cursor = λ g.
        holds-then (box s.part.extent (item_bounds leaf)) s.part.extent (cursor_box s.ambient) (box-first s.part.extent (item_bounds leaf))
        g;
  }
  adds-item false leaf weight s h e u = tt

  adds-add_item : (leaf : Item) (weight : ℕ) (s : DrawingAt) → weight ≡ item_weight leaf → IsUpright (item_bounds leaf)
      → AddsTo s (add_item most leaf weight s)
  adds-add_item leaf weight s e u = adds-item (nat_le (s.weight + weight) most) leaf weight s refl e u

  -- the cursor elsewhere
  adds-cursor : (a : AmbientAt) (s : DrawingAt) → Adds most holds s (cursor_to a s)
  adds-cursor a s =
      adds-none s (cursor_to a s) (part-none s.part (with_cursor a s.part) refl refl (box-first s.part.extent (cursor_box a)) (λ h. h)
      (λ h. h)) refl
      (λ h. box-second s.part.extent (cursor_box a))

  adds-moved : (a : AmbientAt) (s : DrawingAt) (r : Result DrawingAt ℕ) → AddsTo s r → AddsTo s (then_to a r)
  adds-moved a s (Ok t) p = adds-then s t (cursor_to a t) p (adds-cursor a t)
  adds-moved a s (Err k) p = tt

  adds-origin : (s : DrawingAt) (r : Result DrawingAt ℕ) → AddsTo s r → AddsTo s (with_origin_used r)
  adds-origin s (Ok t) p = adds-then s t (record t { part = record t.part { origin_used = true } }) p
      (adds-none t (record t { part = record t.part { origin_used = true } })
      (part-none t.part (record t.part { origin_used = true }) refl refl (holds-itself t.part.extent) (λ h. h) (λ h. refl)) refl (λ h. h))
  adds-origin s (Err k) p = tt

  adds-unless : (s : DrawingAt) (b : Bool) (k : ℕ) (r : Result DrawingAt ℕ) → AddsTo s r → AddsTo s (if b then Err k else r)
  adds-unless s true k r p = tt
  adds-unless s false k r p = p

  adds-where : (s : DrawingAt) (b : Bool) (k : ℕ) (r : Result DrawingAt ℕ) → AddsTo s r → AddsTo s (if b then r else Err k)
  adds-where s true k r p = p
  adds-where s false k r p = tt

  adds-or_none : (s : DrawingAt) (b : Bool) (r : Result DrawingAt ℕ) → (b ≡ false → AddsTo s r) → AddsTo s (if b then Ok s else r)
  adds-or_none s true r p = adds-nothing s s refl refl refl
  adds-or_none s false r p = p refl

  adds-write_text : (bs : List ℕ) (s : DrawingAt) → AddsTo s (write_text most bs s)
  adds-write_text [] s = adds-nothing s s refl refl refl
  adds-write_text (b ∷ bs) s =
      let leaf = text_leaf s.ambient (b ∷ bs) in
      let added = add_item most leaf (length (b ∷ bs) + 1) s in
      adds-where s (is_in_range (item_bounds leaf)) 9 (then_to (after_text s.ambient (b ∷ bs)) added)
      (adds-moved (after_text s.ambient (b ∷ bs)) s added (adds-add_item leaf (length (b ∷ bs) + 1) s refl
      (record { across = omega (arith, ints); down = omega (arith, ints) })))

  pub adds-write_value : (s : DrawingAt) (d : Data) → AddsTo s (write_value most s d)
  adds-write_value s (text bs) = adds-write_text bs s
  adds-write_value s d = tt

  pub adds-newline : (s : DrawingAt) → AddsTo s (newline s)
  adds-newline s =
      let used : DrawingAt = record s { part = with_margin_used s.part } in
      adds-where s (is_near (s.ambient.y +ℤ pos 1)) 9 (Ok (cursor_to (after_newline s.ambient) used))
      (adds-then s used (cursor_to (after_newline s.ambient) used)
      (adds-none s used (part-none s.part (with_margin_used s.part) refl refl (holds-itself s.part.extent) (λ h. refl) (λ h. h)) refl
      (λ h. h))
      (adds-cursor (after_newline s.ambient) used))

  -- an area with positive sides is upright
  upright-area : (area : Area) → (int_le area.width (pos 0) || int_le area.height (pos 0)) ≡ false → IsUpright (bounds_of area)
  upright-area area h = record { across = grind (arith, ints, h); down = grind (arith, ints, h) }

  adds-draw_shape : (leaf : Item) (area : Area) (s : DrawingAt) → 1 ≡ item_weight leaf → item_bounds leaf ≡ bounds_of area
      → AddsTo s (draw_shape most leaf area s)
  adds-draw_shape leaf area s e same =
      adds-unless s (int_lt area.width (pos 0) || int_lt area.height (pos 0)) 9 _
      (adds-or_none s (int_le area.width (pos 0) || int_le area.height (pos 0)) _
      (λ h. adds-where s (is_in_range (bounds_of area)) 9 (with_origin_used (add_item most leaf 1 s))
      (adds-origin s (add_item most leaf 1 s) (adds-add_item leaf 1 s e (rw same (upright-area area h))))))

  light-figure : (area : Area) (i : FigureItem) → 1 ≡ item_weight (leaf_in area i)
  light-figure area (item.Point byte) = refl
  light-figure area (item.HorizontalLine length) = refl
  light-figure area (item.VerticalLine length) = refl
  light-figure area (item.Outline width height) = refl
  light-figure area (item.Filled width height byte) = refl

  bounds-figure : (area : Area) (i : FigureItem) → item_bounds (leaf_in area i) ≡ bounds_of area
  bounds-figure area (item.Point byte) = refl
  bounds-figure area (item.HorizontalLine length) = refl
  bounds-figure area (item.VerticalLine length) = refl
  bounds-figure area (item.Outline width height) = refl
  bounds-figure area (item.Filled width height byte) = refl

  pub adds-draw_parts : (parts : Option FigureParts) (s : DrawingAt) → AddsTo s (draw_parts most parts s)
  adds-draw_parts None s = tt
  adds-draw_parts (Some p) s =
      adds-draw_shape (leaf_in (area_at s.ambient p) p.item) (area_at s.ambient p) s (light-figure (area_at s.ambient p) p.item)
      (bounds-figure (area_at s.ambient p) p.item)

  pub adds-indent : (d : Data) (s : DrawingAt) → AddsTo s (indent d s)
  adds-indent (int n) s =
      let set : DrawingAt = record s { ambient = after_indent s.ambient n; part = with_margin (after_indent s.ambient n) s.part } in
      let wider = box-first s.part.extent (margin_box (after_indent s.ambient n)) in
      adds-where s (is_near (s.ambient.margin +ℤ n)) 9 (Ok set)
      (adds-none s set (part-none s.part set.part refl refl wider (λ h. refl) (λ h. h)) refl
      (λ h. holds-then set.part.extent s.part.extent (cursor_box s.ambient) wider h))
  adds-indent d s = tt

  pub adds-set_ink : (d : Data) (s : DrawingAt) → AddsTo s (set_ink d s)
  adds-set_ink (int (pos n)) s = adds-where s (nat_le n 7) 9 (Ok (with_ink n s)) (adds-nothing s (with_ink n s) refl refl refl)
  adds-set_ink (int (negsuc n)) s = tt
  adds-set_ink d s = tt
