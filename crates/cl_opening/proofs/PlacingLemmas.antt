-- A frame that has a place has its panes in it, each apart from the others.
use Rattle.std.proofs.Common.{◌≡◌, ◌≤◌, ◌<◌, ◌+◌, ◌++◌, ℕ, zero, suc, Bool, true, false, length, map, drop, List, [], ◌∷◌, refl, sym, ap, ◌∙◌, subst, arith}
use Rattle.std.specs.Prelude.{All, Option, Some, None, Result, Ok, Err, ℤ, pos, negsuc, is_some, nat_le, ◌&&◌, if◌then◌else◌}
use Rattle.std.proofs.lemmas.Bool.Decides.{nat_tests}
use Rattle.std.proofs.lemmas.List.{map_push}
use Rattle.std.proofs.lemmas.List.Elements.{All-nil, All-cons, All-head, All-tail, All-push, All-weaker}
use Rattle.cl_expressions.specs.Load.{Fault}
use Rattle.cl_forms.specs.Naming.{some_if}
use Rattle.cl_table.specs.Names.{declared_at, named, with_first}
use Rattle.cl_application.specs.Panes.{declared_by, lie_apart, LieApart, LiesIn, IsPlaced}
use Rattle.cl_application.specs.declared.declarations.PaneDecl.{PaneDecl}
use Rattle.cl_declare.specs.declared.frames.FrameForm.{FrameForm}
use Rattle.cl_declare.specs.declared.pane_forms.PaneForm.{PaneForm}
use Rattle.cl_opening.specs.Placing.{PaneTable, side, span_of, pane_at, pane_on, is_apart, place_apart, place_pane, unless_fault, place_panes, frame_with}
use Rattle.cl_opening.specs.declared.placing.Span.{Span}

-- the panes from a place on
pub apart_next : (p q : PaneDecl) (placed : PaneTable) (i : ℕ) → Some q ≡ declared_at i placed
    → is_apart p (drop i placed) ≡ (lie_apart q p && is_apart p (drop (suc i) placed))
apart_next p q [] zero h = cc
apart_next p q [] (suc i) h = cc
apart_next p q (e ∷ placed) zero h = grind arith
apart_next p q (e ∷ placed) (suc i) h = apart_next p q placed i h

-- the pane at a place overlaps
pub apart_ends : (p q : PaneDecl) (placed : PaneTable) (i : ℕ) → Some q ≡ declared_at i placed → is_apart p (drop i placed) ≡ is_apart p placed
    → lie_apart q p ≡ false → false ≡ is_apart p placed
apart_ends p q placed i h same overlaps =
    let one : is_apart p (drop i placed) ≡ (lie_apart q p && is_apart p (drop (suc i) placed)) = apart_next p q placed i h in
    sym (one ∙ ap (λ b. b && is_apart p (drop (suc i) placed)) overlaps) ∙ same

-- it lies apart, and so the others decide
pub apart_on : (p q : PaneDecl) (placed : PaneTable) (i : ℕ) → Some q ≡ declared_at i placed → is_apart p (drop i placed) ≡ is_apart p placed
    → lie_apart q p ≡ true → is_apart p (drop (i + 1) placed) ≡ is_apart p placed
apart_on p q placed i h same parted =
    let one : is_apart p (drop i placed) ≡ is_apart p (drop (suc i) placed) =
    apart_next p q placed i h ∙ ap (λ b. b && is_apart p (drop (suc i) placed)) parted in
    let next : i + 1 ≡ suc i = omega arith in
    rw next (sym one ∙ same)

both : (a b : Bool) → (a && b) ≡ true → (a ≡ true) × (b ≡ true)
both true true h = (refl, refl)
both true false h = cc
both false b h = cc

some_same : {A : Type 0} (x y : A) → ◌≡◌ {A = Option A} (Some x) (Some y) → x ≡ y
some_same x y h = cc

ok_same : {A : Type 0} (x y : A) → ◌≡◌ {A = Result A Fault} (Ok x) (Ok y) → x ≡ y
ok_same x y h = cc

no_fault : {A : Type 0} (x : A) (fault : Fault) → ◌≡◌ {A = Result A Fault} (Err fault) (Ok x) → ⊥
no_fault x fault h = cc

nothing : {A : Type 0} (x : A) → ◌≡◌ {A = Option A} None (Some x) → ⊥
nothing x h = cc

least : (a b : ℕ) → nat_le a b ≡ true → a ≤ b
least a b h = grind (arith, nat_tests, h)

kept : {A : Type 0} (b : Bool) (x y : A) → some_if b x ≡ Some y → (b ≡ true) × (x ≡ y)
kept true x y h = (refl, some_same x y h)
kept false x y h = absurd (nothing y h)

-- ---- a pane on its device

abbrev SpanLies : ℕ → Span → Type 0
SpanLies most s = (1 ≤ s.count) × (s.from + s.count ≤ most)

span_lies : (most : ℕ) (from count : ℤ) (s : Span) → span_of most from count ≡ Some s → SpanLies most s
span_lies most (pos from) (pos count) s h =
    let k = kept (nat_le 1 count && nat_le (from + count) most) (record { from = from; count = count }) s h in
    let b = both (nat_le 1 count) (nat_le (from + count) most) k.0 in
    let lies : SpanLies most (record { from = from; count = count }) = (least 1 count b.0, least (from + count) most b.1) in
    subst (SpanLies most) k.1 lies
span_lies most (pos from) (negsuc count) s h = absurd (nothing s h)
span_lies most (negsuc from) count s h = absurd (nothing s h)

-- the pane has cells, and lies in a device of these sides
record LiesOn (width height : ℕ) (p : PaneDecl) : Type 0 where
  columns : (1 ≤ p.width) × (p.x + p.width ≤ width)
  rows : (1 ≤ p.height) × (p.y + p.height ≤ height)

pane_lies : (w h : ℕ) (p : PaneForm) (across down : Option Span) (d : PaneDecl) → ((s : Span) → across ≡ Some s → SpanLies w s)
    → ((s : Span) → down ≡ Some s → SpanLies h s) → pane_at p across down ≡ Some d → LiesOn w h d
pane_lies w h p (Some across) (Some down) d a b e =
    subst (LiesOn w h) (some_same _ d e) (record { columns = a across refl; rows = b down refl })
pane_lies w h p (Some across) None d a b e = absurd (nothing d e)
pane_lies w h p None down d a b e = absurd (nothing d e)

on_device : (w h : ℕ) (p : PaneForm) (d : PaneDecl) → pane_on w h p ≡ Some d → LiesOn w h d
on_device w h p d e =
    pane_lies w h p (span_of w p.x p.width) (span_of h p.y p.height) d (span_lies w p.x p.width) (span_lies h p.y p.height) e

-- ---- panes that are placed

abbrev panes_at : PaneTable → List PaneDecl
panes_at placed = map declared_by placed

-- the panes lie in the device, each apart from the others
record Lie (w h : ℕ) (placed : PaneTable) : Type 0 where
  on : All (LiesOn w h) (panes_at placed)
  apart : LieApart (panes_at placed)

abbrev IsApartFrom : PaneDecl → PaneDecl → Type 0
IsApartFrom p q = lie_apart q p ≡ true

all_apart : (p : PaneDecl) (placed : PaneTable) → is_apart p placed ≡ true → All (IsApartFrom p) (panes_at placed)
all_apart p [] h = All-nil (IsApartFrom p)
all_apart p (e ∷ placed) h =
    let b = both (lie_apart (declared_by e) p) (is_apart p placed) h in
    All-cons (IsApartFrom p) (declared_by e) (panes_at placed) b.0 (all_apart p placed b.1)

-- one more behind panes that lie apart from it
apart_behind : (ps : List PaneDecl) (p : PaneDecl) → LieApart ps → All (IsApartFrom p) ps → LieApart (ps ++ p ∷ [])
apart_behind [] p a h = (All-nil (λ q. lie_apart p q ≡ true), tt)
apart_behind (q ∷ ps) p a h =
    (All-push (λ r. lie_apart q r ≡ true) ps p a.0 (All-head (IsApartFrom p) q ps h), apart_behind ps p a.1 (All-tail (IsApartFrom p) q ps h))

lie_behind : (w h : ℕ) (placed : PaneTable) (p : PaneDecl) → Lie w h placed → LiesOn w h p → is_apart p placed ≡ true
    → Lie w h (placed ++ (p.name, p) ∷ [])
lie_behind w h placed p l on apart =
    let last : panes_at (placed ++ (p.name, p) ∷ []) ≡ panes_at placed ++ p ∷ [] = map_push declared_by placed (p.name, p) in
    record {
      on = subst (All (LiesOn w h)) (sym last) (All-push (LiesOn w h) (panes_at placed) p l.on on);
      apart = subst LieApart (sym last) (apart_behind (panes_at placed) p l.apart (all_apart p placed apart));
    }

lie_with : (w h : ℕ) (placed : PaneTable) (p : PaneDecl) (b : Bool) → Lie w h placed → LiesOn w h p → is_apart p placed ≡ true
    → Lie w h (if b then placed else placed ++ (p.name, p) ∷ [])
lie_with w h placed p true l on apart = l
lie_with w h placed p false l on apart = lie_behind w h placed p l on apart

-- there is a pane where one was added
some_with : (placed : PaneTable) (p : PaneDecl) → 0 < length (with_first (λ d. d.name) placed p)
some_with [] p = omega arith
some_with (e ∷ placed) p = by (is_some (named p.name (e ∷ placed)))
  where
    by : (b : Bool) → 0 < length (if b then e ∷ placed else e ∷ placed ++ (p.name, p) ∷ [])
    by true = omega arith
    by false = omega arith

-- panes are placed, and there is one
record Grown (w h : ℕ) (placed : PaneTable) : Type 0 where
  some : 0 < length placed
  lie : Lie w h placed

apart_grown : (w h at : ℕ) (p : PaneDecl) (placed more : PaneTable) (b : Bool) → is_apart p placed ≡ b → LiesOn w h p → Lie w h placed
    → ◌≡◌ {A = Result PaneTable Fault} (if b then Ok (with_first (λ d. d.name) placed p) else Err (15, at)) (Ok more) → Grown w h more
apart_grown w h at p placed more true apart on l e =
    subst (Grown w h) (ok_same _ more e)
    (record { some = some_with placed p; lie = lie_with w h placed p (is_some (named p.name placed)) l on apart })
apart_grown w h at p placed more false apart on l e = absurd (no_fault more (15, at) e)

placed_grown : (w h at : ℕ) (o : Option PaneDecl) (placed more : PaneTable) → ((p : PaneDecl) → o ≡ Some p → LiesOn w h p) → Lie w h placed
    → place_apart at o placed ≡ Ok more → Grown w h more
placed_grown w h at None placed more on l e = absurd (no_fault more (15, at) e)
placed_grown w h at (Some p) placed more on l e = apart_grown w h at p placed more (is_apart p placed) refl (on p refl) l e

pane_grown : (w h : ℕ) (p : PaneForm) (placed more : PaneTable) → Lie w h placed → place_pane w h p placed ≡ Ok more → Grown w h more
pane_grown w h p placed more l e = placed_grown w h p.at (pane_on w h p) placed more (on_device w h p) l e

-- what is made was made of something
made_of : {A B : Type 0} (r : Result A Fault) (f : A → Result B Fault) (y : B) → unless_fault r f ≡ Ok y → (x : A) × ((r ≡ Ok x) × (f x ≡ Ok y))
made_of (Ok x) f y e = (x, (refl, e))
made_of (Err fault) f y e = absurd (no_fault y fault e)

panes_grown : (w h : ℕ) (ps : List PaneForm) (placed more : PaneTable) → Grown w h placed → place_panes w h ps placed ≡ Ok more → Grown w h more
panes_grown w h [] placed more g e = subst (Grown w h) (ok_same placed more e) g
panes_grown w h (p ∷ ps) placed more g e =
    let one = made_of (place_pane w h p placed) (λ next. place_panes w h ps next) more e in
    panes_grown w h ps one.0 more (pane_grown w h p placed one.0 g.lie one.1.0) one.1.1

none_lie : (w h : ℕ) → Lie w h []
none_lie w h = record { on = All-nil (LiesOn w h); apart = tt }

all_grown : (w h : ℕ) (ps : List PaneForm) (placed : PaneTable) → 0 < length ps → place_panes w h ps [] ≡ Ok placed → Grown w h placed
all_grown w h [] placed some e = absurd (omega (arith, some))
all_grown w h (p ∷ ps) placed some e =
    let one = made_of (place_pane w h p []) (λ next. place_panes w h ps next) placed e in
    panes_grown w h ps one.0 placed (pane_grown w h p [] one.0 (none_lie w h) one.1.0) one.1.1

-- ---- the frame

side_lies : (most : ℕ) (z : ℤ) (n : ℕ) → side most z ≡ Some n → (1 ≤ n) × (n ≤ most)
side_lies most (pos m) n h =
    let k = kept (nat_le 1 m && nat_le m most) m n h in
    let b = both (nat_le 1 m) (nat_le m most) k.0 in
    let lies : (1 ≤ m) × (m ≤ most) = (least 1 m b.0, least m most b.1) in
    subst (λ (i : ℕ). (1 ≤ i) × (i ≤ most)) k.1 lies
side_lies most (negsuc m) n h = absurd (nothing n h)

frame_lies : (f : FrameForm) (w h : ℕ) (placed : PaneTable) → (1 ≤ w) × (w ≤ 512) → (1 ≤ h) × (h ≤ 256) → Grown w h placed → IsPlaced (frame_with f w h placed)
frame_lies f w h placed columns rows g = record {
  columns = columns;
  rows = rows;
  some = g.some;
  lie = All-weaker (LiesOn w h) (LiesIn (frame_with f w h placed)) (λ p l. record { columns = l.columns; rows = l.rows }) (panes_at placed) g.lie.on;
  apart = g.lie.apart;
}

-- a frame that has a pane is placed where it has a place
pub frame_placed : (f : FrameForm) (w h : ℕ) (placed : PaneTable) → 0 < length f.panes → Some w ≡ side 512 f.width → Some h ≡ side 256 f.height
    → place_panes w h f.panes [] ≡ Ok placed → IsPlaced (frame_with f w h placed)
frame_placed f w h placed some columns rows e =
    frame_lies f w h placed (side_lies 512 f.width w (sym columns)) (side_lies 256 f.height h (sym rows)) (all_grown w h f.panes placed some e)
