-- What a display draws are faithful records.
use Rattle.std.proofs.Common.{◌≡◌, ◌∙◌, ap, sym, subst, refl, ℕ, ◌+◌, pos, ◌+ℤ◌, ◌||◌, Bool, true, false, if◌then◌else◌, nat_le, List, [], ◌∷◌, ◌++◌}
use Rattle.std.proofs.Common.{append_assoc, append-nil, length, Option, Some, None, Result, Ok, Err, arith}
use Rattle.std.specs.Prelude.{IfSome, int_le, int_lt, negsuc}
use Rattle.std.proofs.lemmas.Int.{ints}
use Rattle.cl_value.specs.Data.{Data, int, text}
use Rattle.cl_syntax.specs.declared.sites.Site.{Site}
use Rattle.cl_application.specs.declared.applications.App.{App}
use Rattle.cl_eval.specs.TypeMeanings.{TypeMeanings}
use Rattle.cl_medium.specs.Ambients.{AmbientAt}
use Rattle.cl_medium.specs.Drawing.{text_leaf}
use Rattle.cl_medium.specs.Items.{Item, bounds_of, item_bounds, move_item}
use Rattle.cl_record.specs.Heads.{HeadAt}
use Rattle.cl_record.specs.Labels.{LabelAt}
use Rattle.cl_record.specs.Marks.{Mark, close, draw, history_marks, marks_of, open_presentation, open_update}
use Rattle.cl_record.specs.Shifts.{still}
use Rattle.cl_record.specs.Trees.{Tree, leaf, presentation, trees_of, update}
use Rattle.cl_record.proofs.Moves.{all-still}
use Rattle.cl_display.specs.Drawings.{DrawingAt, after_text, is_in_range, is_near, newline, start, then_to, with_item}
use Rattle.cl_display.specs.Figures.{area_at, draw_parts, leaf_in, with_origin_used}
use Rattle.cl_display.specs.Presentations.{label_weight, leave_after, present_text, write_inside, write_value}
use Rattle.cl_display.specs.Settings.{indent, set_ink}
use Rattle.cl_display.specs.Siblings.{Siblings, is_taken, note}
use Rattle.cl_display.specs.declared.figures.FigureParts.{FigureParts}
use Rattle.cl_reuse.specs.Once.{names}
use Rattle.cl_reuse.specs.Recorded.{AreFaithful, IsRecorded}
use Rattle.cl_reuse.proofs.NameLemmas.{AreNew, Names, names-once, names-then, noted_names}

-- ---- marks of trees in a row

-- no move of an item changes nothing
item-still : (a : Item) → move_item (record { dx = pos 0; dy = pos 0 }) a ≡ a
item-still a =
    let x : a.area.x +ℤ pos 0 ≡ a.area.x = omega (arith, ints) in
    let y : a.area.y +ℤ pos 0 ≡ a.area.y = omega (arith, ints) in
    λ i. record a { area = record a.area { x = x i; y = y i } }

row-marks : (ts us : List (Tree Item)) → history_marks move_item (ts ++ us) ≡ history_marks move_item ts ++ history_marks move_item us
row-marks [] us = refl
row-marks (t ∷ ts) us =
    ap (λ (ms : List (Mark Item)). marks_of move_item t ++ ms) (row-marks ts us)
    ∙ sym (append_assoc (marks_of move_item t) (history_marks move_item ts) (history_marks move_item us))

-- one branch, where its children draw these marks
presentation-marks : (label : LabelAt) (ts : List (Tree Item)) (ms : List (Mark Item)) → ms ≡ history_marks move_item ts
    → open_presentation label ∷ (ms ++ close ∷ []) ≡ history_marks move_item (presentation label still (trees_of ts) ∷ [])
presentation-marks label ts ms e =
    let own : List (Mark Item) = open_presentation label ∷ (history_marks move_item ts ++ close ∷ []) in
    ap (λ (ks : List (Mark Item)). open_presentation label ∷ (ks ++ close ∷ [])) e ∙ sym (all-still move_item item-still own)
    ∙ sym (append-nil (marks_of move_item (presentation label still (trees_of ts))))

update-marks : (head : HeadAt) (ts : List (Tree Item)) (ms : List (Mark Item)) → ms ≡ history_marks move_item ts
    → open_update head ∷ (ms ++ close ∷ []) ≡ history_marks move_item (update head still (trees_of ts) ∷ [])
update-marks head ts ms e =
    let own : List (Mark Item) = open_update head ∷ (history_marks move_item ts ++ close ∷ []) in
    ap (λ (ks : List (Mark Item)). open_update head ∷ (ks ++ close ∷ [])) e ∙ sym (all-still move_item item-still own)
    ∙ sym (append-nil (marks_of move_item (update head still (trees_of ts))))

-- the names of a branch
names-presented : (label : LabelAt) (l m : Siblings) (ts : List (Tree Item)) → Names l m ts → Names l m (presentation label still (trees_of ts) ∷ [])
names-presented label l m ts p =
    let same = append-nil (names (trees_of ts)) in
    record {
      new = subst (λ (ns : List (Site × Data)). AreNew l ns) (sym same) p.new;
      left = p.left ∙ ap (λ (ns : List (Site × Data)). noted_names ns l) (sym same);
      inside = (p.inside, tt);
    }

names-updated : (head : HeadAt) (l m : Siblings) (ts : List (Tree Item)) → Names [] m ts → is_taken head.site head.id l ≡ false
    → Names l (note head.site head.id l) (update head still (trees_of ts) ∷ [])
names-updated head l m ts p free =
    record { new = (free, tt); left = refl; inside = ((names-once (names (trees_of ts)) [] p.new, p.inside), tt) }

module _ (app : App) (types : TypeMeanings) where
  row-faithful : (ts us : List (Tree Item)) → AreFaithful app types (trees_of ts) → AreFaithful app types (trees_of us)
      → AreFaithful app types (trees_of (ts ++ us))
  row-faithful [] us f g = g
  row-faithful (t ∷ ts) us f g = (f.0, row-faithful ts us f.1 g)

  -- what was drawn from one drawing to another are these faithful records, and the updates of their level are those that there are besides
  pub record Draws (l m : Siblings) (before after : List (Mark Item)) : Type 0 where
    pub own : List (Tree Item)
    pub behind : after ≡ before ++ history_marks move_item own
    pub faithful : AreFaithful app types (trees_of own)
    pub named : Names l m own

  pub draws-none : (l m : Siblings) (ms ns : List (Mark Item)) → m ≡ l → ns ≡ ms → Draws l m ms ns
  draws-none l m ms ns f e =
      record { own = []; behind = e ∙ sym (append-nil ms); faithful = tt; named = record { new = tt; left = f; inside = tt } }

  pub draws-then : (l m n : Siblings) (xs ys zs : List (Mark Item)) → Draws l m xs ys → Draws m n ys zs → Draws l n xs zs
  draws-then l m n xs ys zs p q = record {
    own = p.own ++ q.own;
    behind =
        q.behind ∙ ap (λ (ms : List (Mark Item)). ms ++ history_marks move_item q.own) p.behind
        ∙ append_assoc xs (history_marks move_item p.own) (history_marks move_item q.own)
        ∙ ap (λ (ms : List (Mark Item)). xs ++ ms) (sym (row-marks p.own q.own));
    faithful = row-faithful p.own q.own p.faithful q.faithful;
    named = names-then l m n p.own q.own p.named q.named;
  }

  draws-item : (l : Siblings) (ms : List (Mark Item)) (a : Item) → Draws l l ms (ms ++ draw a ∷ [])
  draws-item l ms a =
      record { own = leaf a ∷ []; behind = refl; faithful = (tt, tt); named = record { new = tt; left = refl; inside = (tt, tt) } }

  -- a part that began with nothing, behind the one around it
  pub draws-joined : (l m : Siblings) (outer inner : List (Mark Item)) → Draws l m [] inner → Draws l m outer (outer ++ inner)
  draws-joined l m outer inner p =
      record { own = p.own; behind = ap (λ (ms : List (Mark Item)). outer ++ ms) p.behind; faithful = p.faithful; named = p.named }

  pub draws-presented : (label : LabelAt) (l m : Siblings) (outer inner : List (Mark Item)) → Draws l m [] inner
      → Draws l m outer (outer ++ (open_presentation label ∷ (inner ++ close ∷ [])))
  draws-presented label l m outer inner p = record {
    own = presentation label still (trees_of p.own) ∷ [];
    behind = ap (λ (ms : List (Mark Item)). outer ++ ms) (presentation-marks label p.own inner p.behind);
    faithful = (p.faithful, tt);
    named = names-presented label l m p.own p.named;
  }

  pub draws-updated : (head : HeadAt) (l m : Siblings) (outer inner : List (Mark Item)) → Draws [] m [] inner
      → IfSome head.cache (IsRecorded app types head inner) → is_taken head.site head.id l ≡ false
      → Draws l (note head.site head.id l) outer (outer ++ (open_update head ∷ (inner ++ close ∷ [])))
  draws-updated head l m outer inner p r free = record {
    own = update head still (trees_of p.own) ∷ [];
    behind = ap (λ (ms : List (Mark Item)). outer ++ ms) (update-marks head p.own inner p.behind);
    faithful = ((subst (λ (ms : List (Mark Item)). IfSome head.cache (IsRecorded app types head ms)) p.behind r, p.faithful), tt);
    named = names-updated head l m p.own p.named free;
  }

  -- ---- steps

  -- from one drawing to another
  abbrev pub DrawsTo : DrawingAt → DrawingAt → Type 0
  DrawsTo s t = Draws s.siblings t.siblings s.part.marks t.part.marks

  abbrev pub StepDraws : DrawingAt → Result DrawingAt ℕ → Type 0
  StepDraws s (Ok t) = DrawsTo s t
  StepDraws s (Err k) = Unit {0}

  same-where : (s u : DrawingAt) (b : Bool) (k : ℕ) → u.siblings ≡ s.siblings → u.part.marks ≡ s.part.marks
      → StepDraws s (if b then Ok u else Err k)
  same-where s u true k f e = draws-none s.siblings u.siblings s.part.marks u.part.marks f e
  same-where s u false k f e = tt

  text-draws : (s : DrawingAt) (one : Item) (weight : ℕ) (a : AmbientAt) (b c : Bool)
      → StepDraws s (if b then then_to a (if c then Ok (record s { weight = weight; part = with_item one s.part }) else Err 10) else Err 9)
  text-draws s one weight a true true = draws-item s.siblings s.part.marks one
  text-draws s one weight a true false = tt
  text-draws s one weight a false c = tt

  pub value-draws : (most : ℕ) (s : DrawingAt) (d : Data) → StepDraws s (write_value most s d)
  value-draws most s (text []) = draws-none s.siblings s.siblings s.part.marks s.part.marks refl refl
  value-draws most s (text (b ∷ bs)) =
      let one = text_leaf s.ambient (b ∷ bs) in
      let weight = s.weight + (length (b ∷ bs) + 1) in
      text-draws s one weight (after_text s.ambient (b ∷ bs)) (is_in_range (item_bounds one)) (nat_le weight most)
  value-draws most s d = tt

  pub newline-draws : (s : DrawingAt) → StepDraws s (newline s)
  newline-draws s = same-where s _ (is_near (s.ambient.y +ℤ pos 1)) 9 refl refl

  figure-drawn : (s : DrawingAt) (one : Item) (negative none b c : Bool)
      → StepDraws s (if negative then Err 9 else (if none then Ok s else (if b then with_origin_used (if c
      then Ok (record s { weight = s.weight + 1; part = with_item one s.part }) else Err 10) else Err 9)))
  figure-drawn s one true none b c = tt
  figure-drawn s one false true b c = draws-none s.siblings s.siblings s.part.marks s.part.marks refl refl
  figure-drawn s one false false true true = draws-item s.siblings s.part.marks one
  figure-drawn s one false false true false = tt
  figure-drawn s one false false false c = tt

  pub figure-draws : (most : ℕ) (parts : Option FigureParts) (s : DrawingAt) → StepDraws s (draw_parts most parts s)
  figure-draws most None s = tt
  figure-draws most (Some p) s =
      let area = area_at s.ambient p in
      figure-drawn s (leaf_in area p.item) (int_lt area.width (pos 0) || int_lt area.height (pos 0)) (int_le area.width (pos 0) || int_le area.height (pos 0))
      (is_in_range (bounds_of area)) (nat_le (s.weight + 1) most)

  pub indent-draws : (s : DrawingAt) (d : Data) → StepDraws s (indent d s)
  indent-draws s (int n) = same-where s _ (is_near (s.ambient.margin +ℤ n)) 9 refl refl
  indent-draws s d = tt

  pub ink-draws : (s : DrawingAt) (d : Data) → StepDraws s (set_ink d s)
  ink-draws s (int (pos n)) = same-where s _ (nat_le n 7) 9 refl refl
  ink-draws s (int (negsuc n)) = tt
  ink-draws s d = tt

  -- a text that presents a value
  left-draws : (label : LabelAt) (s u : DrawingAt) (r : Result DrawingAt ℕ) → u.siblings ≡ s.siblings → u.part.marks ≡ [] → StepDraws u r
      → StepDraws s (leave_after label s.part r)
  left-draws label s u (Ok t) f e p =
      draws-presented label s.siblings t.siblings s.part.marks t.part.marks
      (subst (λ (k : Siblings). Draws k t.siblings [] t.part.marks) f (subst (λ (ms : List (Mark Item)). Draws u.siblings t.siblings ms t.part.marks) e p))
  left-draws label s u (Err k) f e p = tt

  text-in-draws : (most : ℕ) (label : LabelAt) (s : DrawingAt) (x : Data) (b : Bool)
      → StepDraws s (leave_after label s.part (write_inside most x (if b then Ok
      (start (record s { weight = s.weight + label_weight label.object })) else Err 10)))
  text-in-draws most label s x true =
      let u = start (record s { weight = s.weight + label_weight label.object }) in
      left-draws label s u (write_value most u x) refl refl (value-draws most u x)
  text-in-draws most label s x false = tt

  pub present_text-draws : (most : ℕ) (label : LabelAt) (s : DrawingAt) (x : Data) → StepDraws s (present_text most label s x)
  present_text-draws most label s x = text-in-draws most label s x (nat_le (s.weight + label_weight label.object) most)
