-- What a display draws over old records, as children that agree with these: sums over runs.
use Rattle.std.proofs.Common.{◌≡◌, ◌∙◌, ap, sym, subst, refl, ℕ, ◌+◌, pos, ◌+ℤ◌, ◌||◌, Bool, true, false, if◌then◌else◌, nat_le, List, [], ◌∷◌, ◌++◌}
use Rattle.std.proofs.Common.{append_assoc, append-nil, length, Option, Some, None, Result, Ok, Err}
use Rattle.std.specs.Prelude.{int_le, int_lt, negsuc}
use Rattle.cl_value.specs.Data.{Data, int, text}
use Rattle.cl_region.specs.declared.rects.Shift.{Shift}
use Rattle.cl_eval.specs.Outcome.{Gives, Outcome, Run, Traps, after, give, lift, trap}
use Rattle.cl_eval.proofs.LimitLemmas.{no_value}
use Rattle.cl_medium.specs.Ambients.{AmbientAt}
use Rattle.cl_medium.specs.Drawing.{text_leaf}
use Rattle.cl_medium.specs.ItemLaws.{item_stays}
use Rattle.cl_medium.specs.Items.{Item, bounds_of, item_bounds, move_item}
use Rattle.cl_record.specs.Heads.{HeadAt}
use Rattle.cl_record.specs.Labels.{LabelAt}
use Rattle.cl_record.specs.Marks.{Mark, close, draw, history_marks, marks_of, open_presentation, open_update}
use Rattle.cl_record.specs.Shifts.{still}
use Rattle.cl_record.specs.Trees.{Tree, Trees, leaf, presentation, trees_of, update}
use Rattle.cl_record.proofs.Moves.{all-still}
use Rattle.cl_display.specs.Drawings.{DrawingAt, after_text, is_in_range, is_near, newline, start, then_to, with_item}
use Rattle.cl_display.specs.Figures.{area_at, draw_parts, leaf_in, with_origin_used}
use Rattle.cl_display.specs.Outcomes.{Draw, DrawOutcome, opens_none, run_of, walk_after, ◌>->◌, ◌>>=◌}
use Rattle.cl_display.specs.Presentations.{label_weight, leave_after, present_text, write_inside, write_value}
use Rattle.cl_display.specs.Settings.{indent, set_ink}
use Rattle.cl_display.specs.Walks.{Walk, done, ◌then◌}
use Rattle.cl_display.specs.declared.figures.FigureParts.{FigureParts}
use Rattle.cl_damage.specs.Agreement.{Agree}
use Rattle.cl_damage.specs.Children.{Child, Children, child, children_before, item, list_of, none}
use Rattle.cl_damage.specs.Keeps.{Keeps}
use Rattle.cl_untouched.specs.Keeps.{followed_by, keeps_of}
use Rattle.cl_damage.specs.NewChildren.{new_children_before}
use Rattle.cl_untouched.proofs.KidLemmas.{followed-twice, join, join-agrees, join-join, keeps-then}
use Rattle.cl_untouched.proofs.RowLemmas.{new-row}

-- ---- marks of trees in a row

row-marks : (ts us : List (Tree Item)) → history_marks move_item (ts ++ us) ≡ history_marks move_item ts ++ history_marks move_item us
row-marks [] us = refl
row-marks (t ∷ ts) us =
    ap (λ (ms : List (Mark Item)). marks_of move_item t ++ ms) (row-marks ts us)
    ∙ sym (append_assoc (marks_of move_item t) (history_marks move_item ts) (history_marks move_item us))

-- one branch, where its children draw these marks
presentation-marks : (label : LabelAt) (ts : List (Tree Item)) (ms : List (Mark Item)) → ms ≡ history_marks move_item ts
    → open_presentation label ∷ (ms ++ close ∷ []) ≡ history_marks move_item (presentation label still (trees_of ts) ∷ [])
presentation-marks label ts ms e =
    let own : List (Mark Item) = open_presentation label ∷ (history_marks move_item ts ++ close ∷ []) in
    ap (λ (ks : List (Mark Item)). open_presentation label ∷ (ks ++ close ∷ [])) e ∙ sym (all-still move_item item_stays own)
    ∙ sym (append-nil (marks_of move_item (presentation label still (trees_of ts))))

pub update-marks : (head : HeadAt) (ts : List (Tree Item)) (ms : List (Mark Item)) → ms ≡ history_marks move_item ts
    → open_update head ∷ (ms ++ close ∷ []) ≡ history_marks move_item (update head still (trees_of ts) ∷ [])
update-marks head ts ms e =
    let own : List (Mark Item) = open_update head ∷ (history_marks move_item ts ++ close ∷ []) in
    ap (λ (ks : List (Mark Item)). open_update head ∷ (ks ++ close ∷ [])) e ∙ sym (all-still move_item item_stays own)
    ∙ sym (append-nil (marks_of move_item (update head still (trees_of ts))))

-- the drawing at an end
abbrev pub end_of : DrawingAt → Outcome DrawingAt → DrawingAt
end_of s (Gives t cost deepest) = t
end_of s (Traps kind cost deepest) = s

module _ (at : Shift) (old : Trees Item) where
  -- what was drawn from some marks to others, on a walk: records, with children that agree with the old ones, which take what was kept of the walk
  pub record Renews (before after : List (Mark Item)) (w : Walk) : Type 0 where
    pub own : List (Tree Item)
    pub behind : after ≡ before ++ history_marks move_item own
    pub kids : Children Item
    pub taken : (ks : Keeps) (rest : Keeps → Children Item)
        → new_children_before move_item still (trees_of own) (followed_by (keeps_of at old w) ks) rest ≡ join kids (rest ks)
    pub agree : Agree kids (list_of (children_before move_item at old none))

  pub renews-none : (ms ns : List (Mark Item)) → ns ≡ ms → Renews ms ns done
  renews-none ms ns e = record { own = []; behind = e ∙ sym (append-nil ms); kids = none; taken = λ ks rest. refl; agree = tt }

  pub renews-then : (xs ys zs : List (Mark Item)) (w u : Walk) → Renews xs ys w → Renews ys zs u → Renews xs zs (w then u)
  renews-then xs ys zs w u p q = record {
    own = p.own ++ q.own;
    behind =
        q.behind ∙ ap (λ (ms : List (Mark Item)). ms ++ history_marks move_item q.own) p.behind
        ∙ append_assoc xs (history_marks move_item p.own) (history_marks move_item q.own)
        ∙ ap (λ (ms : List (Mark Item)). xs ++ ms) (sym (row-marks p.own q.own));
    kids = join p.kids q.kids;
    taken = λ ks rest.
        let all : followed_by (keeps_of at old (w then u)) ks ≡ followed_by (keeps_of at old w) (followed_by (keeps_of at old u) ks) =
        ap (λ (js : Keeps). followed_by js ks) (keeps-then at old w u) ∙ followed-twice (keeps_of at old w) (keeps_of at old u) ks in
        ap (λ (js : Keeps). new_children_before move_item still (trees_of (p.own ++ q.own)) js rest) all
        ∙ (new-row still p.own q.own (followed_by (keeps_of at old w) (followed_by (keeps_of at old u) ks)) rest
        ∙ (p.taken (followed_by (keeps_of at old u) ks) (λ left. new_children_before move_item still (trees_of q.own) left rest)
        ∙ (ap (λ (js : Children Item). join p.kids js) (q.taken ks rest) ∙ sym (join-join p.kids q.kids (rest ks)))));
    agree = join-agrees p.kids q.kids (list_of (children_before move_item at old none)) p.agree q.agree;
  }

  pub renews-over : (xs ys zs : List (Mark Item)) (w : Walk) → Renews xs ys w → zs ≡ ys → Renews xs zs w
  renews-over xs ys zs w p e = record { own = p.own; behind = e ∙ p.behind; kids = p.kids; taken = p.taken; agree = p.agree }

  -- every old child agrees with an item
  each-item : (a : Item) (os : List (Child Item)) → Agree (child (item a) none) os
  each-item a [] = (tt, tt)
  each-item a (o ∷ os) = ((tt, (each-item a os).0), tt)

  renews-item : (ms : List (Mark Item)) (a : Item) → Renews ms (ms ++ draw a ∷ []) done
  renews-item ms a = record {
    own = leaf a ∷ [];
    behind = refl;
    kids = child (item (move_item still a)) none;
    taken = λ ks rest. refl;
    agree = each-item (move_item still a) (list_of (children_before move_item at old none));
  }

  -- a part that began with nothing, behind the one around it
  pub renews-joined : (outer inner : List (Mark Item)) (w : Walk) → Renews [] inner w → Renews outer (outer ++ inner) w
  renews-joined outer inner w p =
      record { own = p.own; behind = ap (λ (ms : List (Mark Item)). outer ++ ms) p.behind; kids = p.kids; taken = p.taken; agree = p.agree }

  pub renews-presented : (label : LabelAt) (outer inner : List (Mark Item)) (w : Walk) → Renews [] inner w
      → Renews outer (outer ++ (open_presentation label ∷ (inner ++ close ∷ []))) w
  renews-presented label outer inner w p = record {
    own = presentation label still (trees_of p.own) ∷ [];
    behind = ap (λ (ms : List (Mark Item)). outer ++ ms) (presentation-marks label p.own inner p.behind);
    kids = p.kids;
    taken = p.taken;
    agree = p.agree;
  }

  -- ---- steps

  -- from one drawing to another, with no update
  abbrev pub StepRenews : DrawingAt → Result DrawingAt ℕ → Type 0
  StepRenews s (Ok t) = Renews s.part.marks t.part.marks done
  StepRenews s (Err k) = Unit {0}

  same-where : (s u : DrawingAt) (b : Bool) (k : ℕ) → u.part.marks ≡ s.part.marks → StepRenews s (if b then Ok u else Err k)
  same-where s u true k e = renews-none s.part.marks u.part.marks e
  same-where s u false k e = tt

  text-renews : (s : DrawingAt) (one : Item) (weight : ℕ) (a : AmbientAt) (b c : Bool)
      → StepRenews s (if b then then_to a (if c then Ok (record s { weight = weight; part = with_item one s.part }) else Err 10) else Err 9)
  text-renews s one weight a true true = renews-item s.part.marks one
  text-renews s one weight a true false = tt
  text-renews s one weight a false c = tt

  pub value-renews : (most : ℕ) (s : DrawingAt) (d : Data) → StepRenews s (write_value most s d)
  value-renews most s (text []) = renews-none s.part.marks s.part.marks refl
  value-renews most s (text (b ∷ bs)) =
      let one = text_leaf s.ambient (b ∷ bs) in
      let weight = s.weight + (length (b ∷ bs) + 1) in
      text-renews s one weight (after_text s.ambient (b ∷ bs)) (is_in_range (item_bounds one)) (nat_le weight most)
  value-renews most s d = tt

  pub newline-renews : (s : DrawingAt) → StepRenews s (newline s)
  newline-renews s = same-where s _ (is_near (s.ambient.y +ℤ pos 1)) 9 refl

  figure-drawn : (s : DrawingAt) (one : Item) (negative empty b c : Bool)
      → StepRenews s (if negative then Err 9 else (if empty then Ok s else (if b then with_origin_used (if c
      then Ok (record s { weight = s.weight + 1; part = with_item one s.part }) else Err 10) else Err 9)))
  figure-drawn s one true empty b c = tt
  figure-drawn s one false true b c = renews-none s.part.marks s.part.marks refl
  figure-drawn s one false false true true = renews-item s.part.marks one
  figure-drawn s one false false true false = tt
  figure-drawn s one false false false c = tt

  pub figure-renews : (most : ℕ) (parts : Option FigureParts) (s : DrawingAt) → StepRenews s (draw_parts most parts s)
  figure-renews most None s = tt
  figure-renews most (Some p) s =
      let area = area_at s.ambient p in
      figure-drawn s (leaf_in area p.item) (int_lt area.width (pos 0) || int_lt area.height (pos 0)) (int_le area.width (pos 0) || int_le area.height (pos 0))
      (is_in_range (bounds_of area)) (nat_le (s.weight + 1) most)

  pub indent-renews : (s : DrawingAt) (d : Data) → StepRenews s (indent d s)
  indent-renews s (int n) = same-where s _ (is_near (s.ambient.margin +ℤ n)) 9 refl
  indent-renews s d = tt

  pub ink-renews : (s : DrawingAt) (d : Data) → StepRenews s (set_ink d s)
  ink-renews s (int (pos n)) = same-where s _ (nat_le n 7) 9 refl
  ink-renews s (int (negsuc n)) = tt
  ink-renews s d = tt

  -- a text that presents a value
  left-renews : (label : LabelAt) (s u : DrawingAt) (r : Result DrawingAt ℕ) → u.part.marks ≡ [] → StepRenews u r → StepRenews s (leave_after label s.part r)
  left-renews label s u (Ok t) e p =
      renews-presented label s.part.marks t.part.marks done (subst (λ (ms : List (Mark Item)). Renews ms t.part.marks done) e p)
  left-renews label s u (Err k) e p = tt

  text-in-renews : (most : ℕ) (label : LabelAt) (s : DrawingAt) (x : Data) (b : Bool)
      → StepRenews s (leave_after label s.part (write_inside most x (if b then Ok
      (start (record s { weight = s.weight + label_weight label.object })) else Err 10)))
  text-in-renews most label s x true =
      let u = start (record s { weight = s.weight + label_weight label.object }) in
      left-renews label s u (write_value most u x) refl (value-renews most u x)
  text-in-renews most label s x false = tt

  pub present_text-renews : (most : ℕ) (label : LabelAt) (s : DrawingAt) (x : Data) → StepRenews s (present_text most label s x)
  present_text-renews most label s x = text-in-renews most label s x (nat_le (s.weight + label_weight label.object) most)

  -- ---- runs

  -- where a draw from there ends, it renews
  abbrev pub RenewsFor : DrawingAt → DrawOutcome → Type 0
  RenewsFor s o = (t : DrawingAt) (n l : ℕ) → o.outcome ≡ Gives t n l → Renews s.part.marks t.part.marks o.walk

  abbrev pub RunRenews : DrawingAt → Draw → Type 0
  RunRenews s m = (c d : ℕ) → RenewsFor s (m c d)

  pub renews-lift : (s : DrawingAt) (r : Result DrawingAt ℕ) → StepRenews s r → RunRenews s (opens_none (lift r))
  renews-lift s (Ok u) h c d t n l p = subst (λ (x : DrawingAt). Renews s.part.marks x.part.marks done) (ap (end_of s) p) h
  renews-lift s (Err k) h c d t n l p = absurd (no_value k c d t n l p)

  pub renews-give : (s : DrawingAt) → RunRenews s (opens_none (give s))
  renews-give s = renews-lift s (Ok s) (renews-none s.part.marks s.part.marks refl)

  pub renews-trap : (s : DrawingAt) (k : ℕ) → RunRenews s (opens_none (trap k))
  renews-trap s k c d t n l p = absurd (no_value k c d t n l p)

  pub renews-choice : (s : DrawingAt) (b : Bool) (m n : Draw) → RunRenews s m → RunRenews s n → RunRenews s (if b then m else n)
  renews-choice s true m n g h = g
  renews-choice s false m n g h = h

  renews-behind : (s : DrawingAt) (o : DrawOutcome) (f : DrawingAt → Draw) → RenewsFor s o → ((t : DrawingAt) → RunRenews t (f t))
      → (p : Outcome DrawingAt) → o.outcome ≡ p → (x : DrawingAt) (n l : ℕ) → after p (λ t. run_of (f t)) ≡ Gives x n l
      → Renews s.part.marks x.part.marks (o.walk then walk_after p f)
  renews-behind s o f g h (Gives t i j) q x n l r =
      renews-then s.part.marks t.part.marks x.part.marks o.walk (f t i j).walk (g t i j q) (h t i j x n l r)
  renews-behind s o f g h (Traps k i j) q x n l r = absurd (no_value k i j x n l r)

  pub renews-sequence : (s : DrawingAt) (m : Draw) (f : DrawingAt → Draw) → RunRenews s m → ((t : DrawingAt) → RunRenews t (f t)) → RunRenews s (m >>= f)
  renews-sequence s m f g h c d t n l p = renews-behind s (m c d) f (g c d) h (m c d).outcome refl t n l p

  renews-given : {A : Type 0} (s : DrawingAt) (m : Run A) (f : A → Draw) (c d : ℕ) (o : Outcome A) → m c d ≡ o
      → ((x : A) (i j : ℕ) → m c d ≡ Gives x i j → RenewsFor s (f x i j)) → (t : DrawingAt) (n l : ℕ)
      → after o (λ x. run_of (f x)) ≡ Gives t n l → Renews s.part.marks t.part.marks (walk_after o f)
  renews-given s m f c d (Gives x i j) q h t n l p = h x i j q t n l p
  renews-given s m f c d (Traps k i j) q h t n l p = absurd (no_value k i j t n l p)

  pub renews-value : {A : Type 0} (s : DrawingAt) (m : Run A) (f : A → Draw) → ((x : A) → RunRenews s (f x)) → RunRenews s (m >-> f)
  renews-value s m f h c d t n l p = renews-given s m f c d (m c d) refl (λ x i j q. h x i j) t n l p

  -- the same where it counts how the value came
  pub renews-come : {A : Type 0} (s : DrawingAt) (m : Run A) (f : A → Draw)
      → ((x : A) (c d i j : ℕ) → m c d ≡ Gives x i j → RenewsFor s (f x i j)) → RunRenews s (m >-> f)
  renews-come s m f h c d t n l p = renews-given s m f c d (m c d) refl (λ x i j q. h x c d i j q) t n l p

  -- what goes on from a step that draws nothing
  pub renews-set : (s : DrawingAt) (r : Result DrawingAt ℕ) (f : DrawingAt → Draw) → StepRenews s r → ((u : DrawingAt) → RunRenews u (f u))
      → RunRenews s (lift r >-> f)
  renews-set s (Ok u) f e h c d t n l p =
      renews-then s.part.marks u.part.marks t.part.marks done (f u c d).walk e (h u c d t n l p)
  renews-set s (Err k) f e h c d t n l p = absurd (no_value k c d t n l p)

  -- a body that is drawn from u, and left
  renews-back : (s u : DrawingAt) (o : DrawOutcome) (leave : DrawingAt → DrawingAt) → RenewsFor u o
      → ((t : DrawingAt) (w : Walk) → Renews u.part.marks t.part.marks w → Renews s.part.marks (leave t).part.marks w)
      → (p : Outcome DrawingAt) → o.outcome ≡ p → (x : DrawingAt) (n l : ℕ) → after p (λ t. run_of (opens_none (give (leave t)))) ≡ Gives x n l
      → Renews s.part.marks x.part.marks (o.walk then walk_after p (λ t. opens_none (give (leave t))))
  renews-back s u o leave g h (Gives t i j) q x n l r =
      let left : Renews s.part.marks (leave t).part.marks o.walk = h t o.walk (g t i j q) in
      renews-then s.part.marks (leave t).part.marks x.part.marks o.walk done left
      (renews-none (leave t).part.marks x.part.marks (ap (λ (y : Outcome DrawingAt). (end_of x y).part.marks) (sym r)))
  renews-back s u o leave g h (Traps k i j) q x n l r = absurd (no_value k i j x n l r)

  pub renews-leave : (s u : DrawingAt) (m : Draw) (leave : DrawingAt → DrawingAt) → RunRenews u m
      → ((t : DrawingAt) (w : Walk) → Renews u.part.marks t.part.marks w → Renews s.part.marks (leave t).part.marks w)
      → RunRenews s (m >>= λ t. opens_none (give (leave t)))
  renews-leave s u m leave g h c d t n l p = renews-back s u (m c d) leave (g c d) h (m c d).outcome refl t n l p
