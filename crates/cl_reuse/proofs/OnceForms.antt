-- A display opens no update of one site and id twice at a level: sums over runs.
use Rattle.std.proofs.Common.{◌≡◌, ◌∙◌, ap, sym, subst, refl, ℕ, ◌+◌, ◌==◌, nat_le, pos, ◌+ℤ◌, Bool, true, false, if◌then◌else◌, [], ◌∷◌, length}
use Rattle.std.proofs.Common.{Option, Some, None, Result, Ok, Err, arith}
use Rattle.std.specs.Prelude.{◌&&◌, ◌||◌, int_le, int_lt, negsuc}
use Rattle.std.specs.Ordering.{is_eq}
use Rattle.std.specs.declared.cmp.Ordering.{Ordering}
use Rattle.std.specs.declared.cmp.Ordering.TheVariants.{Less, Equal, Greater}
use Rattle.std.proofs.lemmas.Bool.Decides.{nat_tests}
use Rattle.cl_value.specs.Data.{Data, int, order_of, text}
use Rattle.cl_value.specs.OrderLaws.{same_data}
use Rattle.cl_value.proofs.Same.{order_self}
use Rattle.cl_region.proofs.Corners.{and_left, and_right, both}
use Rattle.cl_syntax.specs.ShapeTree.{ShapeTrees}
use Rattle.cl_syntax.specs.declared.sites.Site.{Site}
use Rattle.cl_eval.specs.Outcome.{Gives, Outcome, Run, Traps, after, give, lift, trap}
use Rattle.cl_eval.specs.Slots.{Env}
use Rattle.cl_eval.proofs.LimitLemmas.{no_value}
use Rattle.cl_medium.specs.Ambients.{AmbientAt}
use Rattle.cl_medium.specs.Drawing.{text_leaf}
use Rattle.cl_medium.specs.Items.{Item, bounds_of, item_bounds}
use Rattle.cl_record.specs.Labels.{LabelAt}
use Rattle.cl_display.specs.Drawings.{DrawingAt, after_text, is_in_range, is_near, newline, start, then_to, with_item}
use Rattle.cl_display.specs.Figures.{area_at, draw_parts, leaf_in, with_origin_used}
use Rattle.cl_display.specs.Fresh.{Allowance, Bodies, draws_body, draws_keyed, left_over}
use Rattle.cl_display.specs.Outcomes.{Draw, DrawOutcome, opens_none, run_of, walk_after, ◌>->◌, ◌>>=◌}
use Rattle.cl_display.specs.Presentations.{enter_presentation, label_weight, leave_after, present_text, write_inside, write_value}
use Rattle.cl_display.specs.Settings.{indent, set_ink}
use Rattle.cl_display.specs.Siblings.{Siblings, is_taken, note, same_site}
use Rattle.cl_display.specs.Updates.{KeyAt, end_update, enter_body, key_weight}
use Rattle.cl_display.specs.Walks.{Walk, done, met, ◌then◌}
use Rattle.cl_display.specs.declared.figures.FigureParts.{FigureParts}
use Rattle.cl_display.proofs.SiblingLaws.{taken-noted}
use Rattle.cl_reuse.specs.Once.{OpensOnce, is_opened}

-- ---- walks and the updates so far at their level

-- the updates so far behind a walk
abbrev pub noted : Walk → Siblings → Siblings
noted done l = l
noted (met o inside rest) l = noted rest (note o.site o.id l)

-- a walk opens no update that there is, nor one twice at a level
abbrev pub OpensNew : Siblings → Walk → Type 0
OpensNew l done = Unit {0}
OpensNew l (met o inside rest) = (is_taken o.site o.id l ≡ false) × (OpensNew [] inside × OpensNew (note o.site o.id l) rest)

noted-then : (w u : Walk) (l : Siblings) → noted (w then u) l ≡ noted u (noted w l)
noted-then done u l = refl
noted-then (met o inside rest) u l = noted-then rest u (note o.site o.id l)

new-then : (w u : Walk) (l : Siblings) → OpensNew l w → OpensNew (noted w l) u → OpensNew l (w then u)
new-then done u l h k = k
new-then (met o inside rest) u l h k = (h.0, (h.1.0, new-then rest u (note o.site o.id l) h.1.1 k))

-- ---- names

-- one site and one id
abbrev pub same_name : Site → Data → Site → Data → Bool
same_name site id other d = same_site site other && is_eq (order_of id d)

equal-of : (o : Ordering) → is_eq o ≡ true → o ≡ Equal
equal-of Less h = cc
equal-of Equal h = refl
equal-of Greater h = cc

pub name-itself : (site : Site) (id : Data) → same_name site id site id ≡ true
name-itself site id = both (same_site site site) (is_eq (order_of id id)) (grind arith) (ap is_eq (order_self id))

pub site-same : (a b : Site) → same_site a b ≡ true → a ≡ b
site-same a b h =
    let forms : a.form ≡ b.form = grind (arith, nat_tests, and_left (a.form == b.form) (a.query == b.query) h) in
    let queries : a.query ≡ b.query = grind (arith, nat_tests, and_right (a.form == b.form) (a.query == b.query) h) in
    λ i. record { form = forms i; query = queries i }

-- what holds of one name holds of the same
pub name-holds : (P : Site → Data → Type 0) (site : Site) (id : Data) (other : Site) (d : Data) → same_name site id other d ≡ true → P site id → P other d
name-holds P site id other d h p =
    let sites = site-same site other (and_left (same_site site other) (is_eq (order_of id d)) h) in
    let ids = same_data id d (equal-of (order_of id d) (and_right (same_site site other) (is_eq (order_of id d)) h)) in
    subst (λ (e : Data). P other e) ids (subst (λ (s : Site). P s id) sites p)

pub either-true : (a b : Bool) → b ≡ true → (a || b) ≡ true
either-true true b h = refl
either-true false b h = h

pub first-true : (a b : Bool) → a ≡ true → (a || b) ≡ true
first-true a b h = rw h refl

-- neither
pub or-false : (a b : Bool) → (a ≡ true → ⊥) → b ≡ false → (a || b) ≡ false
or-false true b h k = absurd (h refl)
or-false false b h k = k

pub never-both : (b : Bool) → b ≡ true → b ≡ false → ⊥
never-both true h k = cc
never-both false h k = cc

-- what is taken is not opened
not-opened : (site : Site) (id : Data) (w : Walk) (l : Siblings) → is_taken site id l ≡ true → OpensNew l w → is_opened site id w ≡ false
not-opened site id done l h k = refl
not-opened site id (met o inside rest) l h k =
    or-false (same_name site id o.site o.id) (is_opened site id rest)
    (λ e. never-both (is_taken o.site o.id l) (name-holds (λ s d. is_taken s d l ≡ true) site id o.site o.id e h) k.0)
    (not-opened site id rest (note o.site o.id l)
    (taken-noted o.site site o.id id l ∙ either-true (same_name site id o.site o.id) (is_taken site id l) h) k.1.1)

-- none is opened twice
pub opens-once : (w : Walk) (l : Siblings) → OpensNew l w → OpensOnce w
opens-once done l h = tt
opens-once (met o inside rest) l h =
    let again = not-opened o.site o.id rest (note o.site o.id l)
    (taken-noted o.site o.site o.id o.id l ∙ first-true (same_name o.site o.id o.site o.id) (is_taken o.site o.id l) (name-itself o.site o.id)) h.1.1 in
    (again, (opens-once inside [] h.1.0, opens-once rest (note o.site o.id l) h.1.1))

-- ---- runs

-- a draw opens no update that there is, nor one twice at a level, and where it ends there are those that it opened besides
pub record OpensBehind (l : Siblings) (o : DrawOutcome) : Type 0 where
  pub once : OpensNew l o.walk
  pub left : (t : DrawingAt) (i j : ℕ) → o.outcome ≡ Gives t i j → t.siblings ≡ noted o.walk l

abbrev pub RunOpens : Siblings → Draw → Type 0
RunOpens l m = (c d : ℕ) → OpensBehind l (m c d)

-- a step opens none
abbrev pub StepStays : Siblings → Result DrawingAt ℕ → Type 0
StepStays l (Ok t) = t.siblings ≡ l
StepStays l (Err k) = Unit {0}

abbrev siblings_of : Siblings → Outcome DrawingAt → Siblings
siblings_of l (Gives t i j) = t.siblings
siblings_of l (Traps k i j) = l

module _ (l : Siblings) where
  pub opens-lift : (r : Result DrawingAt ℕ) → StepStays l r → RunOpens l (opens_none (lift r))
  opens-lift (Ok s) h c d = record { once = tt; left = λ t i j p. sym (ap (λ (o : Outcome DrawingAt). siblings_of l o) p) ∙ h }
  opens-lift (Err k) h c d = record { once = tt; left = λ t i j p. absurd (no_value k c d t i j p) }

  pub opens-trap : (k : ℕ) → RunOpens l (opens_none (trap k))
  opens-trap k c d = record { once = tt; left = λ t i j p. absurd (no_value k c d t i j p) }

  pub opens-choice : (b : Bool) (m n : Draw) → RunOpens l m → RunOpens l n → RunOpens l (if b then m else n)
  opens-choice true m n g h = g
  opens-choice false m n g h = h

  opens-given : {A : Type 0} (f : A → Draw) → ((x : A) → RunOpens l (f x)) → (o : Outcome A)
      → OpensBehind l (record { outcome = after o (λ x. run_of (f x)); walk = walk_after o f })
  opens-given f h (Gives x i j) = record { once = (h x i j).once; left = (h x i j).left }
  opens-given f h (Traps k i j) = record { once = tt; left = λ t n m p. absurd (no_value k i j t n m p) }

  pub opens-value : {A : Type 0} (m : Run A) (f : A → Draw) → ((x : A) → RunOpens l (f x)) → RunOpens l (m >-> f)
  opens-value m f h c d = opens-given f h (m c d)

  opens-behind : (o : DrawOutcome) (f : DrawingAt → Draw) → OpensBehind l o → ((t : DrawingAt) → RunOpens t.siblings (f t))
      → (p : Outcome DrawingAt) → o.outcome ≡ p
      → OpensBehind l (record { outcome = after p (λ s. run_of (f s)); walk = o.walk then walk_after p f })
  opens-behind o f g h (Gives t i j) q =
      let there = g.left t i j q in
      let more = h t i j in
      record {
        once = new-then o.walk (f t i j).walk l g.once (subst (λ (k : Siblings). OpensNew k (f t i j).walk) there more.once);
        left = λ x n m p.
            more.left x n m p ∙ ap (λ (k : Siblings). noted (f t i j).walk k) there ∙ sym (noted-then o.walk (f t i j).walk l);
      }
  opens-behind o f g h (Traps k i j) q =
      record { once = new-then o.walk done l g.once tt; left = λ t n m p. absurd (no_value k i j t n m p) }

  pub opens-then : (m : Draw) (f : DrawingAt → Draw) → RunOpens l m → ((t : DrawingAt) → RunOpens t.siblings (f t)) → RunOpens l (m >>= f)
  opens-then m f g h c d = opens-behind (m c d) f (g c d) h (m c d).outcome refl

  -- what goes on from a step
  pub opens-set : (r : Result DrawingAt ℕ) (f : DrawingAt → Draw) → StepStays l r → ((t : DrawingAt) → RunOpens t.siblings (f t)) → RunOpens l (lift r >-> f)
  opens-set (Ok u) f e h c d =
      let there = h u c d in
      record { once = subst (λ (k : Siblings). OpensNew k (f u c d).walk) e there.once; left = λ t i j p. there.left t i j p ∙ ap (λ (k : Siblings). noted (f u c d).walk k) e }
  opens-set (Err k) f e h c d = record { once = tt; left = λ t i j p. absurd (no_value k c d t i j p) }

pub opens-give : (s : DrawingAt) → RunOpens s.siblings (opens_none (give s))
opens-give s = opens-lift s.siblings (Ok s) refl

-- ---- updates

ended-siblings : (key : KeyAt) (level : ℕ) (s : DrawingAt) (o : Outcome DrawingAt) (c d : ℕ) (t : DrawingAt) (i j : ℕ)
    → end_update key level s o c d ≡ Gives t i j → t.siblings ≡ s.siblings
ended-siblings key level s (Gives u n r) c d t i j p = sym (ap (λ (o : Outcome DrawingAt). siblings_of s.siblings o) p)
ended-siblings key level s (Traps k n r) c d t i j p = absurd (no_value k (c + n) d t i j p)

-- a body opens none twice
abbrev pub BodyOpens : Bodies → Env → ShapeTrees → Type 0
BodyOpens bodies env body = (allowed : Allowance) (s : DrawingAt) → OpensNew s.siblings (bodies.draw allowed env body s).walk

module _ (allowed : Allowance) (bodies : Bodies) (level : ℕ) (env : Env) (body : ShapeTrees) (key : KeyAt) (b : BodyOpens bodies env body) where
  opens-entered : (s : DrawingAt) (taken fits : Bool) → is_taken key.site key.id s.siblings ≡ taken
      → RunOpens s.siblings (lift (if taken then Err 8 else (if fits
      then Ok (record s { weight = s.weight + key_weight key; siblings = note key.site key.id s.siblings }) else Err 10))
      >-> draws_body allowed bodies level env body key)
  opens-entered s true fits e c d = record { once = tt; left = λ t i j p. absurd (no_value 8 c d t i j p) }
  opens-entered s false false e c d = record { once = tt; left = λ t i j p. absurd (no_value 10 c d t i j p) }
  opens-entered s false true e c d =
      let u : DrawingAt = record s { weight = s.weight + key_weight key; siblings = note key.site key.id s.siblings } in
      let o = bodies.draw (left_over allowed c u.weight) env body (enter_body u) in
      record {
        once = (e, (b (left_over allowed c u.weight) (enter_body u), tt));
        left = λ t i j p. ended-siblings key level u o.outcome c d t i j p;
      }

  pub opens-keyed : (s : DrawingAt) → RunOpens s.siblings (draws_keyed allowed bodies level env body s key)
  opens-keyed s = opens-entered s (is_taken key.site key.id s.siblings) (nat_le (s.weight + key_weight key) allowed.weight) refl

-- ---- steps

same-there : (s u : DrawingAt) (b : Bool) (k : ℕ) → u.siblings ≡ s.siblings → StepStays s.siblings (if b then Ok u else Err k)
same-there s u true k e = e
same-there s u false k e = tt

text-stays : (s : DrawingAt) (one : Item) (weight : ℕ) (a : AmbientAt) (b c : Bool)
    → StepStays s.siblings (if b then then_to a (if c then Ok (record s { weight = weight; part = with_item one s.part }) else Err 10) else Err 9)
text-stays s one weight a true true = refl
text-stays s one weight a true false = tt
text-stays s one weight a false c = tt

pub value-stays : (most : ℕ) (s : DrawingAt) (d : Data) → StepStays s.siblings (write_value most s d)
value-stays most s (text []) = refl
value-stays most s (text (b ∷ bs)) =
    let one = text_leaf s.ambient (b ∷ bs) in
    let weight = s.weight + (length (b ∷ bs) + 1) in
    text-stays s one weight (after_text s.ambient (b ∷ bs)) (is_in_range (item_bounds one)) (nat_le weight most)
value-stays most s d = tt

pub newline-stays : (s : DrawingAt) → StepStays s.siblings (newline s)
newline-stays s = same-there s _ (is_near (s.ambient.y +ℤ pos 1)) 9 refl

figure-stayed : (s : DrawingAt) (one : Item) (negative none b c : Bool)
    → StepStays s.siblings (if negative then Err 9 else (if none then Ok s else (if b then with_origin_used (if c
    then Ok (record s { weight = s.weight + 1; part = with_item one s.part }) else Err 10) else Err 9)))
figure-stayed s one true none b c = tt
figure-stayed s one false true b c = refl
figure-stayed s one false false true true = refl
figure-stayed s one false false true false = tt
figure-stayed s one false false false c = tt

pub figure-stays : (most : ℕ) (parts : Option FigureParts) (s : DrawingAt) → StepStays s.siblings (draw_parts most parts s)
figure-stays most None s = tt
figure-stays most (Some p) s =
    let area = area_at s.ambient p in
    figure-stayed s (leaf_in area p.item) (int_lt area.width (pos 0) || int_lt area.height (pos 0)) (int_le area.width (pos 0) || int_le area.height (pos 0))
    (is_in_range (bounds_of area)) (nat_le (s.weight + 1) most)

pub indent-stays : (s : DrawingAt) (d : Data) → StepStays s.siblings (indent d s)
indent-stays s (int n) = same-there s _ (is_near (s.ambient.margin +ℤ n)) 9 refl
indent-stays s d = tt

pub ink-stays : (s : DrawingAt) (d : Data) → StepStays s.siblings (set_ink d s)
ink-stays s (int (pos n)) = same-there s _ (nat_le n 7) 9 refl
ink-stays s (int (negsuc n)) = tt
ink-stays s d = tt

-- a text that presents a value
left-stays : (label : LabelAt) (s u : DrawingAt) (r : Result DrawingAt ℕ) → u.siblings ≡ s.siblings → StepStays u.siblings r
    → StepStays s.siblings (leave_after label s.part r)
left-stays label s u (Ok t) e h = h ∙ e
left-stays label s u (Err k) e h = tt

text-in-stays : (most : ℕ) (label : LabelAt) (s : DrawingAt) (x : Data) (b : Bool)
    → StepStays s.siblings (leave_after label s.part (write_inside most x (if b then Ok
    (start (record s { weight = s.weight + label_weight label.object })) else Err 10)))
text-in-stays most label s x true =
    let u = start (record s { weight = s.weight + label_weight label.object }) in
    left-stays label s u (write_value most u x) refl (value-stays most u x)
text-in-stays most label s x false = tt

pub present_text-stays : (most : ℕ) (label : LabelAt) (s : DrawingAt) (x : Data) → StepStays s.siblings (present_text most label s x)
present_text-stays most label s x = text-in-stays most label s x (nat_le (s.weight + label_weight label.object) most)

pub presentation-stays : (most : ℕ) (d : Data) (s : DrawingAt) → StepStays s.siblings (enter_presentation most d s)
presentation-stays most d s = same-there s _ (nat_le (s.weight + label_weight d) most) 10 refl
