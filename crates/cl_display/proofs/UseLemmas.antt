-- Which forms use the margin and the origin that a body starts with.
use Rattle.std.proofs.Common.{◌≡◌, ℕ, ◌+◌, ◌==◌, pos, ◌+ℤ◌, Bool, true, false, if◌then◌else◌, nat_le, List, [], ◌∷◌, length, Option, Some}
use Rattle.std.proofs.Common.{None, Result, Ok, Err, refl, ◌∙◌}
use Rattle.std.specs.Prelude.{negsuc, int_le, int_lt, ◌||◌}
use mathlib.Core.Logic.{inl, inr}
use Rattle.cl_value.specs.Data.{Data, int, text}
use Rattle.cl_syntax.specs.ShapeTree as shape
use Rattle.cl_syntax.specs.ShapeTree.{ShapeTree, ShapeTrees, none, form, shape_trees_of}
use Rattle.cl_syntax.specs.ExprTree.{ExprTree, ExprTrees}
use Rattle.cl_syntax.specs.declared.figures.Figure.{Figure}
use Rattle.cl_application.specs.App.{display_named}
use Rattle.cl_application.specs.declared.declarations.DisplayDecl.{DisplayDecl}
use Rattle.cl_eval.specs.Outcome.{Outcome, Gives, Traps, after, give, trap, lift}
use Rattle.cl_eval.specs.Slots.{Env, bind_parameters}
use Rattle.cl_eval.specs.Meaning.{Go, bind_each, each, parts_of_list, truth_of}
use Rattle.cl_medium.specs.Ambients.{AmbientAt, after_indent, after_newline}
use Rattle.cl_medium.specs.Drawing.{text_leaf}
use Rattle.cl_medium.specs.Items.{bounds_of, item_bounds, Item}
use Rattle.cl_medium.specs.declared.areas.Area.{Area}
use Rattle.cl_display.specs.Drawings.{DrawingAt, add_item, after_text, cursor_to, is_in_range, is_near, newline, then_to, with_item}
use Rattle.cl_display.specs.Drawings.{with_margin_used}
use Rattle.cl_display.specs.Figures.{area_at, draw_figure, draw_parts, draw_shape, figure_parts, leaf_in, with_origin_used}
use Rattle.cl_display.specs.declared.figures.FigureParts.{FigureParts}
use Rattle.cl_display.specs.Settings.{enter_room, indent, leave_room, restore_ink, restore_margin, set_ink, with_ink, with_margin}
use Rattle.cl_display.specs.Outcomes.{Draw, opens_none, run_of}
use Rattle.cl_display.specs.Fresh.{Allowance, Draws, call_display, draws, draws_to, for_each, in_order, shape_parts, within}
use Rattle.cl_display.specs.Uses.{EndsWith, HasUsedMargin, IsPlain, NoBodyUses, NoneUses, UsesMargin, UsesNeither, UsesOrigin}
use Rattle.cl_display.specs.Fresh.{Bodies, Scene, draws_body, draws_cached, draws_keyed, for_members, left_over, presents_body, presents_text}
use Rattle.cl_display.specs.Siblings.{is_taken, note}
use Rattle.cl_display.specs.Updates.{KeyAt, cache_of, end_update, enter_body, head_at, id_of, key_at, key_weight, leave_update}
use Rattle.cl_display.specs.Presentations.{Texts, label_of, label_weight, leave_after, leave_presentation, present_text, write_inside}
use Rattle.cl_display.specs.Presentations.{write_value}
use Rattle.cl_eval.specs.Statements.{Member}
use Rattle.cl_record.specs.Labels.{LabelAt}
use Rattle.cl_display.proofs.FormSums.{adds-draws, adds-in_order}
use Rattle.cl_display.proofs.SumLemmas.{AddsOut}
use Rattle.cl_display.specs.Drawings.{start}
use Rattle.std.proofs.Common.{ap}

-- ---- answers

abbrev GivesWith : (DrawingAt → Type 0) → Result DrawingAt ℕ → Type 0
GivesWith P (Ok t) = P t
GivesWith P (Err k) = Unit {0}

gives-where : (P : DrawingAt → Type 0) (b : Bool) (k : ℕ) (r : Result DrawingAt ℕ) → GivesWith P r → GivesWith P (if b then r else Err k)
gives-where P true k r h = h
gives-where P false k r h = tt

gives-unless : (P : DrawingAt → Type 0) (b : Bool) (k : ℕ) (r : Result DrawingAt ℕ) → GivesWith P r → GivesWith P (if b then Err k else r)
gives-unless P true k r h = tt
gives-unless P false k r h = h

gives-or : (P : DrawingAt → Type 0) (b : Bool) (q r : Result DrawingAt ℕ) → GivesWith P q → GivesWith P r → GivesWith P (if b then q else r)
gives-or P true q r g h = g
gives-or P false q r g h = h

neither : (s t : DrawingAt) → t.part.margin_used ≡ s.part.margin_used → t.part.origin_used ≡ s.part.origin_used → UsesNeither s t
neither s t m o = record { margin = m; origin = o }

text-item : (b : Bool) (a : AmbientAt) (leaf : Item) (weight : ℕ) (s : DrawingAt)
    → GivesWith (UsesNeither s) (then_to a (if b then Ok (record s { weight = weight; part = with_item leaf s.part }) else Err 10))
text-item true a leaf weight s = record { margin = refl; origin = refl }
text-item false a leaf weight s = tt

text-unused : (most : ℕ) (s : DrawingAt) (d : Data) → GivesWith (UsesNeither s) (write_value most s d)
text-unused most s (text []) = record { margin = refl; origin = refl }
text-unused most s (text (b ∷ bs)) =
    let leaf = text_leaf s.ambient (b ∷ bs) in
    let weight = s.weight + (length (b ∷ bs) + 1) in
    gives-where (UsesNeither s) (is_in_range (item_bounds leaf)) 9
    (then_to (after_text s.ambient (b ∷ bs)) (add_item most leaf (length (b ∷ bs) + 1) s))
    (text-item (nat_le weight most) (after_text s.ambient (b ∷ bs)) leaf weight s)
text-unused most s d = tt

ink-unused : (s : DrawingAt) (d : Data) → GivesWith (UsesNeither s) (set_ink d s)
ink-unused s (int (pos n)) = gives-where (UsesNeither s) (nat_le n 7) 9 (Ok (with_ink n s)) (record { margin = refl; origin = refl })
ink-unused s (int (negsuc n)) = tt
ink-unused s d = tt

newline-used : (s : DrawingAt) → GivesWith (UsesMargin s) (newline s)
newline-used s =
    gives-where (UsesMargin s) (is_near (s.ambient.y +ℤ pos 1)) 9
    (Ok (cursor_to (after_newline s.ambient) (record s { part = with_margin_used s.part })))
    (record { margin = refl; origin = refl })

indent-used : (s : DrawingAt) (d : Data) → GivesWith (UsesMargin s) (indent d s)
indent-used s (int n) =
    gives-where (UsesMargin s) (is_near (s.ambient.margin +ℤ n)) 9
    (Ok (record s { ambient = after_indent s.ambient n; part = with_margin (after_indent s.ambient n) s.part }))
    (record { margin = refl; origin = refl })
indent-used s d = tt

figure-item : (b : Bool) (leaf : Item) (weight : ℕ) (s : DrawingAt)
    → GivesWith (UsesOrigin s) (with_origin_used (if b then Ok (record s { weight = weight; part = with_item leaf s.part }) else Err 10))
figure-item true leaf weight s = record { margin = refl; origin = inr refl }
figure-item false leaf weight s = tt

shape-used : (most : ℕ) (leaf : Item) (area : Area) (s : DrawingAt) → GivesWith (UsesOrigin s) (draw_shape most leaf area s)
shape-used most leaf area s =
    gives-unless (UsesOrigin s) (int_lt area.width (pos 0) || int_lt area.height (pos 0)) 9 _
    (gives-or (UsesOrigin s) (int_le area.width (pos 0) || int_le area.height (pos 0)) (Ok s) _
    (record { margin = refl; origin = inl refl })
    (gives-where (UsesOrigin s) (is_in_range (bounds_of area)) 9 (with_origin_used (add_item most leaf 1 s))
    (figure-item (nat_le (s.weight + 1) most) leaf (s.weight + 1) s)))

figure-used : (most : ℕ) (parts : Option FigureParts) (s : DrawingAt) → GivesWith (UsesOrigin s) (draw_parts most parts s)
figure-used most None s = tt
figure-used most (Some p) s = shape-used most (leaf_in (area_at s.ambient p) p.item) (area_at s.ambient p) s

-- ---- draws

ends-lift : (P : DrawingAt → Type 0) (r : Result DrawingAt ℕ) (c d : ℕ) → GivesWith P r → EndsWith P (lift r c d)
ends-lift P (Ok t) c d h = h
ends-lift P (Err k) c d h = tt

-- behind values, which use nothing
ends-value : {A : Type 0} (P : DrawingAt → Type 0) (o : Outcome A) (f : A → Draw) → ((x : A) (c d : ℕ) → EndsWith P (f x c d).outcome)
    → EndsWith P (after o (λ x. run_of (f x)))
ends-value P (Gives x c d) f h = h x c d
ends-value P (Traps k c d) f h = tt

ends-choice : (P : DrawingAt → Type 0) (b : Bool) (m n : Draw) (c d : ℕ) → EndsWith P (m c d).outcome → EndsWith P (n c d).outcome
    → EndsWith P ((if b then m else n) c d).outcome
ends-choice P true m n c d g h = g
ends-choice P false m n c d g h = h

-- behind a draw of which this holds
ends-behind : (P Q : DrawingAt → Type 0) (o : Outcome DrawingAt) (f : DrawingAt → Draw) → EndsWith P o
    → ((t : DrawingAt) → P t → (c d : ℕ) → EndsWith Q (f t c d).outcome)
    → EndsWith Q (after o (λ t. run_of (f t)))
ends-behind P Q (Gives t c d) f g h = h t g c d
ends-behind P Q (Traps k c d) f g h = tt

-- the answer of which this holds, and a draw from there
ends-set : (P Q : DrawingAt → Type 0) (r : Result DrawingAt ℕ) (c d : ℕ) (f : DrawingAt → Draw) → GivesWith P r
    → ((t : DrawingAt) → P t → EndsWith Q (f t c d).outcome)
    → EndsWith Q (after (lift r c d) (λ t. run_of (f t)))
ends-set P Q (Ok t) c d f g h = h t g
ends-set P Q (Err k) c d f g h = tt

both-neither : (s t u : DrawingAt) → UsesNeither s t → UsesNeither t u → UsesNeither s u
both-neither s t u p q = record { margin = q.margin ∙ p.margin; origin = q.origin ∙ p.origin }

weaker : (s t : DrawingAt) (o : Outcome DrawingAt) → UsesNeither s t → EndsWith (UsesNeither t) o → EndsWith (UsesNeither s) o
weaker s t (Gives u c d) p q = both-neither s t u p q
weaker s t (Traps k c d) p q = tt

-- ---- forms that use neither

unused-in_order : (go : Draws) → NoneUses go → (level : ℕ) (env : Env) (fs : ShapeTrees) (s : DrawingAt) (c d : ℕ)
    → EndsWith (UsesNeither s) (in_order go level env fs s c d).outcome
unused-in_order go g level env none s c d = neither s s refl refl
unused-in_order go g level env (form f fs) s c d =
    ends-behind (UsesNeither s) (UsesNeither s) (go level env f s c d).outcome (in_order go level env fs) (g level env f s c d)
    (λ t p i j. weaker s t (in_order go level env fs t i j).outcome p (unused-in_order go g level env fs t i j))

unused-for_each : (go : Draws) → NoneUses go → (level : ℕ) (env : Env) (x : List ℕ) (body : ShapeTrees) (ds : List Data) (s : DrawingAt)
    (c d : ℕ)
    → EndsWith (UsesNeither s) (for_each go level env x body ds s c d).outcome
unused-for_each go g level env x body [] s c d = neither s s refl refl
unused-for_each go g level env x body (v ∷ ds) s c d =
    ends-behind (UsesNeither s) (UsesNeither s) (in_order go level ((x, v) ∷ env) body s c d).outcome (for_each go level env x body ds)
    (unused-in_order go g level ((x, v) ∷ env) body s c d)
    (λ t p i j. weaker s t (for_each go level env x body ds t i j).outcome p (unused-for_each go g level env x body ds t i j))

unused-call : (go : Draws) → NoneUses go → (level : ℕ) (f : Option DisplayDecl) (ds : List Data) (s : DrawingAt) (c d : ℕ)
    → EndsWith (UsesNeither s) (call_display go level f ds s c d).outcome
unused-call go g level None ds s c d = tt
unused-call go g level (Some f) ds s c d =
    ends-choice (UsesNeither s) (length ds == length f.parameters) (in_order go level (bind_parameters f.parameters ds) (shape_trees_of f.body) s)
    (opens_none (trap 1)) c d
    (unused-in_order go g level (bind_parameters f.parameters ds) (shape_trees_of f.body) s c d) tt

unused-ink : (go : Draws) → NoneUses go → (level : ℕ) (env : Env) (body : ShapeTrees) (s : DrawingAt) (v : Data) (c d : ℕ)
    → EndsWith (UsesNeither s) (within go level env body (set_ink v s) (restore_ink s.ambient) c d).outcome
unused-ink go g level env body s v c d =
    ends-set (UsesNeither s) (UsesNeither s) (set_ink v s) c d (draws_to go level env body (restore_ink s.ambient)) (ink-unused s v)
    (λ t p. ends-behind (UsesNeither s) (UsesNeither s) (in_order go level env body t c d).outcome
    (λ end. opens_none (give (restore_ink s.ambient end)))
    (weaker s t (in_order go level env body t c d).outcome p (unused-in_order go g level env body t c d))
    (λ end q i j. neither s (restore_ink s.ambient end) q.margin q.origin))

-- what a body uses in a presentation, it uses around it, and nothing more is used
presented-unused : (label : LabelAt) (s u t : DrawingAt) → u.part.margin_used ≡ false → u.part.origin_used ≡ false → UsesNeither u t
    → UsesNeither s (leave_presentation label s.part t)
presented-unused label s u t m o p =
    neither s (leave_presentation label s.part t) (ap (λ (b : Bool). b || s.part.margin_used) (p.margin ∙ m))
    (ap (λ (b : Bool). b || s.part.origin_used) (p.origin ∙ o))

unused-body : (go : Draws) → NoneUses go → (level : ℕ) (env : Env) (body : ShapeTrees) (label : LabelAt) (s : DrawingAt) (weight : ℕ) (b : Bool) (c d : ℕ)
    → EndsWith (UsesNeither s) (within go level env body (if b then Ok (start (record s { weight = weight })) else Err 10)
    (leave_presentation label s.part) c d).outcome
unused-body go g level env body label s weight true c d =
    let inner : DrawingAt = start (record s { weight = weight }) in
    ends-behind (UsesNeither inner) (UsesNeither s) (in_order go level env body inner c d).outcome
    (λ end. opens_none (give (leave_presentation label s.part end))) (unused-in_order go g level env body inner c d)
    (λ end p i j. presented-unused label s inner end refl refl p)
unused-body go g level env body label s weight false c d = tt

unused-left : (label : LabelAt) (s u : DrawingAt) (r : Result DrawingAt ℕ) → u.part.margin_used ≡ false → u.part.origin_used ≡ false
    → GivesWith (UsesNeither u) r → GivesWith (UsesNeither s) (leave_after label s.part r)
unused-left label s u (Ok t) m o p = presented-unused label s u t m o p
unused-left label s u (Err k) m o p = tt

unused-text : (most : ℕ) (label : LabelAt) (s : DrawingAt) (x : Data) (weight : ℕ) (b : Bool)
    → GivesWith (UsesNeither s) (leave_after label s.part (write_inside most x (if b then Ok (start (record s { weight = weight })) else Err 10)))
unused-text most label s x weight true =
    let inner : DrawingAt = start (record s { weight = weight }) in
    unused-left label s inner (write_value most inner x) refl refl (text-unused most inner x)
unused-text most label s x weight false = tt

-- a body that uses nothing leaves all unused around it
unused-ended : (key : KeyAt) (level : ℕ) (s entered : DrawingAt) (o : Outcome DrawingAt) → entered.part ≡ s.part
    → EndsWith (UsesNeither (enter_body entered)) o → (c d : ℕ) → EndsWith (UsesNeither s) (end_update key level entered o c d)
unused-ended key level s entered (Gives t n l) part p c d =
    rw part (neither s (leave_update (head_at key entered.ambient t n l) t.part (record entered { part = s.part }))
    (ap (λ (b : Bool). b || s.part.margin_used) p.margin) (ap (λ (b : Bool). b || s.part.origin_used) p.origin))
unused-ended key level s entered (Traps k n l) part p c d = tt

unused-keyed : (allowed : Allowance) (bodies : Bodies) → NoBodyUses bodies → (level : ℕ) (env : Env) (body : ShapeTrees) (s : DrawingAt) (key : KeyAt) (c d : ℕ)
    → EndsWith (UsesNeither s) (draws_keyed allowed bodies level env body s key c d).outcome
unused-keyed allowed bodies b level env body s key c d = opened (is_taken key.site key.id s.siblings) (nat_le (s.weight + key_weight key) allowed.weight)
  where
    entered : DrawingAt
    entered = record s { weight = s.weight + key_weight key; siblings = note key.site key.id s.siblings }

    opened : (taken fits : Bool)
        → EndsWith (UsesNeither s) (after (lift (if taken then Err 8 else (if fits then Ok entered else Err 10)) c d)
        (λ x. run_of (draws_body allowed bodies level env body key x)))
    opened true fits = tt
    opened false true =
        unused-ended key level s entered (bodies.draw (left_over allowed c entered.weight) env body (enter_body entered)).outcome refl
        (b (left_over allowed c entered.weight) env body (enter_body entered)) c d
    opened false false = tt

pub plain-unused : (scene : Scene) (allowed : Allowance) (value : Go) (texts : Texts) (bodies : Bodies) (go : Draws) (level : ℕ) (env : Env) (f : ShapeTree) (s : DrawingAt)
    (cost deepest : ℕ)
    → IsPlain f → NoneUses go → NoBodyUses bodies → EndsWith (UsesNeither s) (shape_parts scene allowed value texts bodies go level env f s cost deepest).outcome
plain-unused scene allowed value texts bodies go level env (shape.WriteText t) s c d h g b =
    ends-value (UsesNeither s) (value level env t c d) (λ v. opens_none (lift (write_value allowed.weight s v)))
    (λ v i j. ends-lift (UsesNeither s) (write_value allowed.weight s v) i j (text-unused allowed.weight s v))
plain-unused scene allowed value texts bodies go level env (shape.Ink t body) s c d h g b =
    ends-value (UsesNeither s) (value level env t c d) (λ v. within go level env body (set_ink v s) (restore_ink s.ambient))
    (unused-ink go g level env body s)
plain-unused scene allowed value texts bodies go level env (shape.Present t spec) s c d h g b =
    ends-value (UsesNeither s) (value level env t c d)
    (λ v. for_members scene.types.holds spec v (presents_text allowed.weight texts level spec s v))
    (λ v i j. ends-choice (UsesNeither s) (scene.types.holds v spec) (presents_text allowed.weight texts level spec s v) (opens_none (trap 1)) i j
    (ends-value (UsesNeither s) (texts level spec v i j) (λ x. opens_none (lift (present_text allowed.weight (label_of spec false v) s x)))
    (λ x k l. ends-lift (UsesNeither s) (present_text allowed.weight (label_of spec false v) s x) k l
    (unused-text allowed.weight (label_of spec false v) s x (s.weight + label_weight v) (nat_le (s.weight + label_weight v) allowed.weight)))) tt)
plain-unused scene allowed value texts bodies go level env (shape.AsPresentation p body) s c d h g b =
    ends-value (UsesNeither s) (value level env p.object c d)
    (λ v. for_members scene.types.holds p.spec v (presents_body allowed.weight go level env p body s v))
    (λ v i j. ends-choice (UsesNeither s) (scene.types.holds v p.spec) (presents_body allowed.weight go level env p body s v) (opens_none (trap 1)) i j
    (unused-body go g level env body (label_of p.spec p.single_box v) s (s.weight + label_weight v)
    (nat_le (s.weight + label_weight v) allowed.weight) i j) tt)
plain-unused scene allowed value texts bodies go level env (shape.Update u body) s c d h g b =
    ends-value (UsesNeither s) (id_of value level env s.siblings u.site u.id c d)
    (draws_cached allowed value bodies level env u body s)
    (λ id i j. ends-value (UsesNeither s) (cache_of value level env u.cache i j) (λ cache. draws_keyed allowed bodies level env body s (key_at u id cache))
    (λ cache k l. unused-keyed allowed bodies b level env body s (key_at u id cache) k l))
plain-unused scene allowed value texts bodies go level env (shape.If t e f) s c d h g b =
    ends-value (UsesNeither s) (truth_of value level env t c d) (λ holds. if holds then go level env e s else go level env f s)
    (λ holds i j. ends-choice (UsesNeither s) holds (go level env e s) (go level env f s) i j (g level env e s i j) (g level env f s i j))
plain-unused scene allowed value texts bodies go level env (shape.When t body) s c d h g b =
    ends-value (UsesNeither s) (truth_of value level env t c d) (λ holds. if holds then in_order go level env body s else opens_none (give s))
    (λ holds i j. ends-choice (UsesNeither s) holds (in_order go level env body s) (opens_none (give s)) i j
    (unused-in_order go g level env body s i j) (neither s s refl refl))
plain-unused scene allowed value texts bodies go level env (shape.Let bs body) s c d h g b =
    ends-value (UsesNeither s) (bind_each value level bs env c d) (λ inner. in_order go level inner body s)
    (λ inner i j. unused-in_order go g level inner body s i j)
plain-unused scene allowed value texts bodies go level env (shape.Dolist x t body) s c d h g b =
    ends-value (UsesNeither s) (parts_of_list value level env t c d) (λ ds. for_each go level env x body ds s)
    (λ ds i j. unused-for_each go g level env x body ds s i j)
plain-unused scene allowed value texts bodies go level env (shape.Progn body) s c d h g b = unused-in_order go g level env body s c d
plain-unused scene allowed value texts bodies go level env (shape.Call f ts) s c d h g b =
    ends-value (UsesNeither s) (each value level env ts [] c d) (λ ds. call_display go level (display_named f scene.app) ds s)
    (λ ds i j. unused-call go g level (display_named f scene.app) ds s i j)
plain-unused scene allowed value texts bodies go level env f s c d h g b = absurd h

-- ---- forms that use one

pub newline-uses : (scene : Scene) (allowed : Allowance) (value : Go) (texts : Texts) (bodies : Bodies) (go : Draws) (level : ℕ) (env : Env) (s : DrawingAt) (cost deepest : ℕ)
    → EndsWith (UsesMargin s) (shape_parts scene allowed value texts bodies go level env shape.Newline s cost deepest).outcome
newline-uses scene allowed value texts bodies go level env s c d = ends-lift (UsesMargin s) (newline s) c d (newline-used s)

pub figure-uses : (scene : Scene) (allowed : Allowance) (value : Go) (texts : Texts) (bodies : Bodies) (go : Draws) (level : ℕ) (env : Env) (figure : Figure) (ts : ExprTrees)
    (s : DrawingAt) (cost deepest : ℕ)
    → EndsWith (UsesOrigin s) (shape_parts scene allowed value texts bodies go level env (shape.Draw figure ts) s cost deepest).outcome
figure-uses scene allowed value texts bodies go level env figure ts s c d =
    ends-value (UsesOrigin s) (each value level env ts [] c d) (λ ds. opens_none (lift (draw_figure allowed.weight figure ds s)))
    (λ ds i j. ends-lift (UsesOrigin s) (draw_figure allowed.weight figure ds s) i j
    (figure-used allowed.weight (figure_parts figure ds) s))

ends-left : (P : DrawingAt → Type 0) (o : Outcome DrawingAt) (leave : DrawingAt → DrawingAt) → ((t : DrawingAt) → P (leave t))
    → EndsWith P (after o (λ t. run_of (opens_none (give (leave t)))))
ends-left P (Gives t c d) leave h = h t
ends-left P (Traps k c d) leave h = tt

pub room-uses : (scene : Scene) (allowed : Allowance) (value : Go) (texts : Texts) (bodies : Bodies) (go : Draws) (level : ℕ) (env : Env) (body : ShapeTrees) (s : DrawingAt)
    (cost deepest : ℕ)
    → EndsWith (UsesMargin s) (shape_parts scene allowed value texts bodies go level env (shape.Room body) s cost deepest).outcome
room-uses scene allowed value texts bodies go level env body s c d =
    ends-left (UsesMargin s) (in_order go level env body (enter_room s) c d).outcome (leave_room s.ambient s.part)
    (λ t. record { margin = refl; origin = refl })

-- what is used stays used
margin-stays : (most : ℕ) (holds : Member) (s : DrawingAt) (o : Outcome DrawingAt) → AddsOut most holds s o → HasUsedMargin s → EndsWith HasUsedMargin o
margin-stays most holds s (Gives t c d) p h = p.part.margin h
margin-stays most holds s (Traps k c d) p h = tt

pub indent-uses : (left : ℕ) (allowed : Allowance) (scene : Scene) (value : Go) (texts : Texts) (bodies : Bodies) (level : ℕ) (env : Env) (t : ExprTree)
    (body : ShapeTrees) (s : DrawingAt) (cost deepest : ℕ)
    → EndsWith HasUsedMargin (shape_parts scene allowed value texts bodies (draws left allowed scene) level env (shape.Indent t body) s cost
    deepest).outcome
indent-uses left allowed scene value texts bodies level env t body s c d =
    let go = draws left allowed scene in
    ends-value HasUsedMargin (value level env t c d) (λ v. within go level env body (indent v s) (restore_margin s.ambient))
    (λ v i j. ends-set (UsesMargin s) HasUsedMargin (indent v s) i j (draws_to go level env body (restore_margin s.ambient))
    (indent-used s v)
    (λ u p. ends-behind HasUsedMargin HasUsedMargin (in_order go level env body u i j).outcome
    (λ end. opens_none (give (restore_margin s.ambient end)))
    (margin-stays allowed.weight scene.types.holds u (in_order go level env body u i j).outcome
    (adds-in_order allowed.weight scene.types.holds go (adds-draws allowed.weight scene.types.holds left allowed.budget scene refl) level env body u i j) p.margin)
    (λ end q k l. q)))

-- forms inside that use no origin leave it unused
pub indent-alone : (scene : Scene) (allowed : Allowance) (value : Go) (texts : Texts) (bodies : Bodies) (go : Draws) (level : ℕ) (env : Env) (t : ExprTree) (body : ShapeTrees)
    (s : DrawingAt) (cost deepest : ℕ)
    → NoneUses go → EndsWith (UsesMargin s) (shape_parts scene allowed value texts bodies go level env (shape.Indent t body) s cost deepest).outcome
indent-alone scene allowed value texts bodies go level env t body s c d g =
    ends-value (UsesMargin s) (value level env t c d) (λ v. within go level env body (indent v s) (restore_margin s.ambient))
    (λ v i j. ends-set (UsesMargin s) (UsesMargin s) (indent v s) i j (draws_to go level env body (restore_margin s.ambient))
    (indent-used s v)
    (λ u p. ends-behind (UsesNeither u) (UsesMargin s) (in_order go level env body u i j).outcome
    (λ end. opens_none (give (restore_margin s.ambient end)))
    (unused-in_order go g level env body u i j)
    (λ end q k l. record { margin = q.margin ∙ p.margin; origin = q.origin ∙ p.origin })))
