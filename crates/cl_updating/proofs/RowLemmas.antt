-- Rows of display forms that are drawn over old records.
use Rattle.std.proofs.Common.{◌≡◌, ◌∙◌, ap, subst, sym, refl, ℕ, ◌+◌, Bool, true, false, if◌then◌else◌, inl, inr, List, [], ◌∷◌, drop, zero, suc, Result, Ok, Err, arith}
use Rattle.cl_value.specs.Data.{Data}
use Rattle.cl_syntax.specs.ShapeTree.{ShapeTree, ShapeTrees, none, form, shape_trees_of}
use Rattle.cl_syntax.specs.TypeSpecTree.{TypeSpecTree}
use Rattle.cl_syntax.specs.declared.display_forms.Shape.{Shape}
use Rattle.cl_application.specs.declared.applications.App.{App}
use Rattle.cl_eval.specs.Agrees.{Comes, always, itself}
use Rattle.cl_eval.specs.Outcome.{Gives, Outcome, Traps, give, lift, trap}
use Rattle.cl_eval.specs.Slots.{Env}
use Rattle.cl_medium.specs.Ambients.{AmbientAt}
use Rattle.cl_record.specs.Labels.{LabelAt}
use Rattle.cl_eval.specs.Statements.{Member}
use Rattle.cl_eval.specs.declared.metering.Meter.{Meter}
use Rattle.cl_eval.specs.declared.metering.Stop.{Stop}
use Rattle.cl_eval.specs.declared.metering.Stop.TheVariants.{Trap, Memory}
use Rattle.cl_display.specs.Drawings.{DrawingAt, PartAt}
use Rattle.cl_display.specs.Settings.{leave_room}
use Rattle.cl_display.specs.Fresh.{Draws, draws_to, for_each, for_members, in_order, presents_text, within}
use Rattle.cl_display.specs.Outcomes.{Draw, DrawOutcome, opens_none, walk_after}
use Rattle.cl_display.specs.Presentations.{Texts, check_member, label_of, leave_presentation, present_text}
use Rattle.cl_display.specs.Walks.{done}
use Rattle.cl_reuse.specs.Sited.{AreOwn}
use Rattle.cl_updating.specs.Levels.{LevelAt}
use Rattle.cl_updating.specs.Redraws.{IsOwn, Redrawn, Redraws}
use Rattle.cl_updating.specs.Tallies.{KeptIn}
use Rattle.cl_updating.specs.declared.tallies.Tally.{Tally}
use Rattle.cl_updating.proofs.RedrawLemmas.{Goes, counts-none, goes-then, lift-on, redraws-give, redraws-then, stop-then}

-- ---- own forms

-- those behind some of them
pub own-drop : (app : App) (n : ℕ) (fs : List Shape) → AreOwn app (shape_trees_of fs) → AreOwn app (shape_trees_of (drop n fs))
own-drop app zero fs own = own
own-drop app (suc n) [] own = own
own-drop app (suc n) (f ∷ fs) own = own-drop app n fs (λ u h. own u (inr h))

-- the first of them
pub own-first : (app : App) (f : ShapeTree) (fs : ShapeTrees) → AreOwn app (form f fs) → IsOwn app f
own-first app f fs own u h = own u (inl h)

-- ---- presentations

-- a text that presents a value opens no update
alone-after : {A : Type 0} (o : Outcome A) (f : A → Draw) → ((x : A) (c d : ℕ) → (f x c d).walk ≡ done) → walk_after o f ≡ done
alone-after (Gives x c d) f h = h x c d
alone-after (Traps k c d) f h = refl

pub presented-alone : (holds : Member) (spec : TypeSpecTree) (v : Data) (most : ℕ) (text : Texts) (level : ℕ) (s : DrawingAt) (c d : ℕ)
    → (for_members holds spec v (presents_text most text level spec s v) c d).walk ≡ done
presented-alone holds spec v most text level s c d = alone (holds v spec)
  where
    alone : (b : Bool) → ((if b then presents_text most text level spec s v else opens_none (trap 1)) c d).walk ≡ done
    alone true = alone-after (text level spec v c d) (λ x. opens_none (lift (present_text most (label_of spec false v) s x))) (λ x i j. refl)
    alone false = refl

module _ (l : LevelAt) where
  -- a member is gone on with
  pub redraws-member : (holds : Member) (spec : TypeSpecTree) (v : Data) (k : Draw) (u : Unit {0}) (c d : ℕ) (r : Result (Unit {0}) Stop) (s : DrawingAt)
      (n : Meter) (a b : Tally) → Comes {A = Unit {0}} itself (Ok u) (check_member holds spec v) → Redraws l r s c n a b (k c d)
      → Redraws l r s c n a b (for_members holds spec v k c d)
  redraws-member holds spec v k u c d r s n a b p q = tested (holds v spec) p
    where
      tested : (b' : Bool) → ◌≡◌ {A = Result (Unit {0}) ℕ} (if b' then Ok tt else Err 1) (Ok u)
          → Redraws l r s c n a b ((if b' then k else opens_none (trap 1)) c d)
      tested true e = q
      tested false e = cc

  -- what is no member ends the form
  pub stop-member : (holds : Member) (spec : TypeSpecTree) (v : Data) (k : Draw) (x : Stop) (n : Meter) (s : DrawingAt) (a : Tally)
      → Comes {A = Unit {0}} itself (Err x) (check_member holds spec v) → Redraws l (Err x) s n.cost n a a (for_members holds spec v k n.cost n.deepest)
  stop-member holds spec v k (Trap kind) n s a p = tested (holds v spec) p
    where
      kind_in : Result (Unit {0}) ℕ → ℕ
      kind_in (Ok u) = 1
      kind_in (Err e) = e

      tested : (b : Bool) → ◌≡◌ {A = Result (Unit {0}) ℕ} (if b then Ok tt else Err 1) (Err kind)
          → Redraws l (Err (Trap kind)) s n.cost n a a ((if b then k else opens_none (trap 1)) n.cost n.deepest)
      tested true e = cc
      tested false e = (ap (λ (q : Result (Unit {0}) ℕ). Traps (kind_in q) n.cost n.deepest) e, counts-none n.cost a)
  stop-member holds spec v k Memory n s a p = tt

  -- one of two, by a test
  pub redraws-true : (b : Bool) (k j : Draw) (c d : ℕ) (r : Result (Unit {0}) Stop) (s : DrawingAt) (n : Meter) (x y : Tally) → b ≡ true
      → Redraws l r s c n x y (k c d) → Redraws l r s c n x y ((if b then k else j) c d)
  redraws-true b k j c d r s n x y e q = rw e q

  pub redraws-false : (b : Bool) (k j : Draw) (c d : ℕ) (r : Result (Unit {0}) Stop) (s : DrawingAt) (n : Meter) (x y : Tally) → b ≡ false
      → Redraws l r s c n x y (j c d) → Redraws l r s c n x y ((if b then k else j) c d)
  redraws-false b k j c d r s n x y e q = rw e q

  -- ---- forms in order

  -- an answer that is an error
  pub redraws-err : (r : Result (Unit {0}) Stop) (y x : Stop) (s : DrawingAt) (c : ℕ) (n : Meter) (a b : Tally) (o : DrawOutcome) → r ≡ Err y → y ≡ x
      → Redraws l (Err x) s c n a b o → Redraws l r s c n a b o
  redraws-err r y x s c n a b o e f q =
      subst (λ (z : Result (Unit {0}) Stop). Redraws l z s c n a b o) (sym (e ∙ ap (λ (z : Stop). err-of z) f)) q
    where
      err-of : Stop → Result (Unit {0}) Stop
      err-of z = Err z

  module _ (go : Draws) (level : ℕ) (env : Env) where
    -- one of the forms stops them
    pub order-stop : (f : ShapeTree) (rest fs : ShapeTrees) (s t : DrawingAt) (x : Stop) (n : Meter) (c d : ℕ) (a b : Tally) (c0 : ℕ) (a0 : Tally)
        (o0 : DrawOutcome) → fs ≡ form f rest → Goes l c a (in_order go level env fs s c d) c0 a0 o0
        → Redraws l (Err x) t c n a b (go level env f s c d) → Redraws l (Err x) t c0 n a0 b o0
    order-stop f rest fs s t x n c d a b c0 a0 o0 e g q =
        let on : Goes l c a (in_order go level env (form f rest) s c d) c0 a0 o0 =
        subst (λ (gs : ShapeTrees). Goes l c a (in_order go level env gs s c d) c0 a0 o0) e g in
        on.on (Err x) t n b (stop-then l (go level env f s) (in_order go level env rest) t t x n c d a b q)

    pub order-next : (f : ShapeTree) (rest fs : ShapeTrees) (s t : DrawingAt) (n : Meter) (c d : ℕ) (a b : Tally) (c0 : ℕ) (a0 : Tally)
        (o0 : DrawOutcome) → fs ≡ form f rest → Goes l c a (in_order go level env fs s c d) c0 a0 o0
        → Redraws l (Ok tt) t c n a b (go level env f s c d)
        → Goes l n.cost b (in_order go level env rest t n.cost n.deepest) c0 a0 o0
    order-next f rest fs s t n c d a b c0 a0 o0 e g q =
        goes-then l (go level env f s) (in_order go level env rest) t n c d a b c0 a0 o0
        (subst (λ (gs : ShapeTrees). Goes l c a (in_order go level env gs s c d) c0 a0 o0) e g) q

    pub order-end : (fs : ShapeTrees) (s : DrawingAt) (n : Meter) (a : Tally) (c0 : ℕ) (a0 : Tally) (o0 : DrawOutcome) → fs ≡ none
        → Goes l n.cost a (in_order go level env fs s n.cost n.deepest) c0 a0 o0 → Redraws l (Ok tt) s c0 n a0 a o0
    order-end fs s n a c0 a0 o0 e g =
        let on : Goes l n.cost a (in_order go level env none s n.cost n.deepest) c0 a0 o0 =
        subst (λ (gs : ShapeTrees). Goes l n.cost a (in_order go level env gs s n.cost n.deepest) c0 a0 o0) e g in
        on.on (Ok tt) s n a (refl, counts-none n.cost a)

    -- the forms for one of the values stop all
    pub each-stop : (x : List ℕ) (body : ShapeTrees) (v : Data) (rest vs : List Data) (s t : DrawingAt) (y : Stop) (n : Meter) (c d : ℕ) (a b : Tally)
        (c0 : ℕ) (a0 : Tally) (o0 : DrawOutcome) → vs ≡ v ∷ rest → Goes l c a (for_each go level env x body vs s c d) c0 a0 o0
        → Redraws l (Err y) t c n a b (in_order go level ((x, v) ∷ env) body s c d) → Redraws l (Err y) t c0 n a0 b o0
    each-stop x body v rest vs s t y n c d a b c0 a0 o0 e g q =
        let on : Goes l c a (for_each go level env x body (v ∷ rest) s c d) c0 a0 o0 =
        subst (λ (ws : List Data). Goes l c a (for_each go level env x body ws s c d) c0 a0 o0) e g in
        on.on (Err y) t n b (stop-then l (in_order go level ((x, v) ∷ env) body s) (for_each go level env x body rest) t t y n c d a b q)

    pub each-next : (x : List ℕ) (body : ShapeTrees) (v : Data) (rest vs : List Data) (s t : DrawingAt) (n : Meter) (c d : ℕ) (a b : Tally)
        (c0 : ℕ) (a0 : Tally) (o0 : DrawOutcome) → vs ≡ v ∷ rest → Goes l c a (for_each go level env x body vs s c d) c0 a0 o0
        → Redraws l (Ok tt) t c n a b (in_order go level ((x, v) ∷ env) body s c d)
        → Goes l n.cost b (for_each go level env x body rest t n.cost n.deepest) c0 a0 o0
    each-next x body v rest vs s t n c d a b c0 a0 o0 e g q =
        goes-then l (in_order go level ((x, v) ∷ env) body s) (for_each go level env x body rest) t n c d a b c0 a0 o0
        (subst (λ (ws : List Data). Goes l c a (for_each go level env x body ws s c d) c0 a0 o0) e g) q

    pub each-end : (x : List ℕ) (body : ShapeTrees) (vs : List Data) (s : DrawingAt) (n : Meter) (a : Tally) (c0 : ℕ) (a0 : Tally) (o0 : DrawOutcome)
        → vs ≡ [] → Goes l n.cost a (for_each go level env x body vs s n.cost n.deepest) c0 a0 o0 → Redraws l (Ok tt) s c0 n a0 a o0
    each-end x body vs s n a c0 a0 o0 e g =
        let on : Goes l n.cost a (for_each go level env x body [] s n.cost n.deepest) c0 a0 o0 =
        subst (λ (ws : List Data). Goes l n.cost a (for_each go level env x body ws s n.cost n.deepest) c0 a0 o0) e g in
        on.on (Ok tt) s n a (refl, counts-none n.cost a)

    -- ---- forms behind which something is left

    module _ (body : ShapeTrees) (leave : DrawingAt → DrawingAt) where
      pub to-stop : (t s : DrawingAt) (x : Stop) (n : Meter) (c d : ℕ) (a b : Tally)
          → Redraws l (Err x) s c n a b (in_order go level env body t c d) → Redraws l (Err x) s c n a b (draws_to go level env body leave t c d)
      to-stop t s x n c d a b q = stop-then l (in_order go level env body t) (λ end. opens_none (give (leave end))) s s x n c d a b q

      pub to-end : (t u s : DrawingAt) (r : Result (Unit {0}) Stop) (n : Meter) (c d : ℕ) (a b : Tally)
          → Redraws l (Ok tt) u c n a b (in_order go level env body t c d) → Comes (always s) r (Ok (leave u))
          → Redraws l r s c n a b (draws_to go level env body leave t c d)
      to-end t u s r n c d a b q h =
          redraws-then l (in_order go level env body t) (λ end. opens_none (give (leave end))) u n c d r s n a b b q (redraws-give l (leave u) r s n b h)

      pub within-stop : (q : Result DrawingAt ℕ) (t s : DrawingAt) (x : Stop) (n : Meter) (c d : ℕ) (a b : Tally) → q ≡ Ok t
          → Redraws l (Err x) s c n a b (in_order go level env body t c d) → Redraws l (Err x) s c n a b (within go level env body q leave c d)
      within-stop q t s x n c d a b e h =
          subst (λ (o : DrawOutcome). Redraws l (Err x) s c n a b o) (sym (lift-on q (draws_to go level env body leave) t c d e))
          (to-stop t s x n c d a b h)

      pub within-end : (q : Result DrawingAt ℕ) (t u s : DrawingAt) (r : Result (Unit {0}) Stop) (n : Meter) (c d : ℕ) (a b : Tally) → q ≡ Ok t
          → Redraws l (Ok tt) u c n a b (in_order go level env body t c d) → Comes (always s) r (Ok (leave u))
          → Redraws l r s c n a b (within go level env body q leave c d)
      within-end q t u s r n c d a b e h k =
          subst (λ (o : DrawOutcome). Redraws l r s c n a b o) (sym (lift-on q (draws_to go level env body leave) t c d e))
          (to-end t u s r n c d a b h k)

-- ---- what is left

-- a room that is left
pub room-left : (s u : DrawingAt) (r : Result (Unit {0}) Stop) (x y : AmbientAt) (p q : PartAt) → x ≡ y → p ≡ q → Comes (always s) r (Ok (leave_room x p u))
    → Comes (always s) r (Ok (leave_room y q u))
room-left s u r x y p q e f h = subst (λ (o : Result DrawingAt ℕ). Comes (always s) r o) (λ i. Ok (leave_room (e i) (f i) u)) h

-- a presentation that is left
pub presentation-left : (s u : DrawingAt) (r : Result (Unit {0}) Stop) (x y : LabelAt) (p q : PartAt) → x ≡ y → p ≡ q
    → Comes (always s) r (Ok (leave_presentation x p u)) → Comes (always s) r (Ok (leave_presentation y q u))
presentation-left s u r x y p q e f h = subst (λ (o : Result DrawingAt ℕ). Comes (always s) r o) (λ i. Ok (leave_presentation (e i) (f i) u)) h

-- the part of a list behind a place
pub drop-next : {A : Type 0} (xs : List A) (at : ℕ) (x : A) → drop at xs ≡ x ∷ drop (suc at) xs → drop at xs ≡ x ∷ drop (at + 1) xs
drop-next xs at x e = e ∙ ap (λ (n : ℕ). x ∷ drop n xs) (one-more at)
  where
    one-more : (n : ℕ) → suc n ≡ n + 1
    one-more n = omega arith

-- a trap is what the outcome is
pub trap-agrees : (k : KeptIn) (x : Stop) (kind : ℕ) (s : DrawingAt) (c : ℕ) (n : Meter) (a b : Tally) (o : Outcome DrawingAt) → x ≡ Trap kind
    → Redrawn k (Err x) s c n a b o → o ≡ Traps kind n.cost n.deepest
trap-agrees k x kind s c n a b o e q = (subst (λ (y : Stop). Redrawn k (Err y) s c n a b o) e q).0
