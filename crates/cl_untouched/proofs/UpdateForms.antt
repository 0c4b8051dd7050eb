-- Updates that a display opens over old records: kept, or drawn anew.
use Rattle.std.proofs.Common.{◌≡◌, ◌∙◌, ap, sym, subst, refl, ℕ, ◌+◌, ◌-◌, pos, ◌+ℤ◌, Bool, true, false, if◌then◌else◌, nat_le, List, [], ◌∷◌, ◌++◌}
use Rattle.std.proofs.Common.{append-nil, Option, Some, None, Ok, Err, arith}
use Rattle.std.specs.Prelude.{IfSome, ◌-ℤ◌, int_le, ℤ}
use Rattle.std.proofs.lemmas.Int.{ints}
use Rattle.cl_value.specs.Data.{Data}
use Rattle.cl_region.specs.declared.rects.Shift.{Shift}
use Rattle.cl_region.proofs.Corners.{and_left, and_right}
use Rattle.cl_syntax.specs.ShapeTree.{ShapeTrees}
use Rattle.cl_syntax.specs.declared.sites.Site.{Site}
use Rattle.cl_application.specs.declared.applications.App.{App}
use Rattle.cl_eval.specs.Outcome.{Gives, Outcome, Traps}
use Rattle.cl_eval.specs.Slots.{Env, Slots}
use Rattle.cl_eval.specs.TypeMeanings.{TypeMeanings}
use Rattle.cl_eval.proofs.LimitLemmas.{no_value}
use Rattle.cl_medium.specs.ItemLaws.{item_moves_twice, item_stays}
use Rattle.cl_medium.specs.Items.{Item, move_item}
use Rattle.cl_record.specs.Heads.{HeadAt}
use Rattle.cl_record.specs.Marks.{Mark, close, history_marks, marks_of_all, move_marks, open_update}
use Rattle.cl_record.specs.Replays.{items_drawn}
use Rattle.cl_record.specs.Shifts.{still}
use Rattle.cl_record.specs.Trees.{Tree, Trees, trees_of, update}
use Rattle.cl_record.specs.Trees as records
use Rattle.cl_record.proofs.Moves.{all-still}
use Rattle.cl_display.specs.Drawings.{DrawingAt}
use Rattle.cl_display.specs.Fresh.{Allowance, bodies_on, draws_body, draws_keyed, left_over}
use Rattle.cl_display.specs.Outcomes.{DrawOutcome}
use Rattle.cl_display.specs.Siblings.{is_taken, note}
use Rattle.cl_display.specs.Updates.{KeyAt, end_update, enter_body, enter_update, head_at, key_weight, opening_at}
use Rattle.cl_display.specs.Walks.{OpeningAt, Walk, done, met}
use Rattle.cl_reuse.specs.Keeping.{EndsAs, may_keep, shift_at}
use Rattle.cl_reuse.specs.Kept.{OldUpdate, found}
use Rattle.cl_reuse.specs.Once.{AreOnce, HoldOnce, names}
use Rattle.cl_reuse.specs.ReadValues.{scene_on}
use Rattle.cl_reuse.specs.Recorded.{AreFaithful}
use Rattle.cl_reuse.proofs.PayForms.{Ends, FoundAs, found-among}
use Rattle.cl_damage.specs.Agreement.{Agree, Agrees, Each}
use Rattle.cl_damage.specs.Children.{Child, Children, child, children_before, item, items_in, list_of, none, updated}
use Rattle.cl_damage.specs.Touched.{is_still, is_zero}
use Rattle.cl_damage.proofs.ChildLemmas.{children-hold}
use Rattle.cl_damage.proofs.EachLemmas.{each_weaker}
use Rattle.cl_damage.specs.Keeps.{Keeps, opened}
use Rattle.cl_untouched.specs.Keeps.{at_opening, followed_by, keeps_of, moved_to}
use Rattle.cl_damage.specs.Keeps as keeps
use Rattle.cl_damage.specs.NewChildren.{new_children_before}
use Rattle.cl_untouched.proofs.FoundLemmas.{IsOnce, OldAs, old-all, once-among}
use Rattle.cl_untouched.proofs.KidLemmas.{followed-none, join-none}
use Rattle.cl_untouched.proofs.RowLemmas.{drawn, new-items}
use Rattle.cl_untouched.proofs.RunForms.{Renews, RunRenews, end_of, renews-none, renews-set, StepRenews, update-marks}

-- ---- a new update and an old child

module _ (site : Site) (id : Data) (kids : Children Item) where
  unlike-agrees : (v : Option Shift) (o : Child Item) → OldAs site id None o → Agrees (updated (site, id) v kids) o
  unlike-agrees None (item b) h = tt
  unlike-agrees (Some v) (item b) h = tt
  unlike-agrees None (updated other was us) h = λ e. absurd (h e)
  unlike-agrees (Some v) (updated other was us) h = λ e s. absurd (h e)

  anew-agrees : (u : OldUpdate) → Agree kids (list_of (children_before move_item u.place u.inside none)) → (o : Child Item)
      → OldAs site id (Some u) o → Agrees (updated (site, id) None kids) o
  anew-agrees u a (item b) h = tt
  anew-agrees u a (updated other was us) h = λ e. subst (λ (ks : Children Item). Agree kids (list_of ks)) (sym (h e)) a

  kept-agrees : (u : OldUpdate) (v : Shift) → (is_still v ≡ true → items_in (children_before move_item u.place u.inside none) ≡ items_in kids)
      → (o : Child Item) → OldAs site id (Some u) o → Agrees (updated (site, id) (Some v) kids) o
  kept-agrees u v f (item b) h = tt
  kept-agrees u v f (updated other was us) h = λ e s. ap (λ (ks : Children Item). items_in ks) (h e) ∙ f s

-- ---- one that is kept in place

zero-is : (z : ℤ) → is_zero z ≡ true → z ≡ pos 0
zero-is z h =
    let low = and_left (int_le z (pos 0)) (int_le (pos 0) z) h in
    let high = and_right (int_le z (pos 0)) (int_le (pos 0) z) h in
    grind (arith, ints, low, high)

way-is : (a s p : ℤ) → a -ℤ (s +ℤ p) ≡ pos 0 → a -ℤ s ≡ p
way-is a s p e = omega (arith, ints, e)

still-place : (u : OldUpdate) (o : OpeningAt) → is_still (moved_to u o) ≡ true → shift_at u.head o ≡ u.place
still-place u o h =
    let x = way-is o.ambient.x u.head.measures.start.x u.place.dx (zero-is (moved_to u o).dx (and_left (is_zero (moved_to u o).dx) (is_zero (moved_to u o).dy) h)) in
    let y = way-is o.ambient.y u.head.measures.start.y u.place.dy (zero-is (moved_to u o).dy (and_right (is_zero (moved_to u o).dx) (is_zero (moved_to u o).dy) h)) in
    λ i. record { dx = x i; dy = y i }

-- the drawing at an end is told by the outcome
same-marks : (s t u : DrawingAt) (n l i j : ℕ) → Gives t n l ≡ Gives u i j → t.part.marks ≡ u.part.marks
same-marks s t u n l i j p = ap (λ (o : Outcome DrawingAt). (end_of s o).part.marks) p

-- the children of one that is kept in place hold what its old records hold
still-items : (u : OldUpdate) (o : OpeningAt) (own : List (Tree Item)) (marks : List (Mark Item)) → marks ≡ history_marks move_item own
    → marks ≡ move_marks move_item (shift_at u.head o) (marks_of_all move_item u.inside) → is_still (moved_to u o) ≡ true
    → items_in (children_before move_item u.place u.inside none) ≡ items_in (new_children_before move_item still (trees_of own) keeps.none (λ _. none))
still-items u o own marks e f h =
    let new = new-items still (trees_of own) keeps.none (λ _. none) [] (λ _. refl) in
    let all = history_marks move_item own in
    let there : move_marks move_item still all ≡ all = all-still move_item item_stays all in
    let same : move_marks move_item u.place (marks_of_all move_item u.inside) ≡ move_marks move_item still all =
    ap (λ (p : Shift). move_marks move_item p (marks_of_all move_item u.inside)) (sym (still-place u o h)) ∙ (sym f ∙ (e ∙ sym there)) in
    children-hold move_item item_moves_twice u.place u.inside
    ∙ (ap (λ (ms : List (Mark Item)). items_drawn ms) same ∙ (sym (append-nil (drawn still all)) ∙ sym new))

-- ---- updates

module _ (app : App) (types : TypeMeanings) where
  -- a body renews over all faithful records in which no level has a name twice
  abbrev pub BodyRenews : DrawOutcome → Type 0
  BodyRenews b = (at : Shift) (old : Trees Item) → AreFaithful app types old → AreOnce (names old) × HoldOnce old → (t : DrawingAt) (n l : ℕ)
      → b.outcome ≡ Gives t n l → Renews at old [] t.part.marks b.walk

  module _ (at : Shift) (old : Trees Item) (once : AreOnce (names old)) (head : HeadAt) (o : OpeningAt) (outer : List (Mark Item)) where
    -- an update with what it keeps
    renewed : (w : Walk) (v : Option Shift) (inside : Keeps) (own : List (Tree Item)) (kids : Children Item) (inner : List (Mark Item))
        → keeps_of at old (met o w done) ≡ opened v inside keeps.none
        → new_children_before move_item still (trees_of own) inside (λ _. none) ≡ kids → inner ≡ history_marks move_item own
        → Each (Agrees (updated (head.site, head.id) v kids)) (list_of (children_before move_item at old none))
        → Renews at old outer (outer ++ (open_update head ∷ (inner ++ close ∷ []))) (met o w done)
    renewed w v inside own kids inner e f g a = record {
      own = update head still (trees_of own) ∷ [];
      behind = ap (λ (ms : List (Mark Item)). outer ++ ms) (update-marks head own inner g);
      kids = child (updated (head.site, head.id) v kids) none;
      taken = λ ks rest.
          ap (λ (js : Keeps). new_children_before move_item still (trees_of (update head still (trees_of own) ∷ [])) (followed_by js ks) rest) e
          ∙ (λ i. child (updated (head.site, head.id) v (f i)) (rest ks));
      agree = (a, tt);
    }

    -- the children of a body are those that it takes
    kids-taken : (there : Shift) (olds : Trees Item) (inner : List (Mark Item)) (w : Walk) (p : Renews there olds [] inner w)
        → new_children_before move_item still (trees_of p.own) (keeps_of there olds w) (λ _. none) ≡ p.kids
    kids-taken there olds inner w p =
        ap (λ (ks : Keeps). new_children_before move_item still (trees_of p.own) ks (λ _. none)) (sym (followed-none (keeps_of there olds w)))
        ∙ (p.taken keeps.none (λ _. none) ∙ join-none p.kids)

    module _ (b : DrawOutcome) (body : BodyRenews b) (t : DrawingAt) (n l : ℕ) (q : b.outcome ≡ Gives t n l) where
      -- the update at its end
      abbrev Ended : Type 0
      Ended = Renews at old outer (outer ++ (open_update head ∷ (t.part.marks ++ close ∷ []))) (met o b.walk done)

      -- what is kept inside
      abbrev within : Shift → Trees Item → Keeps
      within there olds = keeps_of there olds b.walk

      new-ended : at_opening (found o.site o.id at old) o within keeps.none ≡ opened None (within still records.none) keeps.none
          → Each (OldAs head.site head.id None) (list_of (children_before move_item at old none)) → Ended
      new-ended e each =
          let p = body still records.none tt (tt, tt) t n l q in
          renewed b.walk None (within still records.none) p.own p.kids t.part.marks e (kids-taken still records.none t.part.marks b.walk p) p.behind
          (each_weaker (OldAs head.site head.id None) (Agrees (updated (head.site, head.id) None p.kids)) (unlike-agrees head.site head.id p.kids None)
          (list_of (children_before move_item at old none)) each)

      kept-ended : (u : OldUpdate) → at_opening (found o.site o.id at old) o within keeps.none ≡ opened (Some (moved_to u o)) keeps.none keeps.none
          → EndsAs u.head (marks_of_all move_item u.inside) (shift_at u.head o) o.ambient b.outcome
          → Each (OldAs head.site head.id (Some u)) (list_of (children_before move_item at old none)) → Ended
      kept-ended u e ends each =
          let p = body still records.none tt (tt, tt) t n l q in
          let kids = new_children_before move_item still (trees_of p.own) keeps.none (λ _. none) in
          let marks : t.part.marks ≡ move_marks move_item (shift_at u.head o) (marks_of_all move_item u.inside) =
          same-marks t t ends.end n l u.head.measures.cost u.head.measures.reach (sym q ∙ ends.is) ∙ ap (λ x. x.marks) ends.part in
          renewed b.walk (Some (moved_to u o)) keeps.none p.own kids t.part.marks e refl p.behind
          (each_weaker (OldAs head.site head.id (Some u)) (Agrees (updated (head.site, head.id) (Some (moved_to u o)) kids))
          (kept-agrees head.site head.id kids u (moved_to u o) (still-items u o p.own t.part.marks p.behind marks))
          (list_of (children_before move_item at old none)) each)

      anew-ended : (u : OldUpdate) → AreFaithful app types u.inside → AreOnce (names u.inside) × HoldOnce u.inside
          → at_opening (found o.site o.id at old) o within keeps.none ≡ opened None (within u.place u.inside) keeps.none
          → Each (OldAs head.site head.id (Some u)) (list_of (children_before move_item at old none)) → Ended
      anew-ended u f one e each =
          let p = body u.place u.inside f one t n l q in
          renewed b.walk None (within u.place u.inside) p.own p.kids t.part.marks e (kids-taken u.place u.inside t.part.marks b.walk p) p.behind
          (each_weaker (OldAs head.site head.id (Some u)) (Agrees (updated (head.site, head.id) None p.kids)) (anew-agrees head.site head.id p.kids u p.agree)
          (list_of (children_before move_item at old none)) each)

      found-ended : (u : OldUpdate) (keep : Bool) → may_keep u.head o ≡ keep → found o.site o.id at old ≡ Some u
          → FoundAs app types o.site u → AreOnce (names u.inside) × HoldOnce u.inside
          → (may_keep u.head o ≡ true → EndsAs u.head (marks_of_all move_item u.inside) (shift_at u.head o) o.ambient b.outcome)
          → Each (OldAs head.site head.id (Some u)) (list_of (children_before move_item at old none)) → Ended
      found-ended u true k e f one ends each =
          kept-ended u (ap (λ (x : Option OldUpdate). at_opening x o within keeps.none) e
          ∙ ap (λ (x : Bool). if x then opened (Some (moved_to u o)) keeps.none keeps.none else opened None (within u.place u.inside) keeps.none) k)
          (ends k) each
      found-ended u false k e f one ends each =
          anew-ended u f.inside one (ap (λ (x : Option OldUpdate). at_opening x o within keeps.none) e
          ∙ ap (λ (x : Bool). if x then opened (Some (moved_to u o)) keeps.none keeps.none else opened None (within u.place u.inside) keeps.none) k)
          each

      update-ended : (f : Option OldUpdate) → found o.site o.id at old ≡ f → IfSome f (FoundAs app types o.site) → IfSome f (IsOnce head.site head.id)
          → ((u : OldUpdate) → FoundAs app types o.site u → may_keep u.head o ≡ true
          → EndsAs u.head (marks_of_all move_item u.inside) (shift_at u.head o) o.ambient b.outcome)
          → Each (OldAs head.site head.id f) (list_of (children_before move_item at old none)) → Ended
      update-ended None e g one ends each = new-ended (ap (λ (x : Option OldUpdate). at_opening x o within keeps.none) e) each
      update-ended (Some u) e g one ends each = found-ended u (may_keep u.head o) refl e g one (ends u g) each

  entered-same : (at : Shift) (old : Trees Item) (key : KeyAt) (s : DrawingAt) (taken fits : Bool)
      → StepRenews at old s (if taken then Err 8 else (if fits
      then Ok (record s { weight = s.weight + key_weight key; siblings = note key.site key.id s.siblings }) else Err 10))
  entered-same at old key s true fits = tt
  entered-same at old key s false true = renews-none at old s.part.marks s.part.marks refl
  entered-same at old key s false false = tt

  opening-same : (at : Shift) (old : Trees Item) (most : ℕ) (key : KeyAt) (s : DrawingAt) → StepRenews at old s (enter_update most key s)
  opening-same at old most key s = entered-same at old key s (is_taken key.site key.id s.siblings) (nat_le (s.weight + key_weight key) most)

  module _ (slots : Slots) (allowed : Allowance) (left level : ℕ) (env : Env) (body : ShapeTrees) (key : KeyAt) (ends : Ends app slots types env body key)
      (inner : (within : Allowance) (s : DrawingAt) → s.part.marks ≡ [] → BodyRenews ((bodies_on left (scene_on app slots types)).draw within env body s))
      (at : Shift) (old : Trees Item) (f : AreFaithful app types old) (once : AreOnce (names old) × HoldOnce old) where
    ended-renews : (s : DrawingAt) (w : Walk) (o : Outcome DrawingAt)
        → ((t : DrawingAt) (n l : ℕ) → o ≡ Gives t n l
        → Renews at old s.part.marks (s.part.marks ++ (open_update (head_at key s.ambient t n l) ∷ (t.part.marks ++ close ∷ []))) w) → (c d : ℕ)
        → (t : DrawingAt) (n l : ℕ) → end_update key level s o c d ≡ Gives t n l → Renews at old s.part.marks t.part.marks w
    ended-renews s w (Gives u i r) h c d t n l p =
        subst (λ (x : DrawingAt). Renews at old s.part.marks x.part.marks w) (ap (end_of s) p) (h u i r refl)
    ended-renews s w (Traps k i r) h c d t n l p = absurd (no_value k (c + i) d t n l p)

    renews-body : (s : DrawingAt) → RunRenews at old s (draws_body allowed (bodies_on left (scene_on app slots types)) level env body key s)
    renews-body s c d =
        let o = opening_at key s (allowed.budget - c) (allowed.weight - s.weight) left in
        let b = (bodies_on left (scene_on app slots types)).draw (left_over allowed c s.weight) env body (enter_body s) in
        ended-renews s (met o b.walk done) b.outcome
        (λ t n l q. update-ended at old once.0 (head_at key s.ambient t n l) o s.part.marks b (inner (left_over allowed c s.weight) (enter_body s) refl) t n l q
        (found key.site key.id at old) refl (found-among app types key.site key.id at old f) (once-among key.site key.id at old once.1)
        (λ u g keep. ends u.head o refl g.same u.inside g.recorded keep) (old-all key.site key.id at old once.0)) c d

    pub renews-keyed : (s : DrawingAt) → RunRenews at old s (draws_keyed allowed (bodies_on left (scene_on app slots types)) level env body s key)
    renews-keyed s =
        renews-set at old s (enter_update allowed.weight key s) (draws_body allowed (bodies_on left (scene_on app slots types)) level env body key)
        (opening-same at old allowed.weight key s) renews-body
