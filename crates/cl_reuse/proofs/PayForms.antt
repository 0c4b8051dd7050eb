-- What is kept of faithful records costs no more than what is drawn: over all display forms.
use Rattle.std.proofs.Common.{◌≡◌, ◌∙◌, ap, sym, subst, refl, ℕ, ◌+◌, ◌-◌, ◌≤◌, ◌==◌, Bool, true, false, if◌then◌else◌, inl, List, [], ◌∷◌, ◌++◌}
use Rattle.std.proofs.Common.{append-nil, Option, Some, None, arith}
use Rattle.std.specs.Prelude.{IfSome}
use Rattle.std.specs.Ordering.{is_eq}
use Rattle.std.proofs.lemmas.Bool.Decides.{nat_tests}
use Rattle.cl_value.specs.Data.{Data, order_of}
use Rattle.cl_region.specs.declared.rects.Shift.{Shift}
use Rattle.cl_region.proofs.Corners.{and_left, and_right}
use Rattle.cl_syntax.specs.ExprTree.{ExprTrees}
use Rattle.cl_syntax.specs.ShapeTree as shape
use Rattle.cl_syntax.specs.ShapeTree.{ShapeTree, ShapeTrees, none, form, shape_trees_of}
use Rattle.cl_syntax.specs.UpdateTree.{UpdateTree}
use Rattle.cl_syntax.specs.declared.sites.Site.{Site}
use Rattle.cl_application.specs.declared.applications.App.{App}
use Rattle.cl_cover.specs.Updates.{AreCovered}
use Rattle.cl_eval.specs.Outcome.{Gives, Outcome, Traps, cost_of, lift}
use Rattle.cl_eval.specs.Slots.{Env, Slots}
use Rattle.cl_eval.specs.TypeMeanings.{AreTexts, TypeMeanings}
use Rattle.cl_eval.proofs.CostLemmas.{grows-lift}
use Rattle.cl_medium.specs.Items.{Item, move_item}
use Rattle.cl_record.specs.Heads.{HeadAt}
use Rattle.cl_record.specs.Marks.{marks_of_all}
use Rattle.cl_record.specs.Shifts.{join_shifts, still}
use Rattle.cl_record.specs.Trees.{Tree, Trees, leaf, presentation, tree, update}
use Rattle.cl_record.specs.Trees as records
use Rattle.cl_display.specs.Drawings.{DrawingAt}
use Rattle.cl_display.specs.Fresh.{Allowance, Scene, bodies_on, draws_body, draws_keyed}
use Rattle.cl_display.specs.Fresh.{left_over}
use Rattle.cl_display.specs.Outcomes.{DrawOutcome}
use Rattle.cl_display.specs.Siblings.{same_site}
use Rattle.cl_display.specs.Updates.{KeyAt, end_update, enter_body, enter_update, key_at, opening_at}
use Rattle.cl_display.specs.Walks.{OpeningAt}
use Rattle.cl_reuse.specs.Bodies.{body_from}
use Rattle.cl_reuse.specs.Keeping.{EndsAs, may_keep, measures_fit, same_cache, shift_at}
use Rattle.cl_reuse.specs.Kept.{OldUpdate, costs, found, found_in, is_that, kept_at, kept_here, kept_of, or_then}
use Rattle.cl_reuse.specs.ReadValues.{SeesReads, scene_on}
use Rattle.cl_reuse.specs.Recorded.{AreFaithful, IsFaithful, IsRecorded}
use Rattle.cl_reuse.specs.Sited.{AreApart, Has, HoldCache, IsUpdateOf, Sited}
use Rattle.cl_reuse.proofs.KeepLemmas.{kept-as-recorded}
use Rattle.cl_reuse.proofs.PayLemmas.{Pays, PaysFor, pays-value}

-- ---- what is found in faithful records

pub site-same : (a b : Site) → same_site a b ≡ true → a ≡ b
site-same a b h =
    let forms : a.form ≡ b.form = grind (arith, nat_tests, and_left (a.form == b.form) (a.query == b.query) h) in
    let queries : a.query ≡ b.query = grind (arith, nat_tests, and_right (a.form == b.form) (a.query == b.query) h) in
    λ i. record { form = forms i; query = queries i }

-- an old update of this site that is recorded, and holds faithful records
pub record FoundAs (app : App) (types : TypeMeanings) (site : Site) (old : OldUpdate) : Type 0 where
  pub recorded : IfSome old.head.cache (IsRecorded app types old.head (marks_of_all move_item old.inside))
  pub inside : AreFaithful app types old.inside
  pub same : site ≡ old.head.site

module _ (app : App) (types : TypeMeanings) (site : Site) (id : Data) where
  either-found : (a b : Option OldUpdate) → IfSome a (FoundAs app types site) → IfSome b (FoundAs app types site)
      → IfSome (or_then a b) (FoundAs app types site)
  either-found None b h k = k
  either-found (Some u) b h k = h

  one-found : (h : HeadAt) (p : Shift) (ts : Trees Item) (b : Bool) → is_that site id h ≡ b → IsFaithful app types (update h p ts) → (place : Shift)
      → IfSome (if b then Some (record { head = h; place = place; inside = ts }) else None) (FoundAs app types site)
  one-found h p ts true e f place =
      record { recorded = f.0; inside = f.1; same = site-same site h.site (and_left (same_site site h.site) (is_eq (order_of id h.id)) e) }
  one-found h p ts false e f place = tt

  mutual
    found-in : (at : Shift) (t : Tree Item) → IsFaithful app types t → IfSome (found_in site id at t) (FoundAs app types site)
    found-in at (leaf a) f = tt
    found-in at (presentation l p ts) f = found-among (join_shifts p at) ts f
    found-in at (update h p ts) f = one-found h p ts (is_that site id h) refl f (join_shifts p at)

    pub found-among : (at : Shift) (ts : Trees Item) → AreFaithful app types ts → IfSome (found site id at ts) (FoundAs app types site)
    found-among at records.none f = tt
    found-among at (tree t ts) f = either-found (found_in site id at t) (found site id at ts) (found-in at t f.0) (found-among at ts f.1)

-- ---- updates

ended-cost : (key : KeyAt) (level : ℕ) (s : DrawingAt) (o : Outcome DrawingAt) (c d : ℕ) → cost_of (end_update key level s o c d) ≡ c + cost_of o
ended-cost key level s (Gives t n r) c d = refl
ended-cost key level s (Traps k n r) c d = refl

pub no-cache : (old : Option (List Data)) → same_cache old None ≡ true → ⊥
no-cache None h = cc
no-cache (Some ds) h = cc

module _ (app : App) (slots : Slots) (types : TypeMeanings) where
  -- what is drawn
  abbrev pub scene : Scene
  scene = scene_on app slots types

  -- where an old update may be kept at an opening with this key, the body that is drawn there costs what the update says
  abbrev pub Keeps : Env → ShapeTrees → KeyAt → Type 0
  Keeps env body key = (h : HeadAt) (o : OpeningAt) → o.cache ≡ key.cache → key.site ≡ h.site → (ts : Trees Item)
      → IfSome h.cache (IsRecorded app types h (marks_of_all move_item ts)) → may_keep h o ≡ true
      → cost_of (body_from o.depth (record { budget = o.budget; weight = o.weight }) scene env body o.ambient).outcome ≡ h.measures.cost

  -- the same, and it ends as the update says of itself
  abbrev pub Ends : Env → ShapeTrees → KeyAt → Type 0
  Ends env body key = (h : HeadAt) (o : OpeningAt) → o.cache ≡ key.cache → key.site ≡ h.site → (ts : Trees Item)
      → IfSome h.cache (IsRecorded app types h (marks_of_all move_item ts)) → may_keep h o ≡ true
      → EndsAs h (marks_of_all move_item ts) (shift_at h o) o.ambient
      (body_from o.depth (record { budget = o.budget; weight = o.weight }) scene env body o.ambient).outcome

  -- a body pays over all faithful records
  abbrev pub BodyPays : DrawOutcome → Type 0
  BodyPays b = (at : Shift) (old : Trees Item) → AreFaithful app types old → PaysFor at old 0 b

  pays-kept : (o : OpeningAt) (old : OldUpdate) (b : DrawOutcome) (keep : Bool) → may_keep old.head o ≡ keep → FoundAs app types o.site old → BodyPays b
      → (may_keep old.head o ≡ true → cost_of b.outcome ≡ old.head.measures.cost)
      → costs (if keep then kept_here old o ∷ [] else kept_of old.place old.inside b.walk) ≤ cost_of b.outcome
  pays-kept o old b true e f pays keeps = omega (arith, keeps e)
  pays-kept o old b false e f pays keeps = omega (arith, pays old.place old.inside f.inside)

  pays-found : (o : OpeningAt) (u : Option OldUpdate) (b : DrawOutcome) → IfSome u (FoundAs app types o.site) → BodyPays b
      → ((old : OldUpdate) → FoundAs app types o.site old → may_keep old.head o ≡ true → cost_of b.outcome ≡ old.head.measures.cost)
      → costs (kept_at u o (λ there olds. kept_of there olds b.walk) ++ []) ≤ cost_of b.outcome
  pays-found o None b f pays keeps =
      let inside = pays still records.none tt in
      rw (append-nil (kept_of still records.none b.walk)) (omega (arith, inside))
  pays-found o (Some old) b f pays keeps =
      rw (append-nil (kept_at (Some old) o (λ there olds. kept_of there olds b.walk))) (pays-kept o old b (may_keep old.head o) refl f pays (keeps old f))

  pays-body : (allowed : Allowance) (left level : ℕ) (env : Env) (body : ShapeTrees) (key : KeyAt) → Keeps env body key
      → ((inner : Allowance) (s : DrawingAt) → BodyPays ((bodies_on left scene).draw inner env body s))
      → (s : DrawingAt) (at : Shift) (old : Trees Item) → AreFaithful app types old
      → Pays at old (draws_body allowed (bodies_on left scene) level env body key s)
  pays-body allowed left level env body key keeps pays s at old f c d =
      let o = opening_at key s (allowed.budget - c) (allowed.weight - s.weight) left in
      let b = (bodies_on left scene).draw (left_over allowed c s.weight) env body (enter_body s) in
      let inside : costs (kept_at (found key.site key.id at old) o (λ there olds. kept_of there olds b.walk) ++ []) ≤ cost_of b.outcome =
      pays-found o (found key.site key.id at old) b (found-among app types key.site key.id at old f) (pays (left_over allowed c s.weight) (enter_body s))
      (λ u g keep. keeps u.head o refl g.same u.inside g.recorded keep) in
      omega (arith, inside, ended-cost key level s b.outcome c d)

  pub pays-keyed : (allowed : Allowance) (left level : ℕ) (env : Env) (body : ShapeTrees) (key : KeyAt) → Keeps env body key
      → ((inner : Allowance) (s : DrawingAt) → BodyPays ((bodies_on left scene).draw inner env body s))
      → (s : DrawingAt) (at : Shift) (old : Trees Item) → AreFaithful app types old
      → Pays at old (draws_keyed allowed (bodies_on left scene) level env body s key)
  pays-keyed allowed left level env body key keeps pays s at old f =
      pays-value at old (lift (enter_update allowed.weight key s)) (draws_body allowed (bodies_on left scene) level env body key)
      (grows-lift (enter_update allowed.weight key s)) (λ t. pays-body allowed left level env body key keeps pays t at old f)

  module _ (texts : AreTexts app types.presents) (sees : SeesReads app types.presents) (covered : AreCovered app) (apart : AreApart app) where
    -- where an old update may be kept at an opening of this update, the body that is drawn there ends as it says of itself
    pub ends-cached : (u : UpdateTree) (env : Env) (body : ShapeTrees) → ((w : Sited) → Has w (shape.Update u body) → IsUpdateOf app w)
        → (id : Data) (cache : Option (List Data)) (ts : Option ExprTrees) → u.cache ≡ ts
        → ((ws : ExprTrees) → ts ≡ Some ws → IfSome cache (HoldCache app slots env ws)) → (ts ≡ None → cache ≡ None) → Ends env body (key_at u id cache)
    ends-cached u env body of id cache (Some ws) e holds without h o c s ts r keep =
        let w : Sited = record { site = u.site; cache = ws; body = body } in
        let cached : IfSome o.cache (HoldCache app slots env ws) =
        subst (λ (x : Option (List Data)). IfSome x (HoldCache app slots env ws)) (sym c) (holds ws refl) in
        kept-as-recorded app types texts sees covered apart h (marks_of_all move_item ts) o r keep w (of w (inl (refl, (e, refl)))) s slots env cached
    ends-cached u env body of id cache None e holds without h o c s ts r keep =
        let nothing : o.cache ≡ None = c ∙ without refl in
        absurd (no-cache h.cache (ap (λ (x : Option (List Data)). same_cache h.cache x) (sym nothing)
        ∙ and_left (same_cache h.cache o.cache) (measures_fit (shift_at h o) h.measures o) keep))

    pub keeps-cached : (u : UpdateTree) (env : Env) (body : ShapeTrees) → ((w : Sited) → Has w (shape.Update u body) → IsUpdateOf app w)
        → (id : Data) (cache : Option (List Data)) (ts : Option ExprTrees) → u.cache ≡ ts
        → ((ws : ExprTrees) → ts ≡ Some ws → IfSome cache (HoldCache app slots env ws)) → (ts ≡ None → cache ≡ None) → Keeps env body (key_at u id cache)
    keeps-cached u env body of id cache ts e holds without h o c s olds r keep =
        ap (λ (x : Outcome DrawingAt). cost_of x) (ends-cached u env body of id cache ts e holds without h o c s olds r keep).is
