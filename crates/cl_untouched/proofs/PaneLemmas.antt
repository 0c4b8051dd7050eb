-- What the display of a pane leaves as it was, whether it ended or trapped.
use Rattle.std.proofs.Common.{◌≡◌, ◌∙◌, ap, sym, subst, refl, ℕ, ℤ, false, List, [], ◌∷◌, ◌++◌}
use Rattle.std.specs.Prelude.{codes}
use Rattle.std.specs.Fmt.{decimal}
use Rattle.cl_region.specs.Places.{one_holds}
use Rattle.cl_region.specs.declared.rects.Rect.{Rect}
use Rattle.cl_syntax.specs.ShapeTree.{ShapeTree, shape_trees_of}
use Rattle.cl_application.specs.declared.applications.App.{App}
use Rattle.cl_cover.specs.Updates.{AreCovered}
use Rattle.cl_eval.specs.Outcome.{Gives, Outcome, Traps}
use Rattle.cl_eval.specs.Slots.{Env, Slots}
use Rattle.cl_eval.specs.TypeMeanings.{AreTexts, TypeMeanings}
use Rattle.cl_eval.specs.declared.metering.Limits.{Limits}
use Rattle.cl_medium.specs.Ambients.{ambient_start}
use Rattle.cl_medium.specs.Drawing.{text_leaf}
use Rattle.cl_medium.specs.ItemLaws.{item_within}
use Rattle.cl_medium.specs.Items.{Item, Painted, item_bounds, item_cell, move_item}
use Rattle.cl_record.specs.Marks.{Mark, history_marks}
use Rattle.cl_record.specs.Replays.{cell_after, items_drawn}
use Rattle.cl_record.specs.Shifts.{still}
use Rattle.cl_record.specs.Trees.{Tree, leaf, trees_of}
use Rattle.cl_display.specs.Drawings.{DrawingAt}
use Rattle.cl_display.specs.Outcomes.{DrawOutcome}
use Rattle.cl_display.specs.Script.{fresh, history_of, trap_history}
use Rattle.cl_reuse.specs.Once.{IsNamedOnce}
use Rattle.cl_reuse.specs.Records.{records_of}
use Rattle.cl_reuse.specs.ReadValues.{SeesReads, scene_on}
use Rattle.cl_reuse.specs.Recorded.{IsFaithfulHistory}
use Rattle.cl_reuse.specs.Sited.{AreApart, AreOwn}
use Rattle.cl_damage.specs.Agreement.{Agree, Agrees, Each}
use Rattle.cl_damage.specs.Children.{Child, item, items_at, list_of}
use Rattle.cl_damage.specs.Keeps.{Keeps}
use Rattle.cl_damage.specs.Keeps as keeps
use Rattle.cl_damage.specs.NewChildren.{new_children, old_children}
use Rattle.cl_damage.specs.SameItems.{same_item}
use Rattle.cl_damage.specs.SameLaws.{item_same_means}
use Rattle.cl_damage.specs.Touched.{touched}
use Rattle.cl_damage.proofs.DepthLemmas.{touched-items}
use Rattle.cl_damage.proofs.PlaceLemmas.{cell-at}
use Rattle.cl_untouched.specs.Among.{if_ended, touched_between, touched_by}
use Rattle.cl_untouched.specs.Keeps.{keeps_of}
use Rattle.cl_untouched.proofs.ToldKeeps.{keeps-told, touched-told}
use Rattle.cl_untouched.proofs.Untouched.{new-drawn, old-items, own-records, untouched-items}

-- ---- one item

each-item : (a : Item) (os : List (Child Item)) → Each (Agrees (item a)) os
each-item a [] = tt
each-item a (o ∷ os) = (tt, each-item a os)

-- a history of one item agrees with each one
item-agrees : (a : Item) (old : List (Tree Item)) → Agree (new_children move_item (leaf a ∷ []) keeps.none) (list_of (old_children move_item old))
item-agrees a old = (each-item (move_item still a) (list_of (old_children move_item old)), tt)

module _ (limits : Limits) (app : App) (types : TypeMeanings) (slots : Slots) (forms : List ShapeTree) (env : Env)
    (texts : AreTexts app types.presents) (sees : SeesReads app types.presents) (covered : AreCovered app) (apart : AreApart app)
    (own : AreOwn app (shape_trees_of forms)) (old : List (Tree Item)) (faithful : IsFaithfulHistory app types old) (once : IsNamedOnce old) (x y : ℤ) where
  abbrev drawn : DrawOutcome
  drawn = fresh limits (scene_on app slots types) forms env

  abbrev marks : List (Mark Item)
  marks = history_marks move_item old

  -- what is touched where the display comes to this
  abbrev touched_at_end : Outcome DrawingAt → List Rect
  touched_at_end o = touched_between marks (history_of o) (if_ended o (keeps_of still (trees_of (records_of marks)) drawn.walk))

  -- the items that paint the place are the same
  abbrev Stays : List (Mark Item) → Type 0
  Stays new = items_at item_bounds x y (items_drawn marks) ≡ items_at item_bounds x y (items_drawn new)

  items-ended : (s : DrawingAt) (cost reach : ℕ) → drawn.outcome ≡ Gives s cost reach → one_holds (touched_by marks drawn) x y ≡ false → Stays s.part.marks
  items-ended s cost reach ends outside =
      let new = own-records limits app types slots forms env texts sees covered apart own old faithful once s cost reach ends in
      let told : touched_by marks drawn
      ≡ touched item_bounds same_item (old_children move_item old) (new_children move_item new.0 (keeps_of still (trees_of old) drawn.walk)) =
      ap (λ (o : Outcome DrawingAt). touched_at_end o) ends
      ∙ (ap (λ (ks : Keeps). touched_between marks s.part.marks ks) (keeps-told old drawn.walk)
      ∙ (ap (λ (ms : List (Mark Item)). touched_between marks ms (keeps_of still (trees_of old) drawn.walk)) (sym new.1)
      ∙ touched-told old new.0 (keeps_of still (trees_of old) drawn.walk))) in
      untouched-items limits app types slots forms env texts sees covered apart own old faithful once s cost reach ends new.0 new.1 same_item item_same_means x y
      (subst (λ (rects : List Rect). one_holds rects x y ≡ false) told outside)

  items-trapped : (kind cost reach : ℕ) → drawn.outcome ≡ Traps kind cost reach → one_holds (touched_by marks drawn) x y ≡ false → Stays (trap_history kind)
  items-trapped kind cost reach traps outside =
      let a = text_leaf ambient_start (codes "trap " ++ decimal kind) in
      let told : touched_by marks drawn ≡ touched item_bounds same_item (old_children move_item old) (new_children move_item (leaf a ∷ []) keeps.none) =
      ap (λ (o : Outcome DrawingAt). touched_at_end o) traps ∙ touched-told old (leaf a ∷ []) keeps.none in
      ap (λ (items : List Item). items_at item_bounds x y items) (sym (old-items old))
      ∙ (touched-items item_bounds x y same_item item_same_means (old_children move_item old) (new_children move_item (leaf a ∷ []) keeps.none) (item-agrees a old)
      (subst (λ (rects : List Rect). one_holds rects x y ≡ false) told outside)
      ∙ ap (λ (items : List Item). items_at item_bounds x y items) (new-drawn (leaf a ∷ []) keeps.none))

  items-stay : (o : Outcome DrawingAt) → drawn.outcome ≡ o → one_holds (touched_by marks drawn) x y ≡ false → Stays (history_of o)
  items-stay (Gives s cost reach) e outside = items-ended s cost reach e outside
  items-stay (Traps kind cost reach) e outside = items-trapped kind cost reach e outside

  -- a place that is not touched is painted by the same items
  pub pane-items : one_holds (touched_by marks drawn) x y ≡ false → Stays (history_of drawn.outcome)
  pane-items outside = items-stay drawn.outcome refl outside

  -- and shows the same cell
  pub pane-cells : one_holds (touched_by marks drawn) x y ≡ false → (under : Painted)
      → cell_after item_cell (items_drawn marks) x y under ≡ cell_after item_cell (items_drawn (history_of drawn.outcome)) x y under
  pane-cells outside under =
      sym (cell-at item_bounds x y item_cell (λ a c f. item_within a x y c f) (items_drawn marks) under)
      ∙ (ap (λ (items : List Item). cell_after item_cell items x y under) (pane-items outside)
      ∙ cell-at item_bounds x y item_cell (λ a c f. item_within a x y c f) (items_drawn (history_of drawn.outcome)) under)
