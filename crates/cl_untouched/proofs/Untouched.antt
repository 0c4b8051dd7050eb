-- What a display leaves as it was.
use Rattle.std.proofs.Common.{◌≡◌, ◌∙◌, ap, sym, subst, refl, ℕ, ℤ, Bool, true, false, List, [], append-nil}
use Rattle.cl_region.specs.Places.{one_holds}
use Rattle.cl_syntax.specs.ShapeTree.{ShapeTree, shape_trees_of}
use Rattle.cl_application.specs.declared.applications.App.{App}
use Rattle.cl_cover.specs.Updates.{AreCovered}
use Rattle.cl_eval.specs.Outcome.{Gives}
use Rattle.cl_eval.specs.Slots.{Env, Slots}
use Rattle.cl_eval.specs.TypeMeanings.{AreTexts, TypeMeanings}
use Rattle.cl_eval.specs.declared.metering.Limits.{Limits}
use Rattle.cl_medium.specs.ItemLaws.{item_moves_twice, item_stays, item_within}
use Rattle.cl_medium.specs.Items.{Item, Painted, item_bounds, item_cell, move_item}
use Rattle.cl_record.specs.Marks.{Mark, history_marks, move_marks}
use Rattle.cl_record.specs.Replays.{cell_after, items_drawn}
use Rattle.cl_record.specs.Shifts.{still}
use Rattle.cl_record.specs.Trees.{Tree, trees_of}
use Rattle.cl_record.proofs.Moves.{all-still}
use Rattle.cl_display.specs.Drawings.{DrawingAt, blank_drawing}
use Rattle.cl_display.specs.Fresh.{draws}
use Rattle.cl_display.specs.Script.{fresh, whole_allowance}
use Rattle.cl_reuse.specs.Once.{IsNamedOnce}
use Rattle.cl_reuse.specs.ReadValues.{SeesReads, scene_on}
use Rattle.cl_reuse.specs.Recorded.{IsFaithfulHistory}
use Rattle.cl_reuse.specs.Sited.{AreApart, AreOwn}
use Rattle.cl_reuse.proofs.FlatRows.{flat, row-flat}
use Rattle.cl_damage.specs.Agreement.{Agree}
use Rattle.cl_damage.specs.Children.{Children, items_at, items_in, list_of, none}
use Rattle.cl_damage.specs.Touched.{touched}
use Rattle.cl_damage.proofs.ChildLemmas.{children-hold}
use Rattle.cl_damage.proofs.DepthLemmas.{touched-items}
use Rattle.cl_damage.proofs.PlaceLemmas.{cell-at}
use Rattle.cl_damage.specs.Keeps.{Keeps}
use Rattle.cl_untouched.specs.Keeps.{keeps_of}
use Rattle.cl_damage.specs.Keeps as keeps
use Rattle.cl_damage.specs.NewChildren.{new_children, new_children_before, old_children}
use Rattle.cl_untouched.proofs.KidLemmas.{followed-none, join-none}
use Rattle.cl_untouched.proofs.RowLemmas.{drawn, new-items}
use Rattle.cl_untouched.proofs.RunForms.{Renews}
use Rattle.cl_untouched.proofs.RunRows.{renews-draws, renews-order}
use Rattle.cl_untouched.proofs.ToldChildren.{told-row}

-- rows with the same marks draw the same
same-flat : (a b : List (Tree Item)) → history_marks move_item a ≡ history_marks move_item b → flat still (trees_of a) [] ≡ flat still (trees_of b) []
same-flat a b e =
    row-flat still (trees_of a) ∙ (ap (λ (ms : List (Mark Item)). move_marks move_item still ms) e ∙ sym (row-flat still (trees_of b)))

pub old-items : (old : List (Tree Item)) → items_in (old_children move_item old) ≡ items_drawn (history_marks move_item old)
old-items old =
    children-hold move_item item_moves_twice still (trees_of old)
    ∙ ap (λ (ms : List (Mark Item)). items_drawn ms) (all-still move_item item_stays (history_marks move_item old))

pub new-drawn : (new : List (Tree Item)) (ks : Keeps) → items_in (new_children move_item new ks) ≡ items_drawn (history_marks move_item new)
new-drawn new ks =
    new-items still (trees_of new) ks (λ _. none) [] (λ _. refl)
    ∙ (append-nil (drawn still (history_marks move_item new))
    ∙ ap (λ (ms : List (Mark Item)). items_drawn ms) (all-still move_item item_stays (history_marks move_item new)))

module _ (limits : Limits) (app : App) (types : TypeMeanings) (slots : Slots) (forms : List ShapeTree) (env : Env)
    (texts : AreTexts app types.presents) (sees : SeesReads app types.presents) (covered : AreCovered app) (apart : AreApart app)
    (own : AreOwn app (shape_trees_of forms)) (old : List (Tree Item)) (faithful : IsFaithfulHistory app types old) (once : IsNamedOnce old)
    (s : DrawingAt) (cost reach : ℕ) (ends : (fresh limits (scene_on app slots types) forms env).outcome ≡ Gives s cost reach) where
  -- what is kept on the way
  abbrev kept_here : Keeps
  kept_here = keeps_of still (trees_of old) (fresh limits (scene_on app slots types) forms env).walk

  renewed : Renews still (trees_of old) [] s.part.marks (fresh limits (scene_on app slots types) forms env).walk
  unfolding fresh
  renewed =
      renews-order app slots types (draws limits.depth (whole_allowance limits) (scene_on app slots types)) 0
      (renews-draws app slots types texts sees covered apart limits.depth (whole_allowance limits) 0) env (shape_trees_of forms) own blank_drawing still
      (trees_of old) (faithful.all, (once.top, once.inside)) 0 0 s cost reach ends

  -- records that have the marks of the display
  pub own-records : (new : List (Tree Item)) × (history_marks move_item new ≡ s.part.marks)
  own-records = (renewed.own, sym renewed.behind)

  pub new-agrees : (new : List (Tree Item)) → history_marks move_item new ≡ s.part.marks → Agree (new_children move_item new kept_here) (list_of (old_children move_item old))
  new-agrees new e =
      let p = renewed in
      let same : new_children move_item new kept_here ≡ p.kids =
      told-row still still (trees_of new) (trees_of p.own) (same-flat new p.own (e ∙ p.behind)) kept_here (λ _. none) (λ _. none) (λ _. refl)
      ∙ (ap (λ (ks : Keeps). new_children_before move_item still (trees_of p.own) ks (λ _. none)) (sym (followed-none kept_here))
      ∙ (p.taken keeps.none (λ _. none) ∙ join-none p.kids)) in
      subst (λ (ks : Children Item). Agree ks (list_of (old_children move_item old))) (sym same) p.agree

  pub untouched-items : (new : List (Tree Item)) → history_marks move_item new ≡ s.part.marks
      → (same : Item → Item → Bool) → ((a b : Item) → same a b ≡ true → a ≡ b) → (x y : ℤ)
      → one_holds (touched item_bounds same (old_children move_item old) (new_children move_item new kept_here)) x y ≡ false
      → items_at item_bounds x y (items_drawn (history_marks move_item old)) ≡ items_at item_bounds x y (items_drawn s.part.marks)
  untouched-items new e same sound x y outside =
      ap (λ (items : List Item). items_at item_bounds x y items) (sym (old-items old))
      ∙ (touched-items item_bounds x y same sound (old_children move_item old) (new_children move_item new kept_here) (new-agrees new e) outside
      ∙ ap (λ (items : List Item). items_at item_bounds x y items) (new-drawn new kept_here ∙ ap (λ (ms : List (Mark Item)). items_drawn ms) e))

  pub untouched-cells : (new : List (Tree Item)) → history_marks move_item new ≡ s.part.marks
      → (same : Item → Item → Bool) → ((a b : Item) → same a b ≡ true → a ≡ b) → (x y : ℤ)
      → one_holds (touched item_bounds same (old_children move_item old) (new_children move_item new kept_here)) x y ≡ false
      → (under : Painted) → cell_after item_cell (items_drawn (history_marks move_item old)) x y under ≡ cell_after item_cell (items_drawn s.part.marks) x y under
  untouched-cells new e same sound x y outside under =
      sym (cell-at item_bounds x y item_cell (λ a c f. item_within a x y c f) (items_drawn (history_marks move_item old)) under)
      ∙ (ap (λ (items : List Item). cell_after item_cell items x y under) (untouched-items new e same sound x y outside)
      ∙ cell-at item_bounds x y item_cell (λ a c f. item_within a x y c f) (items_drawn s.part.marks) under)
