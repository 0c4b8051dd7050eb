-- Whether records are faithful is told by their marks.
use Rattle.std.proofs.Common.{◌≡◌, ◌∙◌, ap, sym, subst, refl, List, [], ◌∷◌, ◌++◌, Option, Some, None, arith}
use Rattle.std.specs.Prelude.{IfSome}
use Rattle.cl_value.specs.Data.{Data}
use Rattle.cl_region.specs.Places.{IsInRange, move_rect}
use Rattle.cl_region.specs.declared.rects.Rect.{Rect}
use Rattle.cl_region.specs.declared.rects.Shift.{Shift}
use Rattle.cl_application.specs.declared.applications.App.{App}
use Rattle.cl_eval.specs.Outcome.{Gives}
use Rattle.cl_eval.specs.TypeMeanings.{AreTexts, TypeMeanings}
use Rattle.cl_medium.specs.Items.{Item, item_bounds, move_item}
use Rattle.cl_record.specs.Heads.{HeadAt, MeasuresAt, move_head, move_measures}
use Rattle.cl_record.specs.Marks.{Mark, close, history_marks, marks_of_all, move_marks, open_update}
use Rattle.cl_record.specs.Ranges.{AreSound, IsSound}
use Rattle.cl_record.specs.Shifts.{join_shifts, still}
use Rattle.cl_record.specs.Trees.{Tree, Trees, leaf, none, presentation, tree, trees_of, update}
use Rattle.cl_display.specs.Fresh.{Allowance}
use Rattle.cl_reuse.specs.Bodies.{body_from, body_start}
use Rattle.cl_reuse.specs.Motions.{FitsThere, Motion, move_ambient, move_drawing}
use Rattle.cl_reuse.specs.ReadValues.{scene_on}
use Rattle.cl_reuse.specs.Recorded.{AreFaithful, IsFaithful, IsFaithfulHistory, IsRecorded}
use Rattle.cl_reuse.proofs.BodyMoves.{forms-move}
use Rattle.cl_reuse.proofs.FlatRows.{apart_by, behind, first, flat, moved-apart, no-branch, one_flat, row-flat, split-row, split-tree}
use Rattle.cl_reuse.proofs.MotionLemmas.{measures-move}

-- all of it is moved as far
abbrev whole_motion : Shift → Motion
whole_motion v = record { by = v; margin = v.dx; origin = v }

module _ (app : App) (types : TypeMeanings) (texts : AreTexts app types.presents) where
  -- what is recorded is so where it is moved, within the range: its body may be drawn there
  pub moved-recorded : (v : Shift) (h : HeadAt) (inside : List (Mark Item)) (values : List Data) → IsRecorded app types h inside values
      → IsInRange (move_rect v h.measures.extent) → IsRecorded app types (move_head v h) (move_marks move_item v inside) values
  moved-recorded v h inside values r range =
      let m = whole_motion v in
      let cost = h.measures.cost in
      let reach = h.measures.reach in
      let extents : h.measures.extent ≡ r.end.part.extent = ap (λ (x : MeasuresAt). x.extent) r.measured in
      let wider : Allowance = record { budget = cost; weight = r.end.weight } in
      let fits : FitsThere m r.end.weight r.end = record {
        weight = omega arith;
        margin = λ _. refl;
        origin = λ _. refl;
        range = subst (λ (x : Rect). IsInRange (move_rect v x)) extents range;
      } in
      let drawn : (body_from reach wider (scene_on app r.slots types) r.env r.update.body (move_ambient m r.start)).outcome ≡ Gives (move_drawing m r.end) cost reach =
      forms-move m r.depth reach r.allowed wider (scene_on app r.slots types) texts 0 r.env r.update.body (body_start r.start) r.end 0 0 cost reach r.drawn
      (omega arith) (omega arith) fits in
      record {
        update = r.update;
        declared = r.declared;
        site = r.site;
        slots = r.slots;
        env = r.env;
        cached = r.cached;
        depth = reach;
        allowed = wider;
        start = move_ambient m r.start;
        end = move_drawing m r.end;
        drawn = drawn;
        measured =
            ap (λ (x : MeasuresAt). move_measures v x) r.measured
            ∙ sym (measures-move m r.start r.end cost reach (λ _. refl) (λ _. refl));
        marks = ap (λ (ms : List (Mark Item)). move_marks move_item v ms) r.marks;
      }

  if-recorded : (v : Shift) (h : HeadAt) (inside : List (Mark Item)) (cache : Option (List Data)) → IfSome cache (IsRecorded app types h inside)
      → IsInRange (move_rect v h.measures.extent) → IfSome cache (IsRecorded app types (move_head v h) (move_marks move_item v inside))
  if-recorded v h inside None r range = tt
  if-recorded v h inside (Some values) r range = moved-recorded v h inside values r range

  -- the update that begins there is recorded, where it has a cache
  abbrev BeginsRecorded : List (Mark Item) → Type 0
  BeginsRecorded (open_update h ∷ inside) = IfSome h.cache (IsRecorded app types h inside)
  BeginsRecorded ms = ⊥

  -- its extent is in the range
  abbrev BeginsInRange : List (Mark Item) → Type 0
  BeginsInRange (open_update h ∷ inside) = IsInRange h.measures.extent
  BeginsInRange ms = ⊥

  one-recorded : (v w : Shift) (h k : HeadAt) (inside other : List (Mark Item))
      → move_marks move_item v (open_update h ∷ inside) ≡ move_marks move_item w (open_update k ∷ other) → IsInRange k.measures.extent
      → IfSome h.cache (IsRecorded app types h inside) → IfSome k.cache (IsRecorded app types k other)
  one-recorded v w h k inside other e range r =
      let far = apart_by v w in
      let same : move_marks move_item far (open_update h ∷ inside) ≡ open_update k ∷ other =
      moved-apart v w (open_update h ∷ inside) (open_update k ∷ other) e in
      let there : IsInRange (move_rect far h.measures.extent) = subst (λ (ms : List (Mark Item)). BeginsInRange ms) (sym same) range in
      subst (λ (ms : List (Mark Item)). BeginsRecorded ms) same (if-recorded far h inside h.cache r there)

  mutual
    faith-tree : (v w : Shift) (t u : Tree Item) (rest others : List (Mark Item)) → one_flat v t rest ≡ one_flat w u others
        → IsSound item_bounds move_item u → IsFaithful app types t → IsFaithful app types u
    faith-tree v w (leaf a) (leaf b) rest others e s f = tt
    faith-tree v w (presentation l p ts) (presentation m q us) rest others e s f =
        let inside = split-row (join_shifts p v) (join_shifts q w) ts us (close ∷ rest) (close ∷ others) tt tt (ap behind e) in
        faith-row (join_shifts p v) (join_shifts q w) ts us (inside.marks []) s.0 f
    faith-tree v w (update h p ts) (update k q us) rest others e s f =
        let here = join_shifts p v in
        let there = join_shifts q w in
        let inside = split-row here there ts us (close ∷ rest) (close ∷ others) tt tt (ap behind e) in
        let inner : move_marks move_item here (marks_of_all move_item ts) ≡ move_marks move_item there (marks_of_all move_item us) =
        sym (row-flat here ts) ∙ inside.marks [] ∙ row-flat there us in
        let whole : move_marks move_item here (open_update h ∷ marks_of_all move_item ts)
        ≡ move_marks move_item there (open_update k ∷ marks_of_all move_item us) = λ i. ap first e i ++ inner i in (
          one-recorded here there h k (marks_of_all move_item ts) (marks_of_all move_item us) whole s.1.0.range f.0,
          faith-row here there ts us (inside.marks []) s.0 f.1,
        )
    faith-tree v w (leaf a) (presentation m q us) rest others e s f = cc
    faith-tree v w (leaf a) (update k q us) rest others e s f = cc
    faith-tree v w (presentation l p ts) (leaf b) rest others e s f = cc
    faith-tree v w (presentation l p ts) (update k q us) rest others e s f = cc
    faith-tree v w (update h p ts) (leaf b) rest others e s f = cc
    faith-tree v w (update h p ts) (presentation m q us) rest others e s f = cc

    faith-row : (v w : Shift) (ts us : Trees Item) → flat v ts [] ≡ flat w us [] → AreSound item_bounds move_item us → AreFaithful app types ts
        → AreFaithful app types us
    faith-row v w ts none e s f = tt
    faith-row v w none (tree u us) e s f = absurd (no-branch w u (flat w us []) e)
    faith-row v w (tree t ts) (tree u us) e s f =
        let one = split-tree v w t u (flat v ts []) (flat w us []) e in
        (faith-tree v w t u (flat v ts []) (flat w us []) e s.0 f.0, faith-row v w ts us one.behind s.1 f.1)

-- a history with the marks of a faithful one is faithful, where it holds together
pub marked-faithful : (app : App) (types : TypeMeanings) → AreTexts app types.presents → (a b : List (Tree Item))
    → history_marks move_item a ≡ history_marks move_item b → AreSound item_bounds move_item (trees_of b)
    → IsFaithfulHistory app types a → IsFaithfulHistory app types b
marked-faithful app types texts a b e s f =
    let same : flat still (trees_of a) [] ≡ flat still (trees_of b) [] =
    row-flat still (trees_of a) ∙ ap (λ (ms : List (Mark Item)). move_marks move_item still ms) e ∙ sym (row-flat still (trees_of b)) in
    record { all = faith-row app types texts still still (trees_of a) (trees_of b) same s f.all }
