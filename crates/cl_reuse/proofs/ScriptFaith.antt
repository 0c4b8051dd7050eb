-- Histories that have the marks of a display are faithful.
use Rattle.std.proofs.Common.{◌≡◌, ◌∙◌, sym, refl, List, [], ◌∷◌}
use Rattle.cl_syntax.specs.ShapeTree.{ShapeTree, shape_trees_of}
use Rattle.cl_application.specs.declared.applications.App.{App}
use Rattle.cl_eval.specs.Outcome.{Gives, Outcome, Traps}
use Rattle.cl_eval.specs.Slots.{Env, Slots}
use Rattle.cl_eval.specs.TypeMeanings.{AreTexts, TypeMeanings}
use Rattle.cl_eval.specs.declared.metering.Limits.{Limits}
use Rattle.cl_medium.specs.Items.{Item, item_bounds, move_item}
use Rattle.cl_record.specs.Marks.{draw, history_marks}
use Rattle.cl_record.specs.Ranges.{AreSound}
use Rattle.cl_record.specs.Trees.{Tree, leaf, trees_of}
use Rattle.cl_display.specs.Drawings.{DrawingAt}
use Rattle.cl_display.specs.Script.{fresh, history_of, script}
use Rattle.cl_reuse.specs.ReadValues.{scene_on}
use Rattle.cl_reuse.specs.Recorded.{IsFaithfulHistory}
use Rattle.cl_reuse.specs.Sited.{AreOwn}
use Rattle.cl_reuse.proofs.DisplayPays.{display-faithful}
use Rattle.cl_reuse.proofs.MarkedFaith.{marked-faithful}

module _ (limits : Limits) (app : App) (types : TypeMeanings) (slots : Slots) (forms : List ShapeTree) (env : Env) (texts : AreTexts app types.presents)
    (own : AreOwn app (shape_trees_of forms)) (b : List (Tree Item)) (sound : AreSound item_bounds move_item (trees_of b)) where
  -- the one mark of a display that trapped
  item-faithful : (a : Item) → history_marks move_item b ≡ draw a ∷ [] → IsFaithfulHistory app types b
  item-faithful a m = marked-faithful app types texts (leaf a ∷ []) b (sym m) sound (record { all = (tt, tt) })

  outcome-faithful : (o : Outcome DrawingAt) → (fresh limits (scene_on app slots types) forms env).outcome ≡ o → history_marks move_item b ≡ history_of o
      → IsFaithfulHistory app types b
  outcome-faithful (Gives s cost reach) p m =
      let drawn = display-faithful limits app types slots forms env own s cost reach p in
      marked-faithful app types texts drawn.history b (sym drawn.marks_are ∙ sym m) sound drawn.faithful
  outcome-faithful (Traps kind cost reach) p m = item-faithful _ m

pub script-faithful : (limits : Limits) (app : App) (types : TypeMeanings) (slots : Slots) (forms : List ShapeTree) (env : Env)
    → AreTexts app types.presents → AreOwn app (shape_trees_of forms) → (b : List (Tree Item)) → AreSound item_bounds move_item (trees_of b)
    → history_marks move_item b ≡ script limits (scene_on app slots types) forms env → IsFaithfulHistory app types b
script-faithful limits app types slots forms env texts own b sound m =
    outcome-faithful limits app types slots forms env texts own b sound (fresh limits (scene_on app slots types) forms env).outcome refl m
