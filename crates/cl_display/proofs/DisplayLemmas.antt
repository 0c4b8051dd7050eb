-- What a display adds up to, and what holds all that it draws.
use Rattle.std.proofs.Common.{◌≡◌, ℕ, ◌≤◌, refl, List}
use Rattle.std.proofs.Common.{[]}
use Rattle.std.proofs.Common.{◌∷◌, length, arith, subst}
use Rattle.cl_syntax.specs.ShapeTree.{ShapeTree, ShapeTrees, shape_trees_of}
use Rattle.cl_eval.specs.declared.metering.Limits.{Limits}
use Rattle.cl_eval.specs.Outcome.{Gives}
use Rattle.cl_eval.specs.Slots.{Env}
use Rattle.cl_eval.specs.Statements.{Member}
use Rattle.cl_medium.specs.Ambients.{ambient_start}
use Rattle.cl_medium.specs.Items.{move_item, Item}
use Rattle.cl_medium.specs.declared.shapes.LeafShape.{LeafShape}
use Rattle.cl_medium.specs.declared.shapes.LeafShape.TheVariants as leaf_shape
use Rattle.cl_record.specs.Marks.{Mark, close, draw, history_marks, open_presentation, open_update}
use Rattle.cl_record.specs.Replays.{items_drawn as items_in}
use Rattle.cl_display.specs.Drawings.{DrawingAt, blank_drawing, cursor_box, drawing_of}
use Rattle.cl_display.specs.declared.drawings.TheConstants.{MAX_WEIGHT}
use Rattle.cl_display.specs.Settings.{enter_room}
use Rattle.cl_display.specs.declared.drawings.Drawing.{Drawing}
use Rattle.cl_display.specs.Fresh.{Allowance, Scene, draws, in_order}
use Rattle.cl_display.specs.Script.{fresh, whole_allowance}
use Rattle.cl_display.proofs.CornerLemmas.{holds-itself}
use Rattle.cl_display.specs.Sums.{AddsUp, AreMembers, Holds, HoldsAll, lowest_of, shape_weight, weight_of}
use Rattle.cl_display.proofs.FormSums.{adds-draws, adds-in_order}
use Rattle.cl_display.proofs.SumLemmas.{Adds, AddsOut}

count-weight : (marks : List (Mark Item)) → length (items_in marks) ≤ weight_of marks
count-weight [] = omega arith
count-weight (draw leaf ∷ marks) = omega (arith, count-weight marks, one-least leaf.shape)
  where
    one-least : (s : LeafShape) → 1 ≤ shape_weight s
    one-least (leaf_shape.Text bytes) = omega arith
    one-least (leaf_shape.Point byte) = omega arith
    one-least (leaf_shape.Line direction) = omega arith
    one-least leaf_shape.Outline = omega arith
    one-least (leaf_shape.Fill byte) = omega arith
count-weight (open_presentation label ∷ marks) = omega (arith, count-weight marks)
count-weight (open_update head ∷ marks) = omega (arith, count-weight marks)
count-weight (close ∷ marks) = omega (arith, count-weight marks)

-- what a display adds up to
pub adds-blank : (holds : Member) (s : DrawingAt) → Adds MAX_WEIGHT holds blank_drawing s → AddsUp s
adds-blank holds s p = record {
  weight = rw p.part.behind (omega (arith, p.weight));
  light = p.light (omega arith);
  lowest = rw p.part.behind p.part.lowest;
  count = rw p.part.behind (omega (arith, p.weight, p.light (omega arith), count-weight p.marks));
}

-- what holds all that a display draws
pub holds-blank : (holds : Member) (s : DrawingAt) → Adds MAX_WEIGHT holds blank_drawing s
    → HoldsAll s.part.extent s.part.marks × Holds s.part.extent (cursor_box s.ambient)
holds-blank holds s p = (rw p.part.behind p.part.within, p.cursor (holds-itself (cursor_box ambient_start)))

pub adds-fresh : (limits : Limits) (scene : Scene) (fs : List ShapeTree) (env : Env)
    → AddsOut MAX_WEIGHT scene.types.holds blank_drawing (fresh limits scene fs env).outcome
unfolding fresh
adds-fresh limits scene fs env =
    adds-in_order MAX_WEIGHT scene.types.holds (draws limits.depth (whole_allowance limits) scene)
    (adds-draws MAX_WEIGHT scene.types.holds limits.depth limits.budget scene refl) 0 env (shape_trees_of fs) blank_drawing 0 0

adds-gives : (limits : Limits) (scene : Scene) (fs : List ShapeTree) (env : Env) (s : DrawingAt) (cost reach : ℕ)
    → (fresh limits scene fs env).outcome ≡ Gives s cost reach → Adds MAX_WEIGHT scene.types.holds blank_drawing s
adds-gives limits scene fs env s cost reach p =
    subst (AddsOut MAX_WEIGHT scene.types.holds blank_drawing) p (adds-fresh limits scene fs env)

pub adds_up : (limits : Limits) (scene : Scene) (fs : List ShapeTree) (env : Env) (s : DrawingAt) (cost reach : ℕ)
    → (fresh limits scene fs env).outcome ≡ Gives s cost reach → AddsUp s
adds_up limits scene fs env s cost reach p = adds-blank scene.types.holds s (adds-gives limits scene fs env s cost reach p)

pub members-drawn : (limits : Limits) (scene : Scene) (fs : List ShapeTree) (env : Env) (s : DrawingAt) (cost reach : ℕ)
    → (fresh limits scene fs env).outcome ≡ Gives s cost reach → AreMembers scene.types.holds s.part.marks
members-drawn limits scene fs env s cost reach p =
    let added = adds-gives limits scene fs env s cost reach p in
    rw added.part.behind added.members

pub holds_drawn : (limits : Limits) (scene : Scene) (fs : List ShapeTree) (env : Env) (s : DrawingAt) (cost reach : ℕ)
    → (fresh limits scene fs env).outcome ≡ Gives s cost reach
    → HoldsAll s.part.extent s.part.marks × Holds s.part.extent (cursor_box s.ambient)
holds_drawn limits scene fs env s cost reach p = holds-blank scene.types.holds s (adds-gives limits scene fs env s cost reach p)

pub adds-body : (left : ℕ) (allowed : Allowance) (scene : Scene) (level : ℕ) (env : Env) (body : ShapeTrees) (s end : DrawingAt)
    (cost deepest c d : ℕ)
    → (in_order (draws left allowed scene) level env body s cost deepest).outcome ≡ Gives end c d
    → Adds allowed.weight scene.types.holds s end
adds-body left allowed scene level env body s end cost deepest c d p =
    subst (AddsOut allowed.weight scene.types.holds s) p
    (adds-in_order allowed.weight scene.types.holds (draws left allowed scene)
    (adds-draws allowed.weight scene.types.holds left allowed.budget scene refl) level env body s cost deepest)

pub room-ends : (left : ℕ) (allowed : Allowance) (scene : Scene) (level : ℕ) (env : Env) (body : ShapeTrees) (s end : DrawingAt)
    (cost deepest c d : ℕ)
    → (in_order (draws left allowed scene) level env body (enter_room s) cost deepest).outcome ≡ Gives end c d
    → end.part.lowest ≡ lowest_of (items_in end.part.marks)
room-ends left allowed scene level env body s end cost deepest c d p =
    let added = adds-body left allowed scene level env body (enter_room s) end cost deepest c d p in
    rw added.part.behind added.part.lowest

pub few-shown : (limits : Limits) (scene : Scene) (fs : List ShapeTree) (env : Env) (d : Drawing) (cost reach : ℕ)
    → (in_order (draws limits.depth (whole_allowance limits) scene) 0 env (shape_trees_of fs) blank_drawing 0 0).outcome ≡ Gives
    (drawing_of d) cost reach
    → length (items_in (history_marks move_item d.part.nodes)) ≤ MAX_WEIGHT
few-shown limits scene fs env d cost reach p =
    (adds-blank scene.types.holds (drawing_of d) (adds-body limits.depth (whole_allowance limits) scene 0 env (shape_trees_of fs) blank_drawing
    (drawing_of d) 0 0 cost reach p)).count
