-- A body that ends, and fits elsewhere, is drawn there as it was, moved.
use Rattle.std.proofs.Common.{◌≡◌, ◌∙◌, ap, sym, ℕ, ◌+◌, ◌≤◌, ℤ, ◌+ℤ◌, ◌-ℤ◌, arith}
use Rattle.std.proofs.lemmas.Int.{ints}
use Rattle.cl_syntax.specs.ShapeTree.{ShapeTrees}
use Rattle.cl_application.specs.declared.applications.App.{App}
use Rattle.cl_eval.specs.Outcome.{Gives}
use Rattle.cl_eval.specs.Slots.{Env, Slots}
use Rattle.cl_eval.specs.TypeMeanings.{AreTexts, TypeMeanings}
use Rattle.cl_medium.specs.Ambients.{AmbientAt}
use Rattle.cl_display.specs.Drawings.{DrawingAt}
use Rattle.cl_display.specs.Fresh.{Allowance, Scene, draws, in_order}
use Rattle.cl_display.specs.Outcomes.{DrawOutcome}
use Rattle.cl_reuse.specs.Bodies.{body_from, body_start, motion_between}
use Rattle.cl_reuse.specs.Motions.{FitsThere, Motion, move_ambient, move_drawing}
use Rattle.cl_reuse.specs.ReadValues.{AgreeOnForms, SeesReads, scene_on}
use Rattle.cl_reuse.proofs.DrawLemmas.{same-forms}
use Rattle.cl_reuse.proofs.FormMoves.{carry-forms}
use Rattle.cl_reuse.proofs.MotionLemmas.{fits-of}

pub forms-move : (m : Motion) (left more : ℕ) (allowed wider : Allowance) (scene : Scene) → AreTexts scene.app scene.types.presents
    → (level : ℕ) (env : Env) (forms : ShapeTrees) (s end : DrawingAt) (cost deepest c d : ℕ)
    → (in_order (draws left allowed scene) level env forms s cost deepest).outcome ≡ Gives end c d
    → c ≤ wider.budget → d ≤ level + more → FitsThere m wider.weight end
    → (in_order (draws more wider scene) level env forms (move_drawing m s) cost deepest).outcome ≡ Gives (move_drawing m end) c d
forms-move m left more allowed wider scene texts level env forms s end cost deepest c d p cheap shallow fits =
    (carry-forms scene texts m left more allowed wider level env forms s end cost deepest c d p).same cheap shallow (fits-of m wider.weight end fits)

there : (x y : ℤ) → x +ℤ (y -ℤ x) ≡ y
there x y = omega (arith, ints)

-- the second is the first, moved so far
pub moved-between : (a b : AmbientAt) → b.ink ≡ a.ink → move_ambient (motion_between a b) a ≡ b
moved-between a b e =
    let xs = there a.x b.x in
    let ys = there a.y b.y in
    let margins = there a.margin b.margin in
    let across = there a.origin_x b.origin_x in
    let down = there a.origin_y b.origin_y in
    let inks = sym e in
    λ i. record { x = xs i; y = ys i; margin = margins i; origin_x = across i; origin_y = down i; ink = inks i }

pub bodies-move : (depth more : ℕ) (allowed wider : Allowance) (app : App) (types : TypeMeanings) (body : ShapeTrees)
    (slots : Slots) (env : Env) (other_slots : Slots) (other_env : Env) (a b : AmbientAt) → AreTexts app types.presents → SeesReads app types.presents
    → AgreeOnForms app body slots env other_slots other_env → b.ink ≡ a.ink → (end : DrawingAt) (cost reach : ℕ)
    → (body_from depth allowed (scene_on app slots types) env body a).outcome ≡ Gives end cost reach
    → cost ≤ wider.budget → reach ≤ more → FitsThere (motion_between a b) wider.weight end
    → (body_from more wider (scene_on app other_slots types) other_env body b).outcome ≡ Gives (move_drawing (motion_between a b) end) cost reach
bodies-move depth more allowed wider app types body slots env other_slots other_env a b texts sees agree inks end cost reach p cheap shallow fits =
    let same : body_from depth allowed (scene_on app slots types) env body a ≡ body_from depth allowed (scene_on app other_slots types) other_env body a =
    λ i. same-forms app slots other_slots types sees depth allowed 0 env other_env body agree (body_start a) i 0 0 in
    let first : (body_from depth allowed (scene_on app other_slots types) other_env body a).outcome ≡ Gives end cost reach =
    sym (ap (λ (o : DrawOutcome). o.outcome) same) ∙ p in
    let m = motion_between a b in
    let second : (body_from more wider (scene_on app other_slots types) other_env body (move_ambient m a)).outcome ≡ Gives (move_drawing m end) cost reach =
    forms-move m depth more allowed wider (scene_on app other_slots types) texts 0 other_env body (body_start a) end 0 0 cost reach first cheap
    (omega (arith, shallow)) fits in
    ap (λ (c : AmbientAt). (body_from more wider (scene_on app other_slots types) other_env body c).outcome) (sym (moved-between a b inks)) ∙ second
