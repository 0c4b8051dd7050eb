-- What a drawing over old records answers: what a drawing from nothing does, with what is kept.
use Rattle.std.specs.Prelude.{◌≡◌, ℕ, Result, Ok, Err, true, List, IfSome}
use Rattle.cl_syntax.specs.ShapeTree.{ShapeTree, ShapeTrees}
use Rattle.cl_application.specs.declared.applications.App.{App}
use Rattle.cl_cover.specs.Updates.{AreCovered}
use Rattle.cl_eval.specs.Outcome.{Outcome, Gives, Traps}
use Rattle.cl_eval.specs.Slots.{Env}
use Rattle.cl_eval.specs.Scope.{variables_of}
use Rattle.cl_eval.specs.Statements.{Member}
use Rattle.cl_eval.specs.TypeMeanings.{AreTexts, Presents, TypeMeanings}
use Rattle.cl_eval.specs.declared.metering.Meter.{Meter}
use Rattle.cl_eval.specs.declared.metering.Stop.{Stop}
use Rattle.cl_eval.specs.declared.metering.Stop.TheVariants.{Trap, Memory}
use Rattle.cl_medium.specs.Items.{Item}
use Rattle.cl_record.specs.Heads.{HeadAt}
use Rattle.cl_record.specs.Marks.{Mark}
use Rattle.cl_record.specs.Trees.{trees_of}
use Rattle.cl_display.specs.Drawings.{DrawingAt}
use Rattle.cl_display.specs.Fresh.{Scene, left_over}
use Rattle.cl_display.specs.Outcomes.{DrawOutcome}
use Rattle.cl_display.specs.Place.{allowance_at, bodies_at, scene_at}
use Rattle.cl_display.specs.Updates.{KeyAt, enter_body}
use Rattle.cl_display.specs.Walks.{OpeningAt}
use Rattle.cl_reuse.specs.Bodies.{body_from}
use Rattle.cl_reuse.specs.Keeping.{EndsAs, may_keep, shift_at}
use Rattle.cl_reuse.specs.ReadValues.{SeesReads}
use Rattle.cl_reuse.specs.Recorded.{AreFaithful, IsRecorded}
use Rattle.cl_reuse.specs.Sited.{AreApart, AreOwn, Has, IsUpdateOf, Sited}
use Rattle.cl_updating.specs.Levels.{LevelAt, kept_from}
use Rattle.cl_updating.specs.Tallies.{Counts, KeptIn}
use Rattle.cl_updating.specs.declared.grounds.Ground.{Ground}
use Rattle.cl_updating.specs.declared.tallies.Tally.{Tally}

-- An answer is the outcome, with the meter's cost and depth, and the tally rose by what was kept on the way. Nothing is said where there was
-- no memory.
abbrev pub Redrawn : KeptIn → Result (Unit {0}) Stop → DrawingAt → (from : ℕ) → Meter → (old new : Tally) → Outcome DrawingAt → Type 0
Redrawn k (Ok u) s from m old new o = (o ≡ Gives s m.cost m.deepest) × Counts k from m.cost old new
Redrawn k (Err (Trap kind)) s from m old new o = (o ≡ Traps kind m.cost m.deepest) × Counts k from m.cost old new
Redrawn k (Err Memory) s from m old new o = Unit {0}

-- the same of a draw, over a level
abbrev pub Redraws : LevelAt → Result (Unit {0}) Stop → DrawingAt → (from : ℕ) → Meter → (old new : Tally) → DrawOutcome → Type 0
Redraws l r s from m old new o = Redrawn (kept_from l o.walk) r s from m old new o.outcome

-- what reuse rests on: the texts of the types, the caches, the sites, and old records that are faithful
pub record IsReusable (app : App) (types : TypeMeanings) (l : LevelAt) : Type 0 where
  pub texts : AreTexts app types.presents
  pub sees : SeesReads app types.presents
  pub covered : AreCovered app
  pub apart : AreApart app
  pub faithful : AreFaithful app types (trees_of l.old)

-- each update with a cache in a form stands in a display of the application
abbrev pub IsOwn : App → ShapeTree → Type 0
IsOwn app f = (u : Sited) → Has u f → IsUpdateOf app u

-- where a recorded update may be kept at an opening with this key, the body that is drawn there ends as it says
pub record StandsFor (scene : Scene) (env : Env) (body : ShapeTrees) (key : KeyAt) : Type 0 where
  pub ends : (h : HeadAt) (inside : List (Mark Item)) (o : OpeningAt) → IfSome h.cache (IsRecorded scene.app scene.types h inside)
      → may_keep h o ≡ true → key.site ≡ h.site → o.cache ≡ key.cache
      → EndsAs h inside (shift_at h o) o.ambient
      (body_from o.depth (record { budget = o.budget; weight = o.weight }) scene env body o.ambient).outcome

module _ {T : Type 0} (holds : T → Member) (presents : T → Presents) where
  -- what is drawn over a ground
  abbrev pub scene_over : Ground T → Scene
  scene_over ground = scene_at holds presents ground.place

  -- what reuse rests on over a ground
  abbrev pub IsReusableOver : Ground T → Type 0
  IsReusableOver ground = IsReusable (scene_over ground).app (scene_over ground).types ground.old.now

  -- what a body comes to there, behind a cost
  abbrev pub body_over : Ground T → ShapeTrees → DrawingAt → (cost : ℕ) → DrawOutcome
  body_over ground body s cost =
      (bodies_at holds presents ground.place).draw (left_over (allowance_at ground.place) cost s.weight)
      (variables_of ground.place.here.scope.now) body (enter_body s)

  -- an update with this key, whose forms are the application's own, and for whose body recorded updates stand
  pub record IsOwnBody (ground : Ground T) (key : KeyAt) (body : ShapeTrees) : Type 0 where
    pub own : AreOwn (scene_over ground).app body
    pub stands : StandsFor (scene_over ground) (variables_of ground.place.here.scope.now) body key
