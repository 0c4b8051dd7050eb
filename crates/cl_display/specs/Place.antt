-- What display forms draw at a place.
use Rattle.std.specs.Prelude.{ℕ}
use Rattle.cl_eval.specs.Scope.{variables_of}
use Rattle.cl_eval.specs.Slots.{Env}
use Rattle.cl_eval.specs.Statements.{Member}
use Rattle.cl_eval.specs.TypeMeanings.{Presents}
use Rattle.cl_display.specs.declared.places.Place.{Place}
use Rattle.cl_display.specs.Fresh.{Allowance, Bodies, Draws, Scene, bodies_on, draws}
use Rattle.cl_display.specs.Presentations.{Texts, texts_on}

-- the budget and the weight there
abbrev pub allowance_at : {T : Type 0} → Place T → Allowance
allowance_at place = record { budget = place.here.context.now.budget; weight = place.max_weight }

module _ {T : Type 0} (holds : T → Member) (presents : T → Presents) where
  -- what the display there is drawn of
  abbrev pub scene_at : Place T → Scene
  scene_at place = record {
    app = place.here.context.now.app.now;
    slots = place.here.context.now.slots.now;
    types = record { holds = holds place.types.now; presents = presents place.types.now };
  }

  -- where as many levels are left as there
  abbrev pub texts_at : Place T → Texts
  texts_at place = texts_on (presents place.types.now) place.here.context.now.slots.now place.here.context.now.budget place.here.left

  -- what the body of an update draws at this place
  abbrev pub bodies_at : Place T → Bodies
  bodies_at place = bodies_on place.here.left (scene_at place)

  -- what forms draw at this place
  abbrev pub draws_at : Place T → Draws
  draws_at place = draws place.here.left (allowance_at place) (scene_at place)

  -- what is made of the meaning of forms, a level and variables, by those of a place
  abbrev pub draw_from : {A : Type 0} → Place T → (Draws → ℕ → Env → A) → A
  draw_from place f = f (draws_at place) place.here.level (variables_of place.here.scope.now)
