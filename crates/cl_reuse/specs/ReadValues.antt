-- Values at the paths that display forms read, and what is asked of the texts of values.
use Rattle.std.specs.Prelude.{◌≡◌, ℕ, []}
use Rattle.cl_value.specs.Data.{Data}
use Rattle.cl_syntax.specs.ShapeTree.{ShapeTrees}
use Rattle.cl_syntax.specs.TypeSpecTree.{TypeSpecTree}
use Rattle.cl_syntax.specs.declared.paths.Path.{Path}
use Rattle.cl_application.specs.declared.applications.App.{App}
use Rattle.cl_eval.specs.PathValues.{value_at}
use Rattle.cl_eval.specs.ReadPaths.{AreRead, ReadsSpec, Within}
use Rattle.cl_eval.specs.Slots.{Env, Slots}
use Rattle.cl_eval.specs.TypeMeanings.{Presents, TypeMeanings}
use Rattle.cl_eval.specs.declared.metering.Limits.{Limits}
use Rattle.cl_display.specs.Fresh.{Scene}

-- what is drawn of an application on these slots
abbrev pub scene_on : App → Slots → TypeMeanings → Scene
scene_on app slots types = record { app = app; slots = slots; types = types }

-- the same value, or none in both, at each path that display forms read
abbrev pub AgreeOnForms : App → ShapeTrees → Slots → Env → Slots → Env → Type 0
AgreeOnForms app forms slots env other_slots other_env =
    (p : Path) → AreRead app p forms → value_at app p slots env ≡ value_at app p other_slots other_env

-- the same value, or none in both, at each path that the present methods read which a specifier reaches; these are slots and their fields
abbrev pub AgreeOnSpec : App → TypeSpecTree → (slots other : Slots) → Type 0
AgreeOnSpec app spec slots other =
    (p : Path) (calls : ℕ) → ReadsSpec (Within calls app p) spec → value_at app p slots [] ≡ value_at app p other []

-- The text of a value by a specifier depends on the slots at the paths alone that the present methods read which the specifier reaches. The
-- laws of texts ask for the same slots in all present methods of the application, so that this does not follow from them.
pub record SeesReads (app : App) (presents : Presents) : Type 0 where
  pub same : (limits : Limits) (slots other : Slots) (spec : TypeSpecTree) → AgreeOnSpec app spec slots other → (d : Data)
      → presents limits slots spec d ≡ presents limits other spec d
