-- What a choice is made by.
use Rattle.std.specs.Prelude.{ℕ, Bool, List}
use Rattle.cl_application.specs.declared.applications.App.{App}
use Rattle.cl_eval.specs.Slots.{Slots}
use Rattle.cl_eval.specs.Statements.{Member}
use Rattle.cl_eval.specs.TypeMeanings.{Hierarchy}
use Rattle.cl_tables.specs.Enabled.{is_enabled}
use Rattle.cl_tables.specs.declared.declarations.CommandPlace.{CommandPlace}
use Rattle.cl_translators.specs.declared.declarations.TranslatorPlace.{TranslatorPlace}
use Rattle.cl_translate.specs.declared.choosers.Chooser.{Chooser}

-- an application, which values are members of its types and which types stand above which, the slots, the accessible commands, which commands
-- are enabled, and the accessible translators in their order
pub record Scene : Type 0 where
  pub app : App
  pub holds : Member
  pub hierarchy : Hierarchy
  pub slots : Slots
  pub commands : List CommandPlace
  pub enabled : List ℕ → Bool
  pub translators : List TranslatorPlace

-- that of a chooser, by what its types say
abbrev pub scene_of : {T : Type 0} → (T → Member) → (T → Hierarchy) → Chooser T → Scene
scene_of holds hierarchy c = record {
  app = c.app.now;
  holds = holds c.types.now;
  hierarchy = hierarchy c.types.now;
  slots = c.slots.now;
  commands = c.tables.now.commands;
  enabled = λ x. is_enabled x c.enabled.now;
  translators = c.translators.now;
}
