-- Faithful records: each update with a cache stands as its body would be drawn anew, somewhere and under some limits, where what the cache
-- lists has the values that it holds. Where a branch stands is not asked: what it holds is relative to its place.
use Rattle.std.specs.Prelude.{◌≡◌, ℕ, List, IfSome}
use Rattle.cl_value.specs.Data.{Data}
use Rattle.cl_application.specs.declared.applications.App.{App}
use Rattle.cl_eval.specs.Outcome.{Gives}
use Rattle.cl_eval.specs.Slots.{Env, Slots}
use Rattle.cl_eval.specs.TypeMeanings.{TypeMeanings}
use Rattle.cl_medium.specs.Ambients.{AmbientAt}
use Rattle.cl_medium.specs.Items.{Item, move_item}
use Rattle.cl_record.specs.Heads.{HeadAt}
use Rattle.cl_record.specs.Marks.{Mark, history_marks, marks_of_all}
use Rattle.cl_record.specs.Trees.{Tree, Trees, leaf, none, presentation, tree, trees_of, update}
use Rattle.cl_display.specs.Drawings.{DrawingAt}
use Rattle.cl_display.specs.Fresh.{Allowance}
use Rattle.cl_display.specs.Updates.{measures_at}
use Rattle.cl_reuse.specs.Bodies.{body_from}
use Rattle.cl_reuse.specs.ReadValues.{scene_on}
use Rattle.cl_reuse.specs.Sited.{HoldCache, IsUpdateOf, Sited}

-- what an update says of itself and the marks inside are those of its body, drawn on some slots and with some variables that give what the
-- cache lists these values
pub record IsRecorded (app : App) (types : TypeMeanings) (head : HeadAt) (inside : List (Mark Item)) (values : List Data) : Type 0 where
  pub update : Sited
  pub declared : IsUpdateOf app update
  pub site : update.site ≡ head.site
  pub slots : Slots
  pub env : Env
  pub cached : HoldCache app slots env update.cache values
  pub depth : ℕ
  pub allowed : Allowance
  pub start : AmbientAt
  pub end : DrawingAt
  pub drawn : (body_from depth allowed (scene_on app slots types) env update.body start).outcome ≡ Gives end head.measures.cost head.measures.reach
  pub measured : head.measures ≡ measures_at start end head.measures.cost head.measures.reach
  pub marks : inside ≡ end.part.marks

-- each update with a cache is recorded so
abbrev mutual
  pub IsFaithful : App → TypeMeanings → Tree Item → Type 0
  IsFaithful app types (leaf a) = Unit {0}
  IsFaithful app types (presentation l p ts) = AreFaithful app types ts
  IsFaithful app types (update h p ts) = IfSome h.cache (IsRecorded app types h (marks_of_all move_item ts)) × AreFaithful app types ts

  -- of trees in a row
  pub AreFaithful : App → TypeMeanings → Trees Item → Type 0
  AreFaithful app types none = Unit {0}
  AreFaithful app types (tree t ts) = IsFaithful app types t × AreFaithful app types ts

-- the updates of a history with a cache are recorded so
pub record IsFaithfulHistory (app : App) (types : TypeMeanings) (history : List (Tree Item)) : Type 0 where
  pub all : AreFaithful app types (trees_of history)

-- marks are those of a history whose updates with a cache are recorded so
pub record HasFaithfulHistory (app : App) (types : TypeMeanings) (marks : List (Mark Item)) : Type 0 where
  pub history : List (Tree Item)
  pub marks_are : marks ≡ history_marks move_item history
  pub faithful : IsFaithfulHistory app types history
