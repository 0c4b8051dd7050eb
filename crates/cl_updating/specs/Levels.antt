-- Old records, among which the updates of a level are found.
use Rattle.std.specs.Prelude.{List}
use Rattle.cl_region.specs.declared.rects.Shift.{Shift}
use Rattle.cl_medium.specs.Items.{Item}
use Rattle.cl_record.specs.Trees.{Tree, trees_of}
use Rattle.cl_display.specs.Walks.{Walk}
use Rattle.cl_reuse.specs.Kept.{OldUpdate, kept_of}
use Rattle.cl_untouched.specs.Keeps.{keeps_of}
use Rattle.cl_updating.specs.Tallies.{KeptIn}
use Rattle.cl_updating.specs.declared.levels.Old.{Old}

-- how far the records of a level stand from the start, and the records
pub record LevelAt : Type 0 where
  pub at : Shift
  pub old : List (Tree Item)

-- old records and by how much they are moved, as a level
abbrev pub level_at : Shift → List (Tree Item) → LevelAt
level_at at old = record { at = at; old = old }

-- what is seen of an old update of the program
abbrev pub old_of : Old → OldUpdate
old_of o = record { head = o.piece.now.head; place = o.place; inside = trees_of o.piece.now.inside }

-- what is kept of a level where these updates are opened
abbrev pub kept_from : LevelAt → Walk → KeptIn
kept_from l w = record { list = kept_of l.at (trees_of l.old) w; keeps = keeps_of l.at (trees_of l.old) w }
