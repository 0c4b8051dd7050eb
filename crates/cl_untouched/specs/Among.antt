-- What a display keeps of an old history, and what is touched where it takes its place: told by the marks of both.
use Rattle.std.specs.Prelude.{List}
use Rattle.cl_region.specs.declared.rects.Rect.{Rect}
use Rattle.cl_eval.specs.Outcome.{Outcome, Gives, Traps}
use Rattle.cl_medium.specs.Items.{Item, item_bounds, move_item}
use Rattle.cl_record.specs.Marks.{Mark}
use Rattle.cl_record.specs.Shifts.{still}
use Rattle.cl_record.specs.Trees.{trees_of}
use Rattle.cl_display.specs.Drawings.{DrawingAt}
use Rattle.cl_display.specs.Outcomes.{DrawOutcome}
use Rattle.cl_display.specs.Script.{history_of}
use Rattle.cl_reuse.specs.Records.{records_of}
use Rattle.cl_damage.specs.Keeps.{Keeps, none}
use Rattle.cl_damage.specs.NewChildren.{new_children, old_children}
use Rattle.cl_damage.specs.SameItems.{same_item}
use Rattle.cl_damage.specs.Touched.{touched}
use Rattle.cl_untouched.specs.Keeps.{keeps_of}

-- a display that trapped keeps nothing
abbrev pub if_ended : Outcome DrawingAt → Keeps → Keeps
if_ended (Gives s cost deepest) ks = ks
if_ended (Traps kind cost deepest) ks = none

-- what a display keeps of a history with these marks, level by level
abbrev pub keeps_among : List (Mark Item) → DrawOutcome → Keeps
keeps_among old drawn = if_ended drawn.outcome (keeps_of still (trees_of (records_of old)) drawn.walk)

-- what is touched where a history takes the place of another one, of which this is kept
abbrev pub touched_between : (old new : List (Mark Item)) → Keeps → List Rect
touched_between old new ks = touched item_bounds same_item (old_children move_item (records_of old)) (new_children move_item (records_of new) ks)

-- what is touched where the history that a display leaves takes the place of one with these marks
abbrev pub touched_by : (old : List (Mark Item)) → DrawOutcome → List Rect
touched_by old drawn = touched_between old (history_of drawn.outcome) (keeps_among old drawn)
