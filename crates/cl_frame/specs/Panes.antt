-- What a pane shows, and where.
use Rattle.std.specs.Prelude.{◌≡◌, List, [], ◌∷◌, Option, Some, None, unwrap_or}
use Rattle.cl_application.specs.declared.declarations.PaneDecl.{PaneDecl}
use Rattle.cl_medium.specs.Items.{Item, move_item}
use Rattle.cl_record.specs.Counts.{count_of}
use Rattle.cl_record.specs.Marks.{Mark, history_marks}
use Rattle.cl_record.specs.Trees.{Tree}
use Rattle.cl_redisplay.specs.Shown.{Shown}
use Rattle.cl_redisplay.specs.declared.areas.Area.{Area}
use Rattle.cl_frame.specs.declared.panes.Pane.{Pane}
use Rattle.cl_frame.specs.declared.reports.PaneReport.{PaneReport}

-- the marks of a pane's history; None where the pane is blank for want of memory
abbrev pub PaneMarks : Type 0
PaneMarks = Option (List (Mark Item))

-- the marks that a pane shows
abbrev pub marks_in : PaneMarks → List (Mark Item)
marks_in marks = unwrap_or marks []

-- the marks of a history, where a pane has one
abbrev pub marks_of : Option (List (Tree Item)) → PaneMarks
marks_of None = None
marks_of (Some history) = Some (history_marks move_item history)

-- the area of the screen that a pane is declared to have
abbrev pub area_of : PaneDecl → Area
area_of pane = record { x = pane.x; y = pane.y; width = pane.width; height = pane.height }

-- these areas show these marks, each the one in its place
abbrev pub shown_panes : List PaneDecl → List PaneMarks → List Shown
shown_panes [] marks = []
shown_panes (d ∷ ds) [] = []
shown_panes (d ∷ ds) (m ∷ ms) = record { area = area_of d; marks = marks_in m } ∷ shown_panes ds ms

-- ---- the panes of the program

-- the marks of a pane's history
abbrev pub marks_of_pane : Pane → PaneMarks
marks_of_pane p = marks_of p.history

-- the area of the screen that a pane has
abbrev pub area_of_pane : Pane → Area
area_of_pane p = p.area

-- the report of a pane
abbrev pub report_of_pane : Pane → PaneReport
report_of_pane p = p.report

-- what a pane shows, and where
abbrev pub shown_of_pane : Pane → Shown
shown_of_pane p = record { area = p.area; marks = marks_in (marks_of p.history) }

-- its items are counted
abbrev pub IsCounted : Pane → Type 0
IsCounted p = p.items ≡ count_of (marks_in (marks_of p.history))
