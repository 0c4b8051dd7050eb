-- Which pane is asked for, and what is told of it.
use Rattle.std.specs.List.{position_from}
use Rattle.std.specs.Prelude.{◌≡◌, ℕ, Bool, List, Option, Some, slice_get}
use Rattle.std.specs.Str.{str_eq_ignore_ascii_case}
use Rattle.cl_application.specs.declared.declarations.PaneDecl.{PaneDecl}
use Rattle.cl_frame.specs.Panes.{PaneMarks}
use Rattle.cl_session.specs.Step.{history_rows}

-- the pane has this name, without regard to case
abbrev pub is_pane_named : List ℕ → PaneDecl → Bool
is_pane_named name d = str_eq_ignore_ascii_case name d.name

-- the place of the first pane of this name
abbrev pub place_of_pane : List ℕ → List PaneDecl → Option ℕ
place_of_pane name ds = position_from (is_pane_named name) 0 ds

-- these are the lines of the history of the pane in this place
pub record TellsPane (ds : List PaneDecl) (marks : List PaneMarks) (place : ℕ) (lines : List (List ℕ)) : Type 0 where
  pub declared : PaneDecl
  pub shown : PaneMarks
  pub declares : slice_get ds place ≡ Some declared
  pub stands : slice_get marks place ≡ Some shown
  pub tells : lines ≡ history_rows declared.name shown
