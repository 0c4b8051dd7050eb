-- The lines of the replies to a gesture.
use Rattle.std.specs.Prelude.{ℕ, Bool, true, false, List, [], ◌∷◌, ◌++◌, codes, map}
use Rattle.cl_application.specs.Panes.{panes_of}
use Rattle.cl_application.specs.declared.applications.App.{App}
use Rattle.cl_frame.specs.Frames.{reports_of_frame}
use Rattle.cl_frame.specs.Settling.{met_memory}
use Rattle.cl_frame.specs.declared.frames.Frame.{Frame}
use Rattle.cl_session.specs.declared.answers.Replies.{Replies}
use Rattle.cl_session.specs.Step.{Met, pane_lines, wire_lines}

-- the own lines, or want of memory in their place
abbrev pub own_lines : Bool → List (List ℕ) → List (List ℕ)
own_lines true own = codes "! memory" ∷ []
own_lines false own = own

-- the own lines, then those of the panes that were settled, and last that of a device that failed
abbrev pub lines_of : App → Frame → Replies → List (List ℕ)
lines_of app frame r = own_lines r.memory r.own ++ (pane_lines (panes_of app) (reports_of_frame frame) ++ wire_lines r.wire)

-- what met want of memory, and whether the device failed
abbrev pub met_of : Frame → Replies → Met
met_of frame r = record { handling = r.memory; panes = map met_memory (reports_of_frame frame); wire = r.wire }
