-- What is sent to the device of a frame whose panes are settled.
use Rattle.std.specs.Prelude.{◌≡◌, ℕ, ℤ, Bool, true, false, not, if◌then◌else◌, List, [], ◌∷◌, ◌++◌, Option, Some, None, slice_get}
use Rattle.cl_application.specs.Panes.{panes_of}
use Rattle.cl_application.specs.declared.applications.App.{App}
use Rattle.cl_application.specs.declared.declarations.PaneDecl.{PaneDecl}
use Rattle.cl_display.specs.Outcomes.{DrawOutcome}
use Rattle.cl_frame.specs.States.{StateAt}
use Rattle.cl_outside.specs.Operations.{Op, mended, ops_bytes}
use Rattle.cl_outside.specs.Writing.{Says}
use Rattle.cl_redisplay.specs.Operations.{redraw_ops}
use Rattle.cl_redisplay.specs.Shown.{shown_at}
use Rattle.cl_redisplay.specs.Touching.{everywhere, touched_pane_ops}
use Rattle.cl_redisplay.specs.Wires.{WireShows}
use Rattle.cl_region.specs.Places.{one_holds}
use Rattle.cl_untouched.specs.Among.{touched_by}
use Rattle.cl_frame.specs.Frames.{is_stale_under}
use Rattle.cl_frame.specs.Panes.{PaneMarks, area_of, marks_in, marks_of_pane, shown_panes}
use Rattle.cl_frame.specs.Ground.{Ground}
use Rattle.cl_frame.specs.Settling.{is_due, pane_draw}
use Rattle.cl_frame.specs.declared.panes.Pane.{Pane}
use Rattle.cl_frame.specs.declared.settling.Which.{Which}

-- What is told of a device: the bytes of its wire, how often it failed, and whether the bytes are told at all times.
pub record Wire : Type 0 where
  pub bytes : Option (List ℕ)
  pub faults : ℕ
  pub told : Bool

-- a wire of these parts
abbrev pub wire_of : Option (List ℕ) → (faults : ℕ) → (told : Bool) → Wire
wire_of bytes faults told = record { bytes = bytes; faults = faults; told = told }

-- all bytes were sent; or the device failed behind the first ones
abbrev pub SendsOn : (whole : Bool) → (old new : Wire) → (bytes : List ℕ) → Type 0
SendsOn whole old new bytes = Says whole old.bytes new.bytes bytes old.faults new.faults

-- ---- the operations

-- what is touched of a pane whose display comes to this, in its columns and rows: all of it, where it was blank for want of memory or is so now
abbrev pub touched_in : DrawOutcome → (old new : PaneMarks) → ℤ → ℤ → Bool
touched_in drawn None new = everywhere
touched_in drawn (Some old) None = everywhere
touched_in drawn (Some old) (Some new) = one_holds (touched_by old drawn)

-- those of one pane: they show what is touched of it, where it is settled
abbrev pub step_ops : Ground → Which → StateAt → PaneDecl → (old new : PaneMarks) → List Op
step_ops g which state d old new =
    if is_due which old then touched_pane_ops (area_of d) (marks_in new) (touched_in (pane_draw g.limits g.app g.types d state) old new) else []

-- those of all panes, one after another
abbrev pub settled_ops : Ground → Which → StateAt → List PaneDecl → (olds news : List PaneMarks) → List Op
settled_ops g which state [] olds news = []
settled_ops g which state (d ∷ ds) [] news = []
settled_ops g which state (d ∷ ds) (o ∷ os) [] = []
settled_ops g which state (d ∷ ds) (o ∷ os) (n ∷ ns) = step_ops g which state d o n ++ settled_ops g which state ds os ns

-- those that redraw a frame in full
abbrev pub frame_ops : App → List PaneMarks → List Op
frame_ops app panes = redraw_ops (shown_at (shown_panes (panes_of app) panes)) app.frame.width app.frame.height

-- The bytes of an update. A screen that was stale, or whose histories are discarded, is redrawn in full, after a line feed where the device
-- is broken; else what is touched of each pane that is settled is sent, in order.
abbrev pub update_bytes : Ground → Which → StateAt → (stale broken : Bool) → (olds news : List PaneMarks) → List ℕ
update_bytes g which state stale broken olds news =
    if is_stale_under which stale then mended broken (ops_bytes (frame_ops g.app news)) else ops_bytes (settled_ops g which state (panes_of g.app) olds news)

-- playback of the wire shows these panes, where its bytes are told at all times
abbrev pub ShowsPanes : App → List PaneMarks → Wire → Type 0
ShowsPanes app panes w = WireShows w.told w.bytes app.frame.width app.frame.height (shown_at (shown_panes (panes_of app) panes))

-- ---- one pane

-- nothing is sent of a stale screen; else it is stale then exactly where the device failed
abbrev pub SendsPane : (was_stale is_stale : Bool) → (old new : Wire) → (bytes : List ℕ) → Type 0
SendsPane true is_stale old new bytes = new.bytes ≡ old.bytes
SendsPane false is_stale old new bytes = SendsOn (not is_stale) old new bytes

-- the pane in a place was sent, where it was settled
abbrev pub SendsAt : Ground → Which → StateAt → (place : ℕ) → (olds news : List Pane) → (was_stale is_stale : Bool) → (old new : Wire) → Type 0
SendsAt g which state place olds news was_stale is_stale old new = (d : PaneDecl) (o n : Pane)
    → slice_get (panes_of g.app) place ≡ Some d → slice_get olds place ≡ Some o → slice_get news place ≡ Some n
    → SendsPane was_stale is_stale old new (ops_bytes (step_ops g which state d (marks_of_pane o) (marks_of_pane n)))
