-- What handling a gesture answers, against what the definition says.
use Rattle.std.specs.Prelude.{◌≡◌, ℕ, ◌==◌, Bool, true, false, List, [], ◌∷◌, Result, Ok, Err}
use Rattle.std.specs.Cmp.Lexicographic.{pointwise}
use Rattle.std.specs.Map.{lookup}
use Rattle.cl_eval.specs.Slots.{Slots}
use Rattle.cl_frame.specs.Frames.{marks_of_frame}
use Rattle.cl_frame.specs.declared.frames.Frame.{Frame}
use Rattle.cl_redisplay.specs.Screens.{is_fault}
use Rattle.cl_redisplay.specs.declared.screens.Painted.{Painted}
use Rattle.cl_session.specs.declared.answers.Replies.{Replies}
use Rattle.cl_session.specs.declared.handling.After.{After}
use Rattle.cl_session.specs.declared.handling.After.TheVariants as after
use Rattle.cl_session.specs.declared.handling.Desk.{Desk}
use Rattle.cl_session.specs.declared.handling.Handling.{Handling}
use Rattle.cl_session.specs.declared.handling.Handling.TheVariants as handling
use Rattle.cl_session.specs.Runs.{Handled}
use Rattle.cl_session.specs.World.{Enabled, World}
use Rattle.cl_tables.specs.Enabled.{States}

-- which commands are enabled, by what is kept of it
abbrev pub enabled_in : States → Enabled
enabled_in states x = lookup (pointwise ◌==◌ x) states

-- a session as a world: these slots, what lies on the desk, and the frame
abbrev pub world_at : Slots → Desk → Frame → World
world_at slots desk frame = record {
  slots = slots;
  line = desk.line;
  enabled = enabled_in desk.enabled;
  dialog = desk.dialog;
  panes = marks_of_frame frame;
  stale = frame.screen.stale;
}

-- slots change only where a command commits
abbrev pub KeepsSlots : After → (old new : Slots) → Type 0
KeepsSlots after.Nothing old new = new ≡ old
KeepsSlots after.Commit old new = Unit {0}
KeepsSlots after.Force old new = new ≡ old

-- the replies, the world and what follows; want of memory leaves slots and desk
abbrev pub HandlesTo : Handled → Frame → Handling → (slots_old slots_new : Slots) → (desk_old desk_new : Desk) → Type 0
HandlesTo h frame (handling.Replied replies next) slots_old slots_new desk_old desk_new =
    (h ≡ record { replies = replies; world = world_at slots_new desk_new frame; after = next; cost = h.cost }) × KeepsSlots next slots_old slots_new
HandlesTo h frame handling.Memory slots_old slots_new desk_old desk_new = (slots_new ≡ slots_old) × (desk_new ≡ desk_old)

-- the handling met want of memory
abbrev pub handling_met : Handling → Bool
handling_met (handling.Replied replies next) = false
handling_met handling.Memory = true

-- one line and nothing else, where there is memory for it
abbrev pub IsReply : List ℕ → Handling → Type 0
IsReply bytes (handling.Replied replies next) = (replies ≡ bytes ∷ []) × (next ≡ after.Nothing)
IsReply bytes handling.Memory = Unit {0}

-- lines and nothing else; want of memory, where there are none
abbrev pub ToldOf : {E : Type 0} → Result (List (List ℕ)) E → Handling → Type 0
ToldOf (Ok lines) answer = answer ≡ handling.Replied lines after.Nothing
ToldOf (Err e) answer = answer ≡ handling.Memory

-- what follows a handling; nothing where it met want of memory
abbrev pub after_of : Handling → After
after_of (handling.Replied replies next) = next
after_of handling.Memory = after.Nothing

-- the replies behind a handling, and whether the device failed
abbrev pub AreRepliesOf : Handling → Painted → Replies → Type 0
AreRepliesOf (handling.Replied replies next) painted r = (r.own ≡ replies) × (r.memory ≡ false) × (r.wire ≡ is_fault painted)
AreRepliesOf handling.Memory painted r = (r.own ≡ []) × (r.memory ≡ true) × (r.wire ≡ is_fault painted)
