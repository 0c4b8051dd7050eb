-- What a session is as a world, and when it fits an application and slots.
use Rattle.std.specs.Prelude.{◌≡◌, ℕ, ◌+◌, true, List, [], ◌∷◌, map}
use Rattle.cl_application.specs.Panes.{panes_of}
use Rattle.cl_application.specs.declared.declarations.PaneDecl.{PaneDecl}
use Rattle.cl_eval.specs.Slots.{Slots}
use Rattle.cl_frame.specs.Frames.{ArePanesFaithful, IsFrameOf, reports_of_frame}
use Rattle.cl_frame.specs.Ground.{Ground}
use Rattle.cl_frame.specs.Settling.{report_after}
use Rattle.cl_gesture.specs.declared.answers.Gesture.{Gesture}
use Rattle.cl_session.specs.declared.answers.Replies.{Replies}
use Rattle.cl_session.specs.declared.sessions.Session.{Session}
use Rattle.cl_session.specs.Current.{IsCurrent}
use Rattle.cl_session.specs.Handling.{world_at}
use Rattle.cl_session.specs.Accessible.{IsAccessible}
use Rattle.cl_session.specs.Replies.{met_of, own_lines}
use Rattle.cl_session.specs.Step.{handled_or_not, next, settled_behind}
use Rattle.cl_session.specs.Totals.{with_gesture}
use Rattle.cl_session.specs.World.{World, cost_of_pane}
use Rattle.cl_updating.specs.Redisplays.{CanReuse}

-- the world of a session and slots
abbrev pub world_of : Session → Slots → World
world_of session slots = world_at slots session.desk session.frame

-- A session fits an application and slots: the histories of the application's displays may be reused; the session has what is accessible from the
-- application's command table; its frame is that of the application, with the cells of its histories on the screen, and these histories are faithful;
-- and each pane has the script of its display on these slots, or is blank for want of memory.
pub record Fits (g : Ground) (slots : Slots) (session : Session) : Type 0 where
  pub reuse : CanReuse g.app g.types
  pub accessible : IsAccessible g.app session.accessible
  pub frame : IsFrameOf g.app session.frame
  pub faithful : ArePanesFaithful g.app g.types session.frame.panes.items
  pub current : IsCurrent g (world_of session slots)

-- what the displays of panes cost together on these slots, from nothing
abbrev pub costs_of_panes : Ground → Slots → List PaneDecl → ℕ
costs_of_panes g slots [] = 0
costs_of_panes g slots (d ∷ ds) = cost_of_pane g slots d + costs_of_panes g slots ds

-- what those of all panes cost
abbrev pub cost_of_panes : Ground → Slots → ℕ
cost_of_panes g slots = costs_of_panes g slots (panes_of g.app)

-- A gesture took the world to the next one, and these are the replies: the own lines of its handling, and the reports of the panes, which are
-- counted.
pub record StepsTo (g : Ground) (old new : Session) (slots_old slots_new : Slots) (act : Gesture) (replies : Replies) : Type 0 where
  pub world : world_of new slots_new ≡ (next g (world_of old slots_old) act (met_of new.frame replies)).world
  pub own : own_lines replies.memory replies.own ≡ (handled_or_not g (world_of old slots_old) act replies.memory).replies
  pub none_of_own : replies.memory ≡ true → replies.own ≡ []
  pub reports : reports_of_frame new.frame
      ≡ map report_after (settled_behind g (handled_or_not g (world_of old slots_old) act replies.memory) (met_of new.frame replies).panes)
  pub totals : new.totals ≡ with_gesture old.totals replies.memory (reports_of_frame new.frame)
