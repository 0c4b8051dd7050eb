-- What the run of an application in a terminal comes to.
use Rattle.std.specs.Prelude.{◌≡◌, ◌⊎◌, ℕ, Bool, true, false, List, Option, ⊤}
use Rattle.cl_ansi.specs.Screen.{part_of}
use Rattle.cl_ansi.specs.Sequences.{leave_bytes}
use Rattle.cl_ansi.specs.Terminal.{Terminal, Writes, screen_of}
use Rattle.cl_application.specs.Panes.{panes_of}
use Rattle.cl_application.specs.declared.applications.App.{App}
use Rattle.cl_eval.specs.Slots.{Slots}
use Rattle.cl_frame.specs.Ground.{Ground}
use Rattle.cl_frame.specs.Panes.{shown_panes}
use Rattle.cl_keys.specs.Decoding.{at_rest}
use Rattle.cl_outside.specs.Causes.{Rose}
use Rattle.cl_outside.specs.declared.answers.Sent.{Sent}
use Rattle.cl_outside.specs.declared.answers.Sent.TheVariants.{Done}
use Rattle.cl_redisplay.specs.Shown.{shown_at}
use Rattle.cl_redisplay.specs.Wires.{ShowsCells}
use Rattle.cl_session.specs.Transcript.{RoseIf}
use Rattle.cl_session.specs.World.{World, opening}
use Rattle.cl_terminal.specs.Serving.{Serves, Standing, standing}
use Rattle.cl_terminal.specs.declared.flows.Closing.{Closing}
use Rattle.cl_terminal.specs.declared.flows.Closing.TheVariants as closing
use Rattle.cl_terminal.specs.declared.running.RunEnd.{RunEnd}
use Rattle.cl_terminal.specs.declared.running.RunEnd.TheVariants as end

-- A terminal shows a world: of all bytes that it was sent, where they are told, a terminal shows in each cell of the frame what the first pane has
-- there whose area covers it, and a blank where none does.
abbrev pub ShowsWorld : App → World → Terminal → Type 0
ShowsWorld app w t = t.told ≡ true
    → ShowsCells app.frame.width app.frame.height (shown_at (shown_panes (panes_of app) w.panes)) (part_of (screen_of t.taken) app.frame.width app.frame.height)

-- The last bytes that the terminal was sent are those that give it back as it was found; or it failed within them.
pub record IsGivenBack (t : Terminal) : Type 0 where
  pub before : Terminal
  pub sent : Sent
  pub writes : Writes before t leave_bytes sent

-- unless the terminal failed, it shows the world, where its screen is not stale
abbrev pub ShowsAt : App → World → Terminal → Closing → Type 0
ShowsAt app w t closing.Done = w.stale ≡ false → ShowsWorld app w t
ShowsAt app w t closing.ReadFault = w.stale ≡ false → ShowsWorld app w t
ShowsAt app w t closing.OutputFault = ⊤
ShowsAt app w t closing.TooLong = w.stale ≡ false → ShowsWorld app w t

-- The frame was opened on these slots, and from there on the keys were served. The screen is stale at the opening where the terminal failed in it,
-- and behind each gesture in which it failed.
pub record ServedFrom (g : Ground) (slots : Slots) (left_old left_new : Option (List ℕ)) (keys_old keys_new faults : ℕ) (t : Terminal) (how : Closing) : Type 0 where
  pub failed : Bool
  pub opened_at : ℕ
  pub rose : RoseIf failed faults opened_at
  pub to : Standing
  pub serves : Serves g (standing at_rest (opening g slots failed)) to left_old left_new keys_old keys_new opened_at t.faults how
  pub shows : ShowsAt g.app to.world t how

-- the keys were served, and then the terminal was given back
pub record ServedAndLeft (g : Ground) (slots : Slots) (left_old left_new : Option (List ℕ)) (keys_old keys_new : ℕ) (old new : Terminal) (how : Closing) : Type 0 where
  pub before : Terminal
  pub served : ServedFrom g slots left_old left_new keys_old keys_new old.faults before how
  pub left : Writes before new leave_bytes Done

-- no key was read
abbrev pub NoneRead : (left_old left_new : Option (List ℕ)) → (keys_old keys_new : ℕ) → Type 0
NoneRead left_old left_new keys_old keys_new = (left_new ≡ left_old) × (keys_new ≡ keys_old)

-- what was done before the terminal failed: no key was read, where it failed to be taken over, or the keys were served
abbrev pub DoneBefore : Ground → Slots → (left_old left_new : Option (List ℕ)) → (keys_old keys_new faults : ℕ) → Type 0
DoneBefore g slots left_old left_new keys_old keys_new faults =
    NoneRead left_old left_new keys_old keys_new
    ⊎ ((how : Closing) × (before : Terminal) × ServedFrom g slots left_old left_new keys_old keys_new faults before how)

-- what a run that served its keys comes to: where the output failed, a count of faults of the terminal rose
abbrev pub RanServed : Ground → Slots → (left_old left_new : Option (List ℕ)) → (keys_old keys_new : ℕ) → (old new : Terminal) → Closing → Type 0
RanServed g slots left_old left_new keys_old keys_new old new closing.Done =
    ServedAndLeft g slots left_old left_new keys_old keys_new old new closing.Done
RanServed g slots left_old left_new keys_old keys_new old new closing.ReadFault =
    ServedAndLeft g slots left_old left_new keys_old keys_new old new closing.ReadFault
RanServed g slots left_old left_new keys_old keys_new old new closing.OutputFault =
    Rose old.faults new.faults × DoneBefore g slots left_old left_new keys_old keys_new old.faults
RanServed g slots left_old left_new keys_old keys_new old new closing.TooLong =
    ServedAndLeft g slots left_old left_new keys_old keys_new old new closing.TooLong

-- the same, or out of memory before the first key
abbrev pub Ran : Ground → Slots → (left_old left_new : Option (List ℕ)) → (keys_old keys_new : ℕ) → (old new : Terminal) → RunEnd → Type 0
Ran g slots left_old left_new keys_old keys_new old new end.Memory = NoneRead left_old left_new keys_old keys_new
Ran g slots left_old left_new keys_old keys_new old new (end.Served how) = RanServed g slots left_old left_new keys_old keys_new old new how

-- the frame was opened and the keys were served, in a terminal that is taken over
abbrev pub RanEntered : Ground → Slots → (left_old left_new : Option (List ℕ)) → (keys_old keys_new faults : ℕ) → Terminal → RunEnd → Type 0
RanEntered g slots left_old left_new keys_old keys_new faults t end.Memory = NoneRead left_old left_new keys_old keys_new
RanEntered g slots left_old left_new keys_old keys_new faults t (end.Served how) =
    ServedFrom g slots left_old left_new keys_old keys_new faults t how

-- the end of a run where the terminal failed to be given back
abbrev pub despite_fault : RunEnd → RunEnd
despite_fault end.Memory = end.Memory
despite_fault (end.Served how) = end.Served closing.OutputFault
