-- What a session is between two gestures.
use Rattle.std.specs.Prelude.{ℕ, Bool, true, List, [], map, Option, Some, None, option_map}
use Rattle.cl_application.specs.App.{command_named, dialog_named}
use Rattle.cl_application.specs.Panes.{panes_of}
use Rattle.cl_application.specs.declared.applications.App.{App}
use Rattle.cl_application.specs.declared.declarations.DialogDecl.{DialogDecl}
use Rattle.cl_application.specs.declared.declarations.PaneDecl.{PaneDecl}
use Rattle.cl_dialog.specs.OpenDialog.{OpenDialog}
use Rattle.cl_dialog.specs.Variables.{form_env}
use Rattle.cl_dialog_forms.specs.Names.{form_name}
use Rattle.cl_display.specs.Script.{history_of}
use Rattle.cl_eval.specs.Outcome.{cost_of}
use Rattle.cl_eval.specs.Slots.{Env, Slots}
use Rattle.cl_frame.specs.Ground.{Ground}
use Rattle.cl_frame.specs.Panes.{PaneMarks}
use Rattle.cl_frame.specs.Settling.{pane_draw}
use Rattle.cl_frame.specs.States.{FillingAt, StateAt}
use Rattle.cl_line.specs.declared.elements.Element.{Element}

-- whether a command is enabled, by its name; None of a name that no command has
abbrev pub Enabled : Type 0
Enabled = List ℕ → Option Bool

-- the slots, the command line, which commands are enabled, the dialog that is open, if one is, the marks of each pane, and whether the screen is
-- stale: its device may show anything else
pub record World : Type 0 where
  pub slots : Slots
  pub line : List Element
  pub enabled : Enabled
  pub dialog : Option OpenDialog
  pub panes : List PaneMarks
  pub stale : Bool

-- ---- what panes show

-- the form of a dialog of this name, with these variables, in the pane that the dialog is declared for
abbrev pub filling_with : List ℕ → Env → Option DialogDecl → Option FillingAt
filling_with name env None = None
filling_with name env (Some d) = Some (record { pane = d.pane; display = form_name name; env = env })

-- an open dialog fills its pane
abbrev pub filling_by : App → Option OpenDialog → Option FillingAt
filling_by app None = None
filling_by app (Some o) = filling_with o.name (form_env o.queries) (dialog_named o.name app)

-- what panes show in a world: its slots, and the dialog that is open
abbrev pub state_in : App → World → StateAt
state_in app w = record { slots = w.slots; filling = filling_by app w.dialog }

-- the slots alone, where no dialog is open
abbrev pub state_without : Slots → StateAt
state_without slots = record { slots = slots; filling = None }

-- a pane has its script
abbrev pub script_of : Ground → StateAt → PaneDecl → PaneMarks
script_of g s d = Some (history_of (pane_draw g.limits g.app g.types d s).outcome)

-- ---- the opening

-- all commands are enabled
abbrev pub all_enabled : App → Enabled
all_enabled app x = option_map (λ c. true) (command_named x app)

-- The world at the opening: an empty line, all commands are enabled, no dialog is open, and each pane has its script. The screen is stale where
-- the device failed in it.
abbrev pub opening : Ground → Slots → (failed : Bool) → World
opening g slots failed = record {
  slots = slots;
  line = [];
  enabled = all_enabled g.app;
  dialog = None;
  panes = map (script_of g (state_without slots)) (panes_of g.app);
  stale = failed;
}

-- what the display of a pane costs from nothing at the opening
abbrev pub cost_of_pane : Ground → Slots → PaneDecl → ℕ
cost_of_pane g slots d = cost_of (pane_draw g.limits g.app g.types d (state_without slots)).outcome
