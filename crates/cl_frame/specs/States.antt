-- What panes are settled by: the slots, and what fills a pane in the place of its display.
use Rattle.std.specs.Prelude.{ℕ, if◌then◌else◌, List, [], Option, Some, None, option_map}
use Rattle.std.specs.Str.{bytes_eq}
use Rattle.cl_application.specs.App.{body_of, display_named, forms_of}
use Rattle.cl_application.specs.declared.applications.App.{App}
use Rattle.cl_application.specs.declared.declarations.PaneDecl.{PaneDecl}
use Rattle.cl_eval.specs.Slots.{Env, Slots}
use Rattle.cl_syntax.specs.ShapeTree.{ShapeTree}
use Rattle.cl_frame.specs.declared.states.Filling.{Filling}
use Rattle.cl_frame.specs.declared.states.State.{State}

-- a pane of this name shows this display of the application, with these variables
pub record FillingAt : Type 0 where
  pub pane : List ℕ
  pub display : List ℕ
  pub env : Env

-- the slots, and what fills a pane, if anything does
pub record StateAt : Type 0 where
  pub slots : Slots
  pub filling : Option FillingAt

-- a filling of the program, as it is now
abbrev pub filling_of : Filling → FillingAt
filling_of f = record { pane = f.pane.now; display = f.display.now; env = f.env.now }

-- a state of the program, as it is now
abbrev pub state_of : State → StateAt
state_of s = record { slots = s.slots.now; filling = option_map filling_of s.filling }

-- what fills this pane, if anything does
abbrev pub filling_in : PaneDecl → Option FillingAt → Option FillingAt
filling_in d None = None
filling_in d (Some f) = if bytes_eq f.pane d.name then Some f else None

-- the display forms that a pane shows: those of its own display, or of the one that fills it
abbrev pub forms_by : App → PaneDecl → Option FillingAt → List ShapeTree
forms_by app d None = forms_of d app
forms_by app d (Some f) = body_of (display_named f.display app)

-- the forms that a pane shows: those of its display, or of the display that fills it
abbrev pub shown_forms : App → PaneDecl → StateAt → List ShapeTree
shown_forms app d s = forms_by app d (filling_in d s.filling)

-- their variables: none, or those of what fills the pane
abbrev pub env_by : Option FillingAt → Env
env_by None = []
env_by (Some f) = f.env

-- the variables of the forms that a pane shows
abbrev pub shown_env : PaneDecl → StateAt → Env
shown_env d s = env_by (filling_in d s.filling)
