-- The refusals of a text whose forms were read, in the order in which they are looked for.
use Rattle.std.specs.Prelude.{ℕ, List, [], ◌∷◌, ◌++◌, Option, Some, None, Result, Ok, Err}
use Rattle.cl_application.specs.declared.applications.App.{App}
use Rattle.cl_application.specs.declared.declarations.FrameDecl.{FrameDecl}
use Rattle.cl_forms.specs.Datum.{Datum}
use Rattle.cl_forms.specs.Outer.{outers_of}
use Rattle.cl_expressions.specs.Load.{Fault, Notes}
use Rattle.cl_dialog_forms.specs.Forms.{with_dialog_displays}
use Rattle.cl_declare.specs.declared.declarations.Declarations.{Declarations}
use Rattle.cl_declare.specs.declared.frames.FrameForm.{FrameForm}
use Rattle.cl_phases.specs.Limits.{first_past}
use Rattle.cl_phases.specs.Twice.{first_twice}
use Rattle.cl_opening.specs.Opening.{first_unfit}
use Rattle.cl_opening.specs.Placing.{place_frame}
use Rattle.cl_load.specs.Types.{Bounds, first_missing, holds_in, types_in}

-- a fault of this number, where there is an offset for it
abbrev pub numbered : ℕ → Option ℕ → Option Fault
numbered number None = None
numbered number (Some at) = Some (number, at)

-- the first that is there
abbrev pub first_fault : List (Option Fault) → Option Fault
first_fault [] = None
first_fault (None ∷ more) = first_fault more
first_fault (Some fault ∷ more) = Some fault

-- no frame, at the end of the text; or the second one
abbrev pub frame_missed : ℕ → List FrameForm → Option ℕ
frame_missed length [] = Some length
frame_missed length (f ∷ []) = None
frame_missed length (f ∷ g ∷ more) = Some g.at

-- the fault of a result, if it is one
abbrev pub fault_in : {A : Type 0} → Result A Fault → Option Fault
fault_in (Ok x) = None
fault_in (Err fault) = Some fault

-- the frame or one of its panes has no place
abbrev pub no_place : List FrameForm → Option Fault
no_place [] = None
no_place (f ∷ more) = fault_in (place_frame f)

-- what is declared, with this frame
abbrev pub declared_app : Declarations → FrameDecl → App
declared_app s f = record {
  records = s.records;
  types = s.types;
  hosts = s.hosts;
  present_methods = s.present_methods;
  accept_methods = s.accept_methods;
  functions = s.functions;
  displays = s.displays;
  tables = s.tables;
  commands = s.commands;
  translators = s.translators;
  dialogs = s.dialogs;
  frame = f;
}

-- the same with the forms of its dialogs behind its displays
abbrev pub app_of : Declarations → FrameDecl → App
app_of s f = with_dialog_displays (declared_app s f)

-- the application with its frame at its place, where it has one
abbrev pub app_placed : Declarations → Result FrameDecl Fault → Option App
app_placed s (Ok f) = Some (app_of s f)
app_placed s (Err fault) = None

-- the application that is declared, where its frame has a place
abbrev pub app_in : Declarations → List FrameForm → Option App
app_in s [] = None
app_in s (f ∷ more) = app_placed s (place_frame f)

-- an opening value, a default or an `:else` that traps or is no member of its type
abbrev pub unfit : Bounds → Option App → Option ℕ
unfit bounds None = None
unfit bounds (Some app) = first_unfit (holds_in (types_in bounds app) app) app

-- what is past a limit; what is declared twice or reserved; the first name that is not declared
abbrev pub form_faults : List Datum → Notes → List (Option Fault)
form_faults ds notes =
    numbered 13 (first_past ds) ∷ numbered 7 (first_twice (outers_of ds)) ∷ numbered 8 notes.unknown ∷ []

-- a ring of user types or of command tables; an argument that comes to stand where it is not taken; a type whose expansion is past a limit
abbrev pub type_faults : (ring misfit large : Option ℕ) → List (Option Fault)
type_faults ring misfit large = numbered 9 ring ∷ numbered 6 misfit ∷ numbered 13 large ∷ []

-- an opening value, a default, an `:else` or a predicate that reads a slot; no frame or two; no place for it; no such host type; an opening value, a
-- default or an `:else` that is not fit
abbrev pub frame_faults : Bounds → ℕ → Declarations → (reading : Option ℕ) → List (Option Fault)
frame_faults bounds length s reading =
    numbered 10 reading ∷ numbered 14 (frame_missed length s.frames) ∷ no_place s.frames ∷ numbered 16 (first_missing bounds s.hosts)
    ∷ numbered 12 (unfit bounds (app_in s s.frames)) ∷ []

-- all of them
abbrev pub faults : Bounds → ℕ → List Datum → Declarations → Notes → (ring misfit large reading : Option ℕ) → List (Option Fault)
faults bounds length ds s notes ring misfit large reading =
    form_faults ds notes ++ type_faults ring misfit large ++ frame_faults bounds length s reading
