-- What the last steps of the load answer. Out of memory answers nothing.
use Rattle.std.specs.Prelude.{◌≡◌, ◌⊎◌, ℕ, List, [], ◌∷◌, Option, Some, None, Result, Ok, Err}
use Rattle.cl_application.specs.declared.applications.App.{App}
use Rattle.cl_expressions.specs.Load.{Fault, Notes}
use Rattle.cl_forms.specs.declared.refusals.FormRefusal.{FormRefusal}
use Rattle.cl_forms.specs.declared.refusals.FormRefusal.TheVariants.{Refused, Memory}
use Rattle.cl_declare.specs.declared.declarations.Declarations.{Declarations}
use Rattle.cl_declare.specs.declared.frames.FrameForm.{FrameForm}
use Rattle.cl_eval.specs.Slots.{Slots}
use Rattle.cl_lattice.specs.Laws.{AllFit}
use Rattle.cl_lattice.specs.World.{World}
use Rattle.cl_opening.specs.Opening.{first_unfit, opening_slots}
use Rattle.cl_load.specs.Outcome.{IsVerdict}
use Rattle.cl_opening.specs.Placing.{place_frame}
use Rattle.cl_opening.specs.Readings.{FindsReading}
use Rattle.cl_load.specs.Refusals.{app_in, app_of, first_fault, frame_faults, frame_missed, no_place, numbered}
use Rattle.cl_load.specs.Types.{Bounds, FindsLarge, FindsMisfit, FindsRing, FindsTypeRing, declared_types, first_missing, holds_in, types_in}
use Rattle.cl_tables.specs.Rings.{HasNoRing}
use Rattle.cl_load.specs.declared.application.Opened.{Opened}

-- what the frame of declarations comes to
pub record FrameSettled (bounds : Bounds) (length : ℕ) (s : Declarations) (o : Result App Fault) : Type 0 where
  pub reading : Option ℕ
  pub found : FindsReading s reading
  pub verdict : IsVerdict (first_fault (frame_faults bounds length s reading)) (app_in s s.frames) o

-- the application with its types, or the first fault of its frame; want of memory answers nothing
abbrev pub Settles : Result Opened FormRefusal → Bounds → ℕ → Declarations → Type 0
Settles (Ok opened) bounds length s = FrameSettled bounds length s (Ok opened.app) × (opened.lattice ≡ types_in bounds opened.app)
Settles (Err (Refused number at)) bounds length s = FrameSettled bounds length s (Err (number, at))
Settles (Err Memory) bounds length s = Unit {0}

-- the one frame
abbrev pub TakesFrame : Result FrameForm FormRefusal → ℕ → List FrameForm → Type 0
TakesFrame (Ok f) length frames = frames ≡ f ∷ []
TakesFrame (Err (Refused number at)) length frames = numbered 14 (frame_missed length frames) ≡ Some (number, at)
TakesFrame (Err Memory) length frames = Unit {0}

-- the application of declarations with their one frame at its place
pub record AppFramed (s : Declarations) (app : App) : Type 0 where
  pub form : FrameForm
  pub one : s.frames ≡ form ∷ []
  pub placed : place_frame form ≡ Ok app.frame
  pub made : app ≡ app_of s app.frame

-- the application with its frame, or the fault of the frame; want of memory answers nothing
abbrev pub FramesApp : Result App FormRefusal → ℕ → Declarations → Type 0
FramesApp (Ok app) length s = AppFramed s app
FramesApp (Err (Refused number at)) length s = first_fault (numbered 14 (frame_missed length s.frames) ∷ no_place s.frames ∷ []) ≡ Some (number, at)
FramesApp (Err Memory) length s = Unit {0}

-- what is looked for once the frame has a place: a host type of which there is none, an opening value, a default or an `:else` that is not fit
abbrev pub last_faults : Bounds → World → App → List (Option Fault)
last_faults bounds w app = numbered 16 (first_missing bounds app.hosts) ∷ numbered 12 (first_unfit (holds_in w app) app) ∷ []

-- the opening slots
abbrev pub OpensLast : Result Slots FormRefusal → Bounds → World → App → Type 0
OpensLast (Ok slots) bounds w app = (first_fault (last_faults bounds w app) ≡ None) × (slots ≡ opening_slots app)
OpensLast (Err (Refused number at)) bounds w app = first_fault (last_faults bounds w app) ≡ Some (number, at)
OpensLast (Err Memory) bounds w app = Unit {0}

-- the application with its types
abbrev pub Opens : Result Opened FormRefusal → Bounds → App → World → Type 0
Opens (Ok opened) bounds app w = (opened.app ≡ app) × (opened.lattice ≡ w) × (first_fault (last_faults bounds w app) ≡ None)
Opens (Err (Refused number at)) bounds app w = first_fault (last_faults bounds w app) ≡ Some (number, at)
Opens (Err Memory) bounds app w = Unit {0}

-- the lattice of the types that are declared, and no ring; or what is wrong with them: a ring, or else an argument that comes to stand where it is not
-- taken, or else a type past the limits
abbrev pub Builds : Result World FormRefusal → Bounds → Declarations → Notes → Type 0
Builds (Ok w) bounds s notes =
    (w ≡ declared_types bounds s) × FindsRing bounds s None × FindsMisfit s notes None × FindsLarge bounds s notes None × HasNoRing s.tables
Builds (Err (Refused number at)) bounds s notes =
    ((number ≡ 9) × FindsRing bounds s (Some at)) ⊎ ((number ≡ 6) × FindsRing bounds s None × FindsMisfit s notes (Some at))
    ⊎ ((number ≡ 13) × FindsRing bounds s None × FindsMisfit s notes None × FindsLarge bounds s notes (Some at))
Builds (Err Memory) bounds s notes = Unit {0}

-- the same, where command tables are left out
abbrev pub BuildsTypes : Result World FormRefusal → Bounds → Declarations → Notes → Type 0
BuildsTypes (Ok w) bounds s notes =
    (w ≡ declared_types bounds s) × FindsTypeRing bounds s None × FindsMisfit s notes None × FindsLarge bounds s notes None
BuildsTypes (Err (Refused number at)) bounds s notes =
    ((number ≡ 9) × FindsTypeRing bounds s (Some at)) ⊎ ((number ≡ 6) × FindsTypeRing bounds s None × FindsMisfit s notes (Some at))
    ⊎ ((number ≡ 13) × FindsTypeRing bounds s None × FindsMisfit s notes None × FindsLarge bounds s notes (Some at))
BuildsTypes (Err Memory) bounds s notes = Unit {0}

-- the lattice where no misfit is told
abbrev pub Fits : Result World FormRefusal → World → Option ℕ → Type 0
Fits (Ok w) lattice misfit = (w ≡ lattice) × AllFit w × (misfit ≡ None)
Fits (Err (Refused number at)) lattice misfit = (number ≡ 6) × (misfit ≡ Some at)
Fits (Err Memory) lattice misfit = ⊥
