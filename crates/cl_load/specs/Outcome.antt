-- What the data of a text come to: an application, or the first of its refusals.
use Rattle.std.specs.Prelude.{◌≡◌, ℕ, List, Option, Some, None, Result, Ok, Err}
use Rattle.cl_application.specs.declared.applications.App.{App}
use Rattle.cl_forms.specs.Datum.{Datum}
use Rattle.cl_forms.specs.Outer.{outers_of}
use Rattle.cl_words.specs.Signatures.{signatures_of}
use Rattle.cl_expressions.specs.Load.{Load, Fault, Notes, nothing_noted}
use Rattle.cl_declare.specs.Declarations.{parse_declarations}
use Rattle.cl_declare.specs.declared.declarations.Declarations.{Declarations}
use Rattle.cl_opening.specs.Readings.{FindsReading}
use Rattle.cl_load.specs.Refusals.{app_in, faults, first_fault, form_faults}
use Rattle.cl_load.specs.Types.{Bounds, FindsLarge, FindsMisfit, FindsRing}

-- the first fault that is there, or the application
abbrev pub IsVerdict : Option Fault → Option App → Result App Fault → Type 0
IsVerdict (Some fault) app o = o ≡ Err fault
IsVerdict None app (Ok a) = app ≡ Some a
IsVerdict None app (Err fault) = ⊥

-- what forms come to that declare this; what is found is looked for where no fault comes before it
pub record Settled (bounds : Bounds) (length : ℕ) (ds : List Datum) (s : Declarations) (notes : Notes) (o : Result App Fault) : Type 0 where
  -- the first user type on a ring
  pub ring : Option ℕ
  pub ring_found : first_fault (form_faults ds notes) ≡ None → FindsRing bounds s ring
  -- the first specifier with an argument that comes to stand where it is not taken
  pub misfit : Option ℕ
  pub misfit_found : first_fault (form_faults ds notes) ≡ None → ring ≡ None → FindsMisfit s notes misfit
  -- the first type that is past the limits
  pub large : Option ℕ
  pub large_found : first_fault (form_faults ds notes) ≡ None → ring ≡ None → misfit ≡ None → FindsLarge bounds s notes large
  -- the first declaration with an opening value, a default, an `:else` or a predicate that reads a slot
  pub reading : Option ℕ
  pub reading_found : first_fault (form_faults ds notes) ≡ None → ring ≡ None → misfit ≡ None → large ≡ None → FindsReading s reading
  pub verdict : IsVerdict (first_fault (faults bounds length ds s notes ring misfit large reading)) (app_in s s.frames) o

-- the fault of a form that comes first in the text comes before all others
abbrev pub Comes : Bounds → ℕ → List Datum → Result (Declarations × Notes) Fault → Result App Fault → Type 0
Comes bounds length ds (Err fault) o = o ≡ Err fault
Comes bounds length ds (Ok r) o = Settled bounds length ds r.0 r.1 o

-- what the outermost forms of data declare
abbrev pub parse : List Datum → Load Declarations
parse ds = parse_declarations (signatures_of (outers_of ds)) (outers_of ds)

-- what the data of a text of this length come to
abbrev pub Outcome : Bounds → ℕ → List Datum → Result App Fault → Type 0
Outcome bounds length ds o = Comes bounds length ds (parse ds nothing_noted) o
