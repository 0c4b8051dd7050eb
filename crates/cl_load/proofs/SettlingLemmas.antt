-- What the last steps come to, by their answers.
use Rattle.std.proofs.Common.{◌≡◌, ℕ, List, [], ◌∷◌, refl, sym, ap, ◌∙◌, subst}
use Rattle.std.specs.Prelude.{Option, Some, None, Result, Ok, Err}
use Rattle.cl_application.specs.declared.applications.App.{App}
use Rattle.cl_application.specs.declared.declarations.HostDecl.{HostDecl}
use Rattle.cl_expressions.specs.Load.{Fault}
use Rattle.cl_forms.specs.declared.refusals.FormRefusal.{FormRefusal}
use Rattle.cl_forms.specs.declared.refusals.FormRefusal.TheVariants.{Refused, Memory}
use Rattle.cl_declare.specs.declared.declarations.Declarations.{Declarations}
use Rattle.cl_opening.specs.Answers.{Passes}
use Rattle.cl_lattice.specs.World.{World}
use Rattle.cl_eval.specs.Slots.{Slots}
use Rattle.cl_opening.specs.Opening.{OpensSlots, first_unfit}
use Rattle.cl_load.specs.Outcome.{IsVerdict}
use Rattle.cl_opening.specs.Readings.{FindsReading}
use Rattle.cl_load.specs.Refusals.{app_in, app_placed, first_fault, frame_missed, no_place, numbered, unfit}
use Rattle.cl_load.specs.Settling.{AppFramed, FramesApp, Opens, OpensLast, Settles, last_faults}
use Rattle.cl_load.specs.Types.{Bounds, declared_types, first_missing, holds_in, types_in}
use Rattle.cl_load.specs.declared.application.Opened.{Opened}
use Rattle.cl_tables.specs.Rings.{HasNoRing}

-- what is looked for in declarations behind what reads a slot, and behind their frame
abbrev last_of : Bounds → Declarations → List (Option Fault)
last_of bounds s = numbered 16 (first_missing bounds s.hosts) ∷ numbered 12 (unfit bounds (app_in s s.frames)) ∷ []

abbrev after_reading : Bounds → ℕ → Declarations → List (Option Fault)
after_reading bounds size s = numbered 14 (frame_missed size s.frames) ∷ no_place s.frames ∷ last_of bounds s

-- a fault that comes first
stops_first : (a : Option Fault) (more : List (Option Fault)) (given : Option App) (fault : Fault) → a ≡ Some fault → IsVerdict (first_fault (a ∷ more)) given (Err fault)
stops_first a more given fault p = rw p refl

pub stops_reading : (B : Type 0) (e : FormRefusal) (bounds : Bounds) (size : ℕ) (s : Declarations) (reading : Option ℕ) → FindsReading s reading
    → Passes {B = B} (Err e) (numbered 10 reading) → Settles (Err e) bounds size s
stops_reading B (Refused number at) bounds size s reading found h =
    record { reading = reading; found = found; verdict = stops_first (numbered 10 reading) (after_reading bounds size s) (app_in s s.frames) (number, at) h }
stops_reading B Memory bounds size s reading found h = tt

-- a fault that is not there is passed
first_past : (a : Option Fault) (more : List (Option Fault)) → a ≡ None → first_fault (a ∷ more) ≡ first_fault more
first_past a more p = rw p refl

two_found : (b c : Option Fault) (more : List (Option Fault)) (fault : Fault) → first_fault (b ∷ c ∷ []) ≡ Some fault → first_fault (b ∷ c ∷ more) ≡ Some fault
two_found (Some x) c more fault h = h
two_found None (Some x) more fault h = h
two_found None None more fault h = cc

-- a fault of two, past one that is not there
stops_second : (a b c : Option Fault) (more : List (Option Fault)) (given : Option App) (fault : Fault) → a ≡ None → first_fault (b ∷ c ∷ []) ≡ Some fault
    → IsVerdict (first_fault (a ∷ b ∷ c ∷ more)) given (Err fault)
stops_second a b c more given fault p h = rw (first_past a (b ∷ c ∷ more) p ∙ two_found b c more fault h) refl

pub stops_frame : (e : FormRefusal) (bounds : Bounds) (size : ℕ) (s : Declarations) (reading : Option ℕ) → FindsReading s reading → numbered 10 reading ≡ None
    → FramesApp (Err e) size s → Settles (Err e) bounds size s
stops_frame (Refused number at) bounds size s reading found none h =
    record {
      reading = reading;
      found = found;
      verdict = stops_second (numbered 10 reading) (numbered 14 (frame_missed size s.frames)) (no_place s.frames) (last_of bounds s)
          (app_in s s.frames) (number, at) none h;
    }
stops_frame Memory bounds size s reading found none h = tt

-- past three faults that are not there
past_three : (a b c : Option Fault) (more : List (Option Fault)) (given : Option App) (app : App) → a ≡ None → b ≡ None → c ≡ None → first_fault more ≡ None → given ≡ Some app
    → IsVerdict (first_fault (a ∷ b ∷ c ∷ more)) given (Ok app)
past_three a b c more given app p q r t u = rw (first_past a (b ∷ c ∷ more) p ∙ first_past b (c ∷ more) q ∙ first_past c more r ∙ t) u

stops_past_three : (a b c : Option Fault) (more : List (Option Fault)) (given : Option App) (fault : Fault) → a ≡ None → b ≡ None → c ≡ None → first_fault more ≡ Some fault
    → IsVerdict (first_fault (a ∷ b ∷ c ∷ more)) given (Err fault)
stops_past_three a b c more given fault p q r t = rw (first_past a (b ∷ c ∷ more) p ∙ first_past b (c ∷ more) q ∙ first_past c more r ∙ t) refl

-- what is looked for last in an application, by the declarations that it is of
last_in : (bounds : Bounds) (s : Declarations) (app : App) (w : World) (given : Option App) (r : Option Fault) → w ≡ types_in bounds app → given ≡ Some app → app.hosts ≡ s.hosts
    → first_fault (last_faults bounds w app) ≡ r → first_fault (numbered 16 (first_missing bounds s.hosts) ∷ numbered 12 (unfit bounds given) ∷ []) ≡ r
last_in bounds s app w given r types one hosts h =
    subst (λ (g : Option App). first_fault (numbered 16 (first_missing bounds s.hosts) ∷ numbered 12 (unfit bounds g) ∷ []) ≡ r) (sym one)
    (subst (λ (hs : List (List ℕ × HostDecl)). first_fault (numbered 16 (first_missing bounds hs) ∷ numbered 12 (unfit bounds (Some app)) ∷ []) ≡ r) hosts
    (subst (λ (v : World). first_fault (last_faults bounds v app) ≡ r) types h))

types_framed : (bounds : Bounds) (s : Declarations) (app : App) → AppFramed s app → declared_types bounds s ≡ types_in bounds app
types_framed bounds s app framed = sym (ap (types_in bounds) framed.made)

frame_there : (size : ℕ) (s : Declarations) (app : App) → AppFramed s app → numbered 14 (frame_missed size s.frames) ≡ None
frame_there size s app framed = rw framed.one refl

place_there : (s : Declarations) (app : App) → AppFramed s app → no_place s.frames ≡ None
place_there s app framed = rw (framed.one, framed.placed) refl

app_there : (s : Declarations) (app : App) → AppFramed s app → app_in s s.frames ≡ Some app
app_there s app framed = ap (app_in s) framed.one ∙ ap (app_placed s) framed.placed ∙ ap (λ (a : App). Some a) (sym framed.made)

pub opens : (r : Result Opened FormRefusal) (bounds : Bounds) (size : ℕ) (s : Declarations) (w : World) (reading : Option ℕ) (app : App) → w ≡ declared_types bounds s
    → FindsReading s reading → numbered 10 reading ≡ None → AppFramed s app → Opens r bounds app w → Settles r bounds size s
opens (Ok opened) bounds size s w reading app types found none framed o =
    let right : w ≡ types_in bounds app = types ∙ types_framed bounds s app framed in
    let last = last_in bounds s app w (app_in s s.frames) None right (app_there s app framed) (ap (λ (a : App). a.hosts) framed.made) o.2 in (
      record {
        reading = reading;
        found = found;
        verdict = past_three (numbered 10 reading) (numbered 14 (frame_missed size s.frames)) (no_place s.frames) (last_of bounds s)
            (app_in s s.frames) opened.app none (frame_there size s app framed) (place_there s app framed) last
            (app_there s app framed ∙ ap (λ (a : App). Some a) (sym o.0));
      },
      o.1 ∙ right ∙ ap (types_in bounds) (sym o.0),
    )
opens (Err (Refused number at)) bounds size s w reading app types found none framed o =
    let right : w ≡ types_in bounds app = types ∙ types_framed bounds s app framed in
    let last = last_in bounds s app w (app_in s s.frames) (Some (number, at)) right (app_there s app framed) (ap (λ (a : App). a.hosts) framed.made) o in
    record {
      reading = reading;
      found = found;
      verdict = stops_past_three (numbered 10 reading) (numbered 14 (frame_missed size s.frames)) (no_place s.frames) (last_of bounds s)
          (app_in s s.frames) (number, at) none (frame_there size s app framed) (place_there s app framed) last;
    }
opens (Err Memory) bounds size s w reading app types found none framed o = tt

-- no ring in the tables of declarations is none in those of the application
pub no_ring_framed : (s : Declarations) (app : App) → AppFramed s app → HasNoRing s.tables → HasNoRing app.tables
no_ring_framed s app framed none = subst (λ (a : App). HasNoRing a.tables) (sym framed.made) none

-- the last faults refuse an application
pub opens_refused : (e : FormRefusal) (bounds : Bounds) (app : App) (w : World) → OpensLast (Err e) bounds w app → Opens (Err e) bounds app w
opens_refused (Refused number at) bounds app w h = h
opens_refused Memory bounds app w h = tt

-- what two faults come to
none_of_two : (a b : Option Fault) → a ≡ None → b ≡ None → first_fault (a ∷ b ∷ []) ≡ None
none_of_two a b p q = rw (p, q) refl

first_of_two : (a b : Option Fault) (fault : Fault) → a ≡ Some fault → first_fault (a ∷ b ∷ []) ≡ Some fault
first_of_two a b fault p = rw p refl

second_of_two : (a b : Option Fault) (fault : Fault) → a ≡ None → b ≡ Some fault → first_fault (a ∷ b ∷ []) ≡ Some fault
second_of_two a b fault p q = rw (p, q) refl

-- an offset as a fault of its number
numbered_none : (number : ℕ) (at : Option ℕ) → at ≡ None → numbered number at ≡ None
numbered_none number at h = rw h refl

numbered_some : (number told : ℕ) (given : Option ℕ) (at : ℕ) → told ≡ number → given ≡ Some at → numbered number given ≡ Some (told, at)
numbered_some number told given at same h = rw (same, h) refl

-- a host type of which there is none
pub stops_host : (B : Type 0) (e : FormRefusal) (bounds : Bounds) (w : World) (app : App) → Passes {B = B} (Err e) (numbered 16 (first_missing bounds app.hosts))
    → OpensLast (Err e) bounds w app
stops_host B (Refused number at) bounds w app h =
    first_of_two (numbered 16 (first_missing bounds app.hosts)) (numbered 12 (first_unfit (holds_in w app) app)) (number, at) h
stops_host B Memory bounds w app h = tt

-- the opening slots, where all host types are there
pub slots_last : (r : Result Slots FormRefusal) (bounds : Bounds) (w : World) (app : App) → numbered 16 (first_missing bounds app.hosts) ≡ None
    → OpensSlots r (holds_in w app) app → OpensLast r bounds w app
slots_last (Ok slots) bounds w app none h = (
  none_of_two (numbered 16 (first_missing bounds app.hosts)) (numbered 12 (first_unfit (holds_in w app) app)) none
      (numbered_none 12 (first_unfit (holds_in w app) app) h.0),
  h.1,
)
slots_last (Err (Refused number at)) bounds w app none h =
    second_of_two (numbered 16 (first_missing bounds app.hosts)) (numbered 12 (first_unfit (holds_in w app) app)) (number, at) none
    (numbered_some 12 number (first_unfit (holds_in w app) app) at h.0 h.1)
slots_last (Err Memory) bounds w app none h = tt

-- the slots by the membership of a book on an application and its types
pub slots_held : (r : Result Slots FormRefusal) (a b : App) (v w : World) → a ≡ b → v ≡ w → OpensSlots r (holds_in v a) b → OpensSlots r (holds_in w b) b
slots_held r a b v w app types h = subst (λ (c : App). OpensSlots r (holds_in w c) b) app (subst (λ (u : World). OpensSlots r (holds_in u a) b) types h)
