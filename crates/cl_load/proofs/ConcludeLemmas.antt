-- What the data of a text come to, by the answers of the steps.
use Rattle.std.proofs.Common.{◌≡◌, ◌++◌, inl, inr, ℕ, List, [], ◌∷◌, refl, sym, subst}
use Rattle.std.specs.Prelude.{Option, Some, None, Result, Ok, Err}
use Rattle.cl_application.specs.declared.applications.App.{App}
use Rattle.cl_expressions.specs.Load.{Fault, Notes, nothing_noted}
use Rattle.cl_forms.specs.Datum.{Datum}
use Rattle.cl_forms.specs.declared.refusals.FormRefusal.{FormRefusal}
use Rattle.cl_forms.specs.declared.refusals.FormRefusal.TheVariants.{Refused, Memory}
use Rattle.cl_declare.specs.declared.declarations.Declarations.{Declarations}
use Rattle.cl_opening.specs.Answers.{Passes}
use Rattle.cl_load.specs.Loads.{Concludes}
use Rattle.cl_load.specs.Outcome.{Comes, IsVerdict, Settled, parse}
use Rattle.cl_lattice.specs.World.{World}
use Rattle.cl_load.specs.Refusals.{app_in, first_fault, form_faults, frame_faults, type_faults}
use Rattle.cl_load.specs.Settling.{Builds, FrameSettled, Settles}
use Rattle.cl_load.specs.Types.{Bounds, FindsLarge, FindsMisfit, FindsRing}
use Rattle.cl_load.specs.declared.application.Opened.{Opened}

-- what the first faults leave to the others
first_none : (xs ys : List (Option Fault)) → first_fault xs ≡ None → first_fault (xs ++ ys) ≡ first_fault ys
first_none [] ys h = refl
first_none (None ∷ xs) ys h = first_none xs ys h
first_none (Some f ∷ xs) ys h = cc

first_some : (xs ys : List (Option Fault)) (fault : Fault) → first_fault xs ≡ Some fault → first_fault (xs ++ ys) ≡ Some fault
first_some [] ys fault h = cc
first_some (None ∷ xs) ys fault h = first_some xs ys fault h
first_some (Some f ∷ xs) ys fault h = h

differ : (fault : Fault) (x : Option Fault) → x ≡ Some fault → x ≡ None → ⊥
differ fault x p q = cc

some_none : (at : ℕ) → ◌≡◌ {A = Option ℕ} (Some at) None → ⊥
some_none at h = cc

-- a fault of the forms comes before those of the types and of the frame
pub refused_forms : (B : Type 0) (e : FormRefusal) (bounds : Bounds) (size : ℕ) (ds : List Datum) (s : Declarations) (notes : Notes)
    → parse ds nothing_noted ≡ Ok (s, notes) → Passes {B = B} (Err e) (first_fault (form_faults ds notes)) → Concludes (Err e) bounds size ds
refused_forms B (Refused number at) bounds size ds s notes p h =
    let none_is : first_fault (form_faults ds notes) ≡ None → ⊥ = differ (number, at) (first_fault (form_faults ds notes)) h in
    subst (λ r. Comes bounds size ds r (Err (number, at))) (sym p) (record {
      ring = None;
      ring_found = λ none. absurd (none_is none);
      misfit = None;
      misfit_found = λ none no. absurd (none_is none);
      large = None;
      large_found = λ none no free. absurd (none_is none);
      reading = None;
      reading_found = λ none no free small. absurd (none_is none);
      verdict = rw (first_some (form_faults ds notes) (type_faults None None None ++ frame_faults bounds size s None) (number, at) h) refl;
    })
refused_forms B Memory bounds size ds s notes p h = tt

-- where the forms have none, a ring of types is told
ring_so : (bounds : Bounds) (size : ℕ) (ds : List Datum) (s : Declarations) (notes : Notes) (at : ℕ) → first_fault (form_faults ds notes) ≡ None
    → FindsRing bounds s (Some at) → Settled bounds size ds s notes (Err (9, at))
ring_so bounds size ds s notes at none ring = record {
  ring = Some at;
  ring_found = λ none. ring;
  misfit = None;
  misfit_found = λ none no. absurd (some_none at no);
  large = None;
  large_found = λ none no free. absurd (some_none at no);
  reading = None;
  reading_found = λ none no free small. absurd (some_none at no);
  verdict = rw (first_none (form_faults ds notes) (type_faults (Some at) None None ++ frame_faults bounds size s None) none) refl;
}

-- where there is none, an argument that comes to stand where it is not taken
misfit_so : (bounds : Bounds) (size : ℕ) (ds : List Datum) (s : Declarations) (notes : Notes) (at : ℕ) → first_fault (form_faults ds notes) ≡ None
    → FindsRing bounds s None → FindsMisfit s notes (Some at) → Settled bounds size ds s notes (Err (6, at))
misfit_so bounds size ds s notes at none ring misfit = record {
  ring = None;
  ring_found = λ none. ring;
  misfit = Some at;
  misfit_found = λ none no. misfit;
  large = None;
  large_found = λ none no free. absurd (some_none at free);
  reading = None;
  reading_found = λ none no free small. absurd (some_none at free);
  verdict = rw (first_none (form_faults ds notes) (type_faults None (Some at) None ++ frame_faults bounds size s None) none) refl;
}

-- where there is none of these either, a type past the limits
large_so : (bounds : Bounds) (size : ℕ) (ds : List Datum) (s : Declarations) (notes : Notes) (at : ℕ) → first_fault (form_faults ds notes) ≡ None
    → FindsRing bounds s None → FindsMisfit s notes None → FindsLarge bounds s notes (Some at) → Settled bounds size ds s notes (Err (13, at))
large_so bounds size ds s notes at none ring misfit large = record {
  ring = None;
  ring_found = λ none. ring;
  misfit = None;
  misfit_found = λ none no. misfit;
  large = Some at;
  large_found = λ none no free. large;
  reading = None;
  reading_found = λ none no free small. absurd (some_none at small);
  verdict = rw (first_none (form_faults ds notes) (type_faults None None (Some at) ++ frame_faults bounds size s None) none) refl;
}

refused_so : (bounds : Bounds) (size : ℕ) (ds : List Datum) (s : Declarations) (notes : Notes) (number at : ℕ) → first_fault (form_faults ds notes) ≡ None
    → Builds (Err (Refused number at)) bounds s notes → Settled bounds size ds s notes (Err (number, at))
refused_so bounds size ds s notes number at none (inl ring) =
    subst (λ (n : ℕ). Settled bounds size ds s notes (Err (n, at))) (sym ring.0) (ring_so bounds size ds s notes at none ring.1)
refused_so bounds size ds s notes number at none (inr (inl misfit)) =
    subst (λ (n : ℕ). Settled bounds size ds s notes (Err (n, at))) (sym misfit.0) (misfit_so bounds size ds s notes at none misfit.1 misfit.2)
refused_so bounds size ds s notes number at none (inr (inr large)) =
    subst (λ (n : ℕ). Settled bounds size ds s notes (Err (n, at))) (sym large.0) (large_so bounds size ds s notes at none large.1 large.2 large.3)

pub refused_types : (e : FormRefusal) (bounds : Bounds) (size : ℕ) (ds : List Datum) (s : Declarations) (notes : Notes) → parse ds nothing_noted ≡ Ok (s, notes)
    → first_fault (form_faults ds notes) ≡ None → Builds (Err e) bounds s notes → Concludes (Err e) bounds size ds
refused_types (Refused number at) bounds size ds s notes p none h =
    subst (λ r. Comes bounds size ds r (Err (number, at))) (sym p) (refused_so bounds size ds s notes number at none h)
refused_types Memory bounds size ds s notes p none h = tt

settled_so : (bounds : Bounds) (size : ℕ) (ds : List Datum) (s : Declarations) (notes : Notes) (o : Result App Fault) → first_fault (form_faults ds notes) ≡ None
    → FindsRing bounds s None → FindsMisfit s notes None → FindsLarge bounds s notes None → FrameSettled bounds size s o → Settled bounds size ds s notes o
settled_so bounds size ds s notes o none ring misfit large f = record {
  ring = None;
  ring_found = λ none. ring;
  misfit = None;
  misfit_found = λ none no. misfit;
  large = None;
  large_found = λ none no free. large;
  reading = f.reading;
  reading_found = λ none no free small. f.found;
  verdict =
      subst (λ first. IsVerdict first (app_in s s.frames) o)
      (sym (first_none (form_faults ds notes) (type_faults None None None ++ frame_faults bounds size s f.reading) none)) f.verdict;
}

-- where the types have none either, the frame decides
pub settled_forms : (r : Result Opened FormRefusal) (bounds : Bounds) (size : ℕ) (ds : List Datum) (s : Declarations) (notes : Notes) (w : World) → parse ds nothing_noted ≡ Ok (s, notes)
    → first_fault (form_faults ds notes) ≡ None → Builds (Ok w) bounds s notes → Settles r bounds size s → Concludes r bounds size ds
settled_forms (Ok opened) bounds size ds s notes w p none types f =
    (subst (λ r. Comes bounds size ds r (Ok opened.app)) (sym p) (settled_so bounds size ds s notes (Ok opened.app) none types.1 types.2 types.3 f.0), f.1)
settled_forms (Err (Refused number at)) bounds size ds s notes w p none types f =
    subst (λ r. Comes bounds size ds r (Err (number, at))) (sym p) (settled_so bounds size ds s notes (Err (number, at)) none types.1 types.2 types.3 f)
settled_forms (Err Memory) bounds size ds s notes w p none types f = tt
