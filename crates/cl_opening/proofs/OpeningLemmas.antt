-- The slots that are left at a place of their table.
use Rattle.std.proofs.Common.{◌≡◌, ◌+◌, ℕ, zero, suc, if◌then◌else◌, drop, List, [], ◌∷◌, refl, sym, ◌∙◌, true, arith}
use Rattle.std.specs.Prelude.{Some, Err}
use Rattle.cl_table.specs.Names.{declared_at}
use Rattle.cl_application.specs.declared.applications.App.{App}
use Rattle.cl_application.specs.declared.declarations.SlotDecl.{SlotDecl}
use Rattle.cl_value.specs.Data.{Data}
use Rattle.cl_eval.specs.Slots.{Slots, put}
use Rattle.cl_opening.specs.Opening.{Holds, first_unfit_opening, opened, opening_of, is_fit, value_or_null, opening_slots, OpensValue, OpensValues}
use Rattle.cl_forms.specs.declared.refusals.FormRefusal.{FormRefusal}
use Rattle.cl_forms.specs.declared.refusals.FormRefusal.TheVariants.{Refused, Memory}

pub unfit_next : (holds : Holds) (app : App) (t : List (List ℕ × SlotDecl)) (i : ℕ) (d : SlotDecl) → Some d ≡ declared_at i t
    → first_unfit_opening holds app (drop i t) ≡ (if is_fit holds (opening_of app d) d.spec then first_unfit_opening holds app (drop (suc i) t) else Some d.opening_at)
unfit_next holds app [] zero d h = cc
unfit_next holds app [] (suc i) d h = cc
unfit_next holds app (s ∷ t) zero d h = grind arith
unfit_next holds app (s ∷ t) (suc i) d h = unfit_next holds app t i d h

pub opened_next : (app : App) (t : List (List ℕ × SlotDecl)) (i : ℕ) (d : SlotDecl) (slots : Slots) → Some d ≡ declared_at i t
    → opened app (drop i t) slots ≡ opened app (drop (suc i) t) (put d.name (value_or_null (opening_of app d)) slots)
opened_next app [] zero d slots h = cc
opened_next app [] (suc i) d slots h = cc
opened_next app (s ∷ t) zero d slots h = grind arith
opened_next app (s ∷ t) (suc i) d slots h = opened_next app t i d slots h

pub unfit_here : (e : FormRefusal) (holds : Holds) (app : App) (i : ℕ) (d : SlotDecl) → Some d ≡ declared_at i app.frame.slots
    → first_unfit_opening holds app (drop i app.frame.slots) ≡ first_unfit_opening holds app app.frame.slots → OpensValue (Err e) holds (opening_of app d) d
    → OpensValues (Err e) holds app
unfit_here (Refused number at) holds app i d h same v = (v.0, rw (← same, unfit_next holds app app.frame.slots i d h, v.2, v.1) refl)
unfit_here Memory holds app i d h same v = tt

pub fit_here : (holds : Holds) (app : App) (i : ℕ) (d : SlotDecl) (name : List ℕ) (v : Data) (slots new : Slots) → Some d ≡ declared_at i app.frame.slots
    → (opened app (drop i app.frame.slots) slots ≡ opening_slots app) × (first_unfit_opening holds app (drop i app.frame.slots) ≡ first_unfit_opening holds app app.frame.slots)
    → (v ≡ value_or_null (opening_of app d)) × (is_fit holds (opening_of app d) d.spec ≡ true) → name ≡ d.name → new ≡ put name v slots
    → (opened app (drop (i + 1) app.frame.slots) new ≡ opening_slots app) × (first_unfit_opening holds app (drop (i + 1) app.frame.slots) ≡ first_unfit_opening holds app app.frame.slots)
fit_here holds app i d name v slots new h same fits named stored =
    let o : opened app (drop i app.frame.slots) slots ≡ opened app (drop (suc i) app.frame.slots) new = rw (stored, named, fits.0) (opened_next app app.frame.slots i d slots h) in
    let u : first_unfit_opening holds app (drop i app.frame.slots) ≡ first_unfit_opening holds app (drop (suc i) app.frame.slots) = rw (unfit_next holds app app.frame.slots i d h, fits.1) refl in
    let next : i + 1 ≡ suc i = omega arith in
    rw next (sym o ∙ same.0, sym u ∙ same.1)
