-- What a step of the reading leaves in what it was lent.
use Rattle.std.specs.Prelude.{◌≡◌, Result, Ok, Err}
use Rattle.cl_expressions.specs.Load.{Notes, Fault}
use Rattle.cl_forms.specs.declared.refusals.FormRefusal.{FormRefusal}
use Rattle.cl_forms.specs.declared.refusals.FormRefusal.TheVariants.{Refused, Memory}

-- what is read, with these notes, or the fault; want of memory answers nothing
abbrev pub Leaves : {A B : Type 0} → Result B FormRefusal → A → Notes → Result (A × Notes) Fault → Type 0
Leaves (Ok done) x notes r = r ≡ Ok (x, notes)
Leaves (Err (Refused number at)) x notes r = r ≡ Err (number, at)
Leaves (Err Memory) x notes r = Unit {0}

-- nothing but notes
abbrev pub LeavesNotes : {B : Type 0} → Result B FormRefusal → Notes → Result (Unit {0} × Notes) Fault → Type 0
LeavesNotes result notes r = Leaves result tt notes r
