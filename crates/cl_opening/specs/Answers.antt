-- What the steps of the load answer. Want of memory answers nothing.
use Rattle.std.specs.Prelude.{◌≡◌, Option, Some, None, Result, Ok, Err}
use Rattle.cl_expressions.specs.Load.{Fault}
use Rattle.cl_forms.specs.declared.refusals.FormRefusal.{FormRefusal}
use Rattle.cl_forms.specs.declared.refusals.FormRefusal.TheVariants.{Refused, Memory}

-- what is made of the result, or its fault; want of memory answers nothing
abbrev pub Makes : {A B : Type 0} → (A → B) → Result A FormRefusal → Result B Fault → Type 0
Makes f (Ok x) r = r ≡ Ok (f x)
Makes f (Err (Refused number at)) r = r ≡ Err (number, at)
Makes f (Err Memory) r = Unit {0}

-- nothing is refused, or this fault
abbrev pub Passes : {B : Type 0} → Result B FormRefusal → Option Fault → Type 0
Passes (Ok done) f = f ≡ None
Passes (Err (Refused number at)) f = f ≡ Some (number, at)
Passes (Err Memory) f = Unit {0}
