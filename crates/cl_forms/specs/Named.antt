-- What is answered where a form asks for a name.
use Rattle.std.specs.Prelude.{◌≡◌, ℕ, List, Some, None, Result, Ok, Err}
use Rattle.cl_forms.specs.Datum.{Datum}
use Rattle.cl_forms.specs.Naming.{name_in}
use Rattle.cl_forms.specs.declared.refusals.FormRefusal.{FormRefusal}
use Rattle.cl_forms.specs.declared.refusals.FormRefusal.TheVariants.{Refused, Memory}

-- the name, or the refusal of the form at this offset
abbrev pub NamesPart : Result (List ℕ) FormRefusal → ℕ → Datum → Type 0
NamesPart (Ok x) at d = name_in d ≡ Some x
NamesPart (Err (Refused number offset)) at d = (number ≡ 6) × (offset ≡ at) × (name_in d ≡ None)
NamesPart (Err Memory) at d = Unit {0}
