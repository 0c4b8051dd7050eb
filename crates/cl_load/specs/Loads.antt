-- What a load answers. Out of memory answers nothing.
use Rattle.std.specs.Prelude.{◌≡◌, ℕ, List, Result, Ok, Err}
use Rattle.cl_forms.specs.Datum.{Datum}
use Rattle.cl_forms.specs.declared.form.Forms.{Forms}
use Rattle.cl_forms.specs.declared.refusals.FormRefusal.{FormRefusal}
use Rattle.cl_forms.specs.declared.refusals.FormRefusal.TheVariants.{Refused, Memory}
use Rattle.cl_load.specs.Application.{AreForms, HasOutcome, IsUnreadable, LoadsAs}
use Rattle.cl_load.specs.Outcome.{Outcome}
use Rattle.cl_load.specs.Reason.{refused, uncovered}
use Rattle.cl_load.specs.Types.{Bounds, types_in}
use Rattle.cl_load.specs.declared.application.Loaded.{Loaded}
use Rattle.cl_load.specs.declared.application.Opened.{Opened}
use Rattle.cl_load.specs.declared.refusals.LoadRefusal.{LoadRefusal}
use Rattle.cl_load.specs.declared.refusals.LoadRefusal.TheVariants as load_refusal

-- the forms, or why there are none
abbrev pub Reads : List ℕ → Result Forms FormRefusal → Type 0
Reads bytes (Ok forms) = AreForms bytes forms
Reads bytes (Err (Refused number at)) = IsUnreadable bytes number at
Reads bytes (Err Memory) = Unit {0}

-- what data of a text of this length come to; want of memory answers nothing
abbrev pub Concludes : Result Opened FormRefusal → Bounds → ℕ → List Datum → Type 0
Concludes (Ok opened) bounds size ds = Outcome bounds size ds (Ok opened.app) × (opened.lattice ≡ types_in bounds opened.app)
Concludes (Err (Refused number at)) bounds size ds = Outcome bounds size ds (Err (number, at))
Concludes (Err Memory) bounds size ds = Unit {0}

-- what a text declares with its types, or the refusal; want of memory answers nothing
abbrev pub Declares : Bounds → List ℕ → Result Opened FormRefusal → Type 0
Declares bounds bytes (Ok opened) = HasOutcome bounds bytes (Ok opened.app) × (opened.lattice ≡ types_in bounds opened.app)
Declares bounds bytes (Err (Refused number at)) = HasOutcome bounds bytes (Err (number, at))
Declares bounds bytes (Err Memory) = Unit {0}

-- the application with its types, or why there is none; want of memory answers nothing
abbrev pub Loads : Bounds → List ℕ → Result Loaded LoadRefusal → Type 0
Loads bounds bytes (Ok loaded) = LoadsAs bounds bytes (Ok loaded.app) × (loaded.lattice ≡ types_in bounds loaded.app)
Loads bounds bytes (Err (load_refusal.Refused number at)) = LoadsAs bounds bytes (Err (refused number at))
Loads bounds bytes (Err (load_refusal.Uncovered form path)) = LoadsAs bounds bytes (Err (uncovered (record { form = form; path = path })))
Loads bounds bytes (Err load_refusal.Memory) = Unit {0}
