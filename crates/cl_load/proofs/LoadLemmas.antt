-- What a load answers, by what its text declares.
use Rattle.std.proofs.Common.{List, ℕ}
use Rattle.std.specs.Prelude.{Err}
use Rattle.cl_forms.specs.declared.refusals.FormRefusal.{FormRefusal}
use Rattle.cl_forms.specs.declared.refusals.FormRefusal.TheVariants.{Refused, Memory}
use Rattle.cl_load.specs.Loads.{Declares, Loads}
use Rattle.cl_load.specs.Reason.{load_refusal_of}
use Rattle.cl_load.specs.Types.{Bounds}

-- what the forms are refused for, the text is
pub refused_so : (bounds : Bounds) (bytes : List ℕ) (e : FormRefusal) → Declares bounds bytes (Err e) → Loads bounds bytes (Err (load_refusal_of e))
refused_so bounds bytes (Refused number at) h = h
refused_so bounds bytes Memory h = tt
