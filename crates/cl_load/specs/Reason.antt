-- Why a text does not load.
use Rattle.std.specs.Prelude.{ℕ}
use Rattle.cl_cover.specs.declared.updates.Uncovered.{Uncovered}
use Rattle.cl_forms.specs.declared.refusals.FormRefusal.{FormRefusal}
use Rattle.cl_forms.specs.declared.refusals.FormRefusal.TheVariants as form_refusal
use Rattle.cl_load.specs.declared.refusals.LoadRefusal.{LoadRefusal}
use Rattle.cl_load.specs.declared.refusals.LoadRefusal.TheVariants as load_refusal

-- why a text does not load
pub data Reason : Type 0 where
  -- a refusal of this number, at this offset
  refused : (number at : ℕ) → Reason
  -- refusal 11: an update at this offset, and the first path that its body reads and that its listed paths do not cover
  uncovered : Uncovered → Reason

-- the refusal of forms as one of a load
abbrev pub load_refusal_of : FormRefusal → LoadRefusal
load_refusal_of (form_refusal.Refused number at) = load_refusal.Refused number at
load_refusal_of form_refusal.Memory = load_refusal.Memory
