-- The data in a row are the data that they were made of.
use Rattle.std.proofs.Common.{◌≡◌, ◌≤◌, ◌<◌, ℕ, zero, suc, length, map, get_or, List, [], ◌∷◌, refl, ap, arith}
use Rattle.cl_forms.specs.Tree.{weight, weights, trees_of}
use Rattle.cl_forms.specs.Form.{tree_of}
use Rattle.cl_forms.specs.declared.form.Form.{Form}
use Rattle.cl_forms.specs.Datum.{Datum, datums_of, in_order}
use Rattle.cl_forms.specs.Datum as datum
use Rattle.cl_forms.specs.DatumView.{datum_of}
use Rattle.cl_forms.specs.declared.datum.Datum as program

pub data_in_order : (ds : List Datum) → in_order (datums_of ds) ≡ ds
data_in_order [] = refl
data_in_order (d ∷ ds) = ap (λ es. d ∷ es) (data_in_order ds)

-- a form weighs no more than the forms that it stands among
pub form_weighs : (fs : List Form) (i : ℕ) (f : Form) → i < length fs → f ≡ get_or fs i f → weight (tree_of f) ≤ weights (trees_of (map tree_of fs))
form_weighs [] i f l e = absurd (omega (arith, l))
form_weighs (g ∷ gs) zero f l e = rw e (omega arith)
form_weighs (g ∷ gs) (suc i) f l e = omega (arith, form_weighs gs i f (omega (arith, l)) e)

-- a datum weighs no more than the data that it stands among
pub datum_weighs : (ds : List program.Datum) (i : ℕ) (d : program.Datum) → i < length ds → d ≡ get_or ds i d → datum.weight (datum_of d) ≤ datum.weights (datums_of (map datum_of ds))
datum_weighs [] i d l e = absurd (omega (arith, l))
datum_weighs (c ∷ cs) zero d l e = rw e (omega arith)
datum_weighs (c ∷ cs) (suc i) d l e = omega (arith, datum_weighs cs i d (omega (arith, l)) e)
