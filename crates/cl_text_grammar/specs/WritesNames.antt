-- How names are written.
use Rattle.std.specs.Prelude.{◌≡◌, ℕ, List, [], ◌∷◌, Some}
use Rattle.cl_forms.specs.Datum.{Datum, Datums, list, in_order}
use Rattle.cl_forms.specs.Naming.{name_in}
use Rattle.cl_expressions.specs.Scopes.{Names}

-- names write data, one each
pub data WritesNames : Names → List Datum → Type 0 where
  no_name : WritesNames [] []
  one_name : {x : List ℕ} {xs : Names} {n : Datum} {ds : List Datum} → name_in n ≡ Some x → WritesNames xs ds → WritesNames (x ∷ xs) (n ∷ ds)

-- names write a list of them
pub data WritesNameList : Names → Datum → Type 0 where
  a_name_list : {xs : Names} {ds : Datums} {at : ℕ} → WritesNames xs (in_order ds) → WritesNameList xs (list ds at)
