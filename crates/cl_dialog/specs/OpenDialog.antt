-- A dialog that is open.
use Rattle.std.specs.Prelude.{ℕ, List, Option, refl}
use Rattle.std.specs.Coded.{Coded, code_by, coded_list, coded_option, coded_ℕ, coded×}
use Rattle.cl_value.specs.Data.{Data, data_code}

-- names with their values; none where the query is unset
abbrev pub Queries : Type 0
Queries = List (List ℕ × Option Data)

-- its name, its queries in order, and the name of the query that is selected
pub record OpenDialog : Type 0 where
  pub name : List ℕ
  pub queries : Queries
  pub selected : Option (List ℕ)

-- ---- how the logic stores it

-- how the logic stores a name
abbrev pub name_code : Coded (List ℕ)
name_code = coded_list coded_ℕ

-- how the logic stores an open dialog
abbrev pub coded_dialog : Coded OpenDialog
coded_dialog =
    code_by (List ℕ × (Queries × Option (List ℕ))) (coded× name_code (coded× (coded_list (coded× name_code (coded_option data_code))) (coded_option name_code)))
    (λ d. (d.name, (d.queries, d.selected))) (λ p. record { name = p.0; queries = p.1.0; selected = p.1.1 }) (λ _. refl)
