-- Names that stand in no text, since they have spaces.
use Rattle.std.specs.Prelude.{ℕ, List, ◌++◌, codes}

-- the variable that tells whether a query is set
abbrev pub set_name : List ℕ → List ℕ
set_name query = query ++ codes " is set"

-- the display that the form of a dialog is kept as
abbrev pub form_name : List ℕ → List ℕ
form_name dialog = codes "dialog " ++ dialog
