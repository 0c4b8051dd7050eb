-- Names in a row.
use Rattle.std.specs.Prelude.{Bool, true, false, ◌&&◌, List, [], ◌∷◌}
use Rattle.cl_forms.specs.Datum.{Datum, number, literal, word, quoted, stray, list, parts_of}
use Rattle.cl_forms.specs.Naming.{are_names, symbol_of}
use Rattle.cl_expressions.specs.Scopes.{Names, in_sight}

-- the symbols of data
abbrev pub names_of : List Datum → Names
names_of [] = []
names_of (d ∷ ds) = symbol_of d ∷ names_of ds

-- a form in parentheses
abbrev pub is_list : Datum → Bool
is_list (list ds at) = true
is_list (number z at) = false
is_list (literal s at) = false
is_list (word x at) = false
is_list (quoted x at name_at) = false
is_list (stray at) = false

-- `(NAME ...)`
abbrev pub is_name_list : Datum → Bool
is_name_list d = is_list d && are_names (parts_of d)

-- the variables of a body, the last parameter the newest
abbrev pub variables_in : Datum → Names
variables_in d = in_sight (names_of (parts_of d)) []
