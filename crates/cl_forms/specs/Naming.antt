-- Names and counts that forms ask for.
use Rattle.std.specs.Prelude.{ℕ, Bool, true, false, ◌==◌, ◌&&◌, is_some, if◌then◌else◌, List, [], ◌∷◌, length, Option, Some, None}
use Rattle.cl_forms.specs.Datum.{Datum, number, literal, word, quoted, stray, list, in_order}
use Rattle.cl_forms.specs.Words.{is_name}

-- the given, if the answer is yes
abbrev pub some_if : {A : Type 0} → Bool → A → Option A
some_if true x = Some x
some_if false x = None

-- the name that a datum is
abbrev pub name_in : Datum → Option (List ℕ)
name_in (word s at) = some_if (is_name s) s
name_in (number z at) = None
name_in (literal s at) = None
name_in (quoted s at name_at) = None
name_in (stray at) = None
name_in (list ds at) = None

-- the bytes of a symbol; nothing of anything else
abbrev pub symbol_of : Datum → List ℕ
symbol_of (word s at) = s
symbol_of (number z at) = []
symbol_of (literal s at) = []
symbol_of (quoted s at name_at) = []
symbol_of (stray at) = []
symbol_of (list ds at) = []

-- all are names
abbrev pub are_names : List Datum → Bool
are_names [] = true
are_names (d ∷ ds) = is_some (name_in d) && are_names ds

-- how many names there are; None where a part is no name
abbrev pub names_counted : List Datum → Option ℕ
names_counted ds = if are_names ds then Some (length ds) else None

-- how many names a list has; None of anything else
abbrev pub list_counted : Datum → Option ℕ
list_counted (list ds at) = names_counted (in_order ds)
list_counted (word s at) = None
list_counted (number z at) = None
list_counted (literal s at) = None
list_counted (quoted s at name_at) = None
list_counted (stray at) = None

-- a count that is asked for; None asks for none
abbrev pub fits : Option ℕ → ℕ → Bool
fits None n = true
fits (Some count) n = count == n
