-- The names of the arguments of a command, whether it is right or not.
use Rattle.std.specs.Prelude.{ℕ, Bool, true, false, ◌&&◌, is_some, if◌then◌else◌, List, [], ◌∷◌, Option, Some, None}
use Rattle.cl_forms.specs.Datum.{Datum, number, literal, word, quoted, stray, list, in_order, parts_of}
use Rattle.cl_forms.specs.Naming.{name_in, symbol_of}

-- the symbol that stands first; nothing where none does
abbrev pub first_symbol : List Datum → List ℕ
first_symbol [] = []
first_symbol (n ∷ more) = symbol_of n

-- the symbols that begin lists, in their order
abbrev pub first_symbols : List Datum → List (List ℕ)
first_symbols [] = []
first_symbols (d ∷ ds) = first_symbol (parts_of d) ∷ first_symbols ds

-- a name stands first
abbrev pub is_named : List Datum → Bool
is_named [] = false
is_named (n ∷ more) = is_some (name_in n)

-- all are lists that names begin
abbrev pub are_named : List Datum → Bool
are_named [] = true
are_named (d ∷ ds) = is_named (parts_of d) && are_named ds

-- the names that begin lists, in their order; None where not all are lists that names begin
abbrev pub names_beginning : List Datum → Option (List (List ℕ))
names_beginning ds = if are_named ds then Some (first_symbols ds) else None

-- the names that begin the lists of a list; None of anything else
abbrev pub arguments_in : Datum → Option (List (List ℕ))
arguments_in (list ds at) = names_beginning (in_order ds)
arguments_in (number z at) = None
arguments_in (literal s at) = None
arguments_in (word s at) = None
arguments_in (quoted s at name_at) = None
arguments_in (stray at) = None

-- the names of the arguments of a command, by what stands behind its name
abbrev pub arguments_behind : List Datum → Option (List (List ℕ))
arguments_behind [] = None
arguments_behind (d ∷ ds) = arguments_in d
