-- Tables of precedence lists.
use Rattle.std.specs.Prelude.{◌≡◌, ℕ, List, [], ◌∷◌, Option, Some, None, codes}
use Rattle.cl_table.specs.Names.{named, with_first}
use Rattle.cl_lattice.specs.Laws.{names_listed}
use Rattle.cl_lattice.specs.Precedence.{precedence}
use Rattle.cl_lattice.specs.World.{World}
use Rattle.cl_lattice.specs.declared.declared_types.DeclaredType.{DeclaredType}
use Rattle.cl_lattice.specs.declared.lattices.Precedence.{Precedence}

-- precedence lists by the name of the type
abbrev pub Lists : Type 0
Lists = List (List ℕ × Precedence)

-- with a list under a name, where there is a list and none stands there yet
abbrev pub with_names : Lists → List ℕ → Option (List (List ℕ)) → Lists
with_names table x None = table
with_names table x (Some xs) = with_first (λ p. p.name) table (record { name = x; names = xs })

-- with the list of a name, where there is one
abbrev pub with_list : World → Lists → List ℕ → Lists
with_list w table x = with_names table x (precedence w x)

-- with the list of each of these names, where there is one
abbrev pub with_lists : World → List (List ℕ) → Lists → Lists
with_lists w [] table = table
with_lists w (x ∷ xs) table = with_lists w xs (with_list w table x)

-- a table that has the precedence list of every name
abbrev pub IsListed : World → Lists → Type 0
IsListed w table = (x : List ℕ) → names_listed (named x table) ≡ precedence w x

-- the names of the standard types of what a user points at, asks for and chooses
abbrev pub interaction_names : List (List ℕ)
interaction_names = codes "blank-area" ∷ codes "command" ∷ codes "dialog-choice" ∷ []

-- the names of all standard types without parts or constants
abbrev pub plain_names : List (List ℕ)
plain_names = codes "t" ∷ codes "nil" ∷ codes "boolean" ∷ codes "integer" ∷ codes "string" ∷ codes "symbol" ∷ interaction_names

-- the names of those that are made of constants or of other types
abbrev pub built_names : List (List ℕ)
built_names = codes "member" ∷ codes "subset" ∷ codes "sequence" ∷ codes "or" ∷ codes "and" ∷ []

-- the names of those that are made of a type with null or with tokens beside it
abbrev pub or_names : List (List ℕ)
or_names = codes "null-or-type" ∷ codes "token-or-type" ∷ []

-- the name of a declared type of a table
abbrev pub declared_name : List ℕ × DeclaredType → List ℕ
declared_name e = e.1.name
