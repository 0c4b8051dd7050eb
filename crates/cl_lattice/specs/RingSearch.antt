-- How the search for a ring goes: it looks at what a user type inherits from, then once at that of each user type that is mentioned.
use Rattle.std.specs.Prelude.{ℕ, Bool, is_some, if◌then◌else◌, List, [], ◌∷◌, Option, Some, None}
use Rattle.cl_syntax.specs.StandardTypes.{standard_named}
use Rattle.cl_syntax.specs.TypeSpecTree.{TypeSpecTree}
use Rattle.cl_table.specs.Names.{declared_at, named, with_first}
use Rattle.cl_lattice.specs.Sizes.{inherited_by}
use Rattle.cl_lattice.specs.World.{World, kind_named}
use Rattle.cl_lattice.specs.declared.rings.Mentioned.{Mentioned}

-- what the user type of a name inherits from; None for every other name
abbrev pub inherited : World → List ℕ → Option TypeSpecTree
inherited w x = inherited_by (standard_named x) (kind_named x w)

-- the user types that are mentioned so far, in the order in which they are found
abbrev pub Found : Type 0
Found = List (List ℕ × Mentioned)

-- one more, which is a user type and was not found before
abbrev pub with_mention : World → List ℕ → Found → Found
with_mention w x found = if is_some (inherited w x) then with_first (λ m. m.name) found (record { name = x }) else found

-- with each of these names that is a user type and was not found before
abbrev pub with_mentions : World → List (List ℕ) → Found → Found
with_mentions w [] found = found
with_mentions w (x ∷ xs) found = with_mentions w xs (with_mention w x found)

-- what a user type that was found inherits from, if one was found
abbrev pub inherited_of : World → Option Mentioned → Option TypeSpecTree
inherited_of w None = None
inherited_of w (Some m) = inherited w m.name

-- what the user type that was found at a place inherits from
abbrev pub inherited_at : World → Found → ℕ → Option TypeSpecTree
inherited_at w found place = inherited_of w (declared_at place found)

-- something stands under a name in a table
abbrev pub has : {D : Type 0} → List ℕ → List (List ℕ × D) → Bool
has x table = is_some (named x table)
