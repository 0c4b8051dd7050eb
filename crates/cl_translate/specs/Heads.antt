-- The heads of a specifier: the names by which it stands in precedence lists.
use Rattle.std.specs.Prelude.{ℕ, Bool, List, [], ◌∷◌, ◌++◌, Option, Some, None}
use Rattle.std.specs.List.{list_any}
use Rattle.std.specs.Str.{bytes_eq}
use Rattle.cl_syntax.specs.StandardTypes.{standard_named}
use Rattle.cl_syntax.specs.TypeSpecTree.{TypeSpecTree, specifier, TypeArgTrees, none, argument, Constant, Any, Param, Spec, Names}
use Rattle.cl_syntax.specs.declared.type_names.StandardType.{StandardType}
use Rattle.cl_syntax.specs.declared.type_names.StandardType.TheVariants as standard

-- by the type of this name, and by the heads of all its parts and of the first of them
abbrev pub heads_by : Option StandardType → List ℕ → (all first : List (List ℕ)) → List (List ℕ)
heads_by None x all first = x ∷ []
heads_by (Some t) x all first = elim t [
  | standard.T ↦ x ∷ []
  | standard.Nil ↦ x ∷ []
  | standard.Boolean ↦ x ∷ []
  | standard.Integer ↦ x ∷ []
  | standard.String ↦ x ∷ []
  | standard.Symbol ↦ x ∷ []
  | standard.Member ↦ x ∷ []
  | standard.Subset ↦ x ∷ []
  | standard.Sequence ↦ x ∷ []
  | standard.Or ↦ all
  | standard.And ↦ first
  | standard.NullOrType ↦ x ∷ first
  | standard.TokenOrType ↦ x ∷ first
  | standard.BlankArea ↦ x ∷ []
  | standard.Command ↦ x ∷ []
  | standard.DialogChoice ↦ x ∷ []
]

-- its name; for `or` the heads of its parts; for `and` those of its first part; for `null-or-type` and `token-or-type` its name and the
-- heads of its type
abbrev mutual
  pub heads : TypeSpecTree → List (List ℕ)
  heads (specifier x ts o) = heads_by (standard_named x) x (heads_of_all ts) (heads_of_first ts)

  -- the heads of all parts
  pub heads_of_all : TypeArgTrees → List (List ℕ)
  heads_of_all none = []
  heads_of_all (argument (Constant d) ts) = heads_of_all ts
  heads_of_all (argument Any ts) = heads_of_all ts
  heads_of_all (argument (Param x) ts) = heads_of_all ts
  heads_of_all (argument (Spec s) ts) = heads s ++ heads_of_all ts
  heads_of_all (argument (Names xs) ts) = heads_of_all ts

  -- the heads of the first part
  pub heads_of_first : TypeArgTrees → List (List ℕ)
  heads_of_first none = []
  heads_of_first (argument (Constant d) ts) = heads_of_first ts
  heads_of_first (argument Any ts) = heads_of_first ts
  heads_of_first (argument (Param x) ts) = heads_of_first ts
  heads_of_first (argument (Spec s) ts) = heads s
  heads_of_first (argument (Names xs) ts) = heads_of_first ts

-- whether a name stands in a precedence list
abbrev pub is_listed : List (List ℕ) → List ℕ → Bool
is_listed names x = list_any (bytes_eq x) names

-- whether one of these does
abbrev pub some_listed : (names heads : List (List ℕ)) → Bool
some_listed names heads = list_any (is_listed names) heads
