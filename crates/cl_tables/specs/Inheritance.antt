-- The inheritance order of a command table: the table, then its parents in preorder, each table at its first occurrence.
use Rattle.std.specs.Prelude.{ℕ, zero, suc, ◌+◌, Bool, not, List, [], ◌∷◌, Option, Some, None, filter, length}
use Rattle.std.specs.List.{flat_map, list_any}
use Rattle.std.specs.Str.{bytes_eq}
use Rattle.cl_table.specs.Names.{named}
use Rattle.cl_tables.specs.declared.declarations.TableDecl.{TableDecl}

-- the command tables of a text, by name
abbrev pub TableDecls : Type 0
TableDecls = List (List ℕ × TableDecl)

-- whether a name is one of these
abbrev pub is_among : List ℕ → List (List ℕ) → Bool
is_among x names = list_any (bytes_eq x) names

-- the parents that a declaration names, if there is one
abbrev pub parents_by : Option TableDecl → List (List ℕ)
parents_by None = []
parents_by (Some d) = d.inherit_from

-- the parents of a table; none of a name that is not declared, as that of the global command table
abbrev pub parents_of : TableDecls → List ℕ → List (List ℕ)
parents_of tables x = parents_by (named x tables)

-- a table and its parents, each followed by its own parents, through so many tables one above another
abbrev pub preorder_within : ℕ → TableDecls → List ℕ → List (List ℕ)
preorder_within zero tables x = []
preorder_within (suc n) tables x = x ∷ flat_map (preorder_within n tables) (parents_of tables x)

-- a table and its parents, each followed by its own parents. Without a ring no more tables stand one above another.
unfoldable pub preorder : TableDecls → List ℕ → List (List ℕ)
preorder tables x = preorder_within (length tables + 1) tables x

-- whether two names differ
abbrev pub is_other : List ℕ → List ℕ → Bool
is_other x y = not (bytes_eq x y)

-- each name at its first occurrence
abbrev pub firsts : List (List ℕ) → List (List ℕ)
firsts [] = []
firsts (x ∷ xs) = x ∷ filter (is_other x) (firsts xs)

-- the inheritance order of a table
unfoldable pub inheritance : TableDecls → List ℕ → List (List ℕ)
inheritance tables x = firsts (preorder tables x)
