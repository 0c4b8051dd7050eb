-- A specifier of a presentation type as a tree.
use Rattle.std.specs.Prelude.{ℕ, ◌+◌, List, [], ◌∷◌, None}
use Rattle.cl_value.specs.Data.{Data}
use Rattle.cl_syntax.specs.declared.type_specs.TypeOptions.{TypeOptions}

mutual
  -- a specifier: the name of a type, its arguments and its options
  pub data TypeSpecTree : Type 0 where
    -- ((NAME ARGUMENT ...) OPTION ...)
    specifier : List ℕ → TypeArgTrees → TypeOptions → TypeSpecTree

  -- an argument of a specifier, by its kind
  pub data TypeArgTree : Type 0 where
    -- a number, a text, true, false, null or a symbol
    Constant : Data → TypeArgTree
    -- *
    Any : TypeArgTree
    -- a parameter of the declaration around
    Param : List ℕ → TypeArgTree
    -- a specifier
    Spec : TypeSpecTree → TypeArgTree
    -- the tokens of a token-or-type
    Names : List (List ℕ) → TypeArgTree

  -- arguments, one after another
  pub data TypeArgTrees : Type 0 where
    none : TypeArgTrees
    argument : TypeArgTree → TypeArgTrees → TypeArgTrees

-- a list of arguments as a tree holds it
abbrev pub arg_trees_of : List TypeArgTree → TypeArgTrees
arg_trees_of [] = none
arg_trees_of (a ∷ ts) = argument a (arg_trees_of ts)

-- the name of the type
abbrev pub name_of : TypeSpecTree → List ℕ
name_of (specifier x ts o) = x

-- neither a description nor a separator
abbrev pub no_options : TypeOptions
no_options = record { description = None; separator = None }

-- a name alone
abbrev pub plain_type : List ℕ → TypeSpecTree
plain_type x = specifier x none no_options

-- a size that is greater than that of each part
abbrev mutual
  pub nodes : TypeSpecTree → ℕ
  nodes (specifier x ts o) = nodes_all ts + 1

  -- the size of an argument
  pub nodes_of_arg : TypeArgTree → ℕ
  nodes_of_arg (Constant d) = 1
  nodes_of_arg Any = 1
  nodes_of_arg (Param x) = 1
  nodes_of_arg (Spec s) = nodes s + 1
  nodes_of_arg (Names xs) = 1

  -- the sizes of arguments together
  pub nodes_all : TypeArgTrees → ℕ
  nodes_all none = 0
  nodes_all (argument a ts) = nodes_of_arg a + 1 + nodes_all ts
