-- An expression as a tree.
use Rattle.std.specs.Prelude.{ℕ, ◌+◌, List, [], ◌∷◌}
use Rattle.cl_value.specs.Data.{Data}
use Rattle.cl_syntax.specs.declared.operators.Operator.{Operator}

mutual
  -- an expression, by its kind
  pub data ExprTree : Type 0 where
    -- a number, a text, true, false, null or a quoted name
    Constant : Data → ExprTree
    Variable : List ℕ → ExprTree
    -- (slot NAME)
    Slot : List ℕ → ExprTree
    -- (if TEST THEN ELSE)
    If : ExprTree → ExprTree → ExprTree → ExprTree
    -- (let ((NAME E) ...) BODY)
    Let : Bindings → ExprTree → ExprTree
    -- (and E ...)
    And : ExprTrees → ExprTree
    -- (or E ...)
    Or : ExprTrees → ExprTree
    -- (map NAME LIST BODY)
    Map : List ℕ → ExprTree → ExprTree → ExprTree
    -- (filter NAME LIST BODY)
    Filter : List ℕ → ExprTree → ExprTree → ExprTree
    -- (fold NAME LIST ACCUMULATOR OPENING BODY)
    Fold : List ℕ → ExprTree → List ℕ → ExprTree → ExprTree → ExprTree
    -- an operator over the values of its parts
    Operation : Operator → ExprTrees → ExprTree
    -- (FUNCTION E ...)
    Call : List ℕ → ExprTrees → ExprTree

  -- expressions, one after another
  pub data ExprTrees : Type 0 where
    none : ExprTrees
    part : ExprTree → ExprTrees → ExprTrees

  -- names, each with the expression that binds it
  pub data Bindings : Type 0 where
    unbound : Bindings
    binding : List ℕ → ExprTree → Bindings → Bindings

-- a list of expressions as a tree holds it
abbrev pub expr_trees_of : List ExprTree → ExprTrees
expr_trees_of [] = none
expr_trees_of (t ∷ ts) = part t (expr_trees_of ts)

-- a size that is greater than that of each part: the number of its forms
abbrev mutual
  pub nodes : ExprTree → ℕ
  nodes (Constant d) = 1
  nodes (Variable x) = 1
  nodes (Slot x) = 1
  nodes (If t u v) = nodes t + nodes u + nodes v + 1
  nodes (Let bs t) = nodes_bound bs + nodes t + 1
  nodes (And ts) = nodes_all ts + 1
  nodes (Or ts) = nodes_all ts + 1
  nodes (Map x t u) = nodes t + nodes u + 1
  nodes (Filter x t u) = nodes t + nodes u + 1
  nodes (Fold x t a u v) = nodes t + nodes u + nodes v + 1
  nodes (Operation o ts) = nodes_all ts + 1
  nodes (Call f ts) = nodes_all ts + 1

  -- the sizes of expressions together
  pub nodes_all : ExprTrees → ℕ
  nodes_all none = 0
  nodes_all (part t ts) = nodes t + nodes_all ts

  -- the sizes of what is bound together
  pub nodes_bound : Bindings → ℕ
  nodes_bound unbound = 0
  nodes_bound (binding x t bs) = nodes t + nodes_bound bs
