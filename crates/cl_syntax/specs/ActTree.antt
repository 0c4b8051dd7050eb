-- A statement as a tree.
use Rattle.std.specs.Prelude.{ℕ, ◌+◌, Bool, List, [], ◌∷◌}
use Rattle.cl_syntax.specs.ExprTree.{ExprTree, Bindings}

mutual
  -- a statement, by its kind
  pub data ActTree : Type 0 where
    -- (setf (slot NAME) E)
    Setf : List ℕ → ExprTree → ActTree
    -- (reply E)
    Reply : ExprTree → ActTree
    -- (enable COMMAND), or (disable COMMAND) where it is false
    Switch : List ℕ → Bool → ActTree
    -- (open-dialog DIALOG)
    OpenDialog : List ℕ → ActTree
    -- (if TEST THEN ELSE)
    If : ExprTree → ActTree → ActTree → ActTree
    -- (when TEST STATEMENT ...)
    When : ExprTree → ActTrees → ActTree
    -- (let ((NAME E) ...) STATEMENT ...)
    Let : Bindings → ActTrees → ActTree
    -- (dolist (NAME LIST) STATEMENT ...)
    Dolist : List ℕ → ExprTree → ActTrees → ActTree
    -- (progn STATEMENT ...)
    Progn : ActTrees → ActTree

  -- statements, one after another
  pub data ActTrees : Type 0 where
    none : ActTrees
    statement : ActTree → ActTrees → ActTrees

-- a list of statements as a tree holds it
abbrev pub act_trees_of : List ActTree → ActTrees
act_trees_of [] = none
act_trees_of (s ∷ ss) = statement s (act_trees_of ss)

-- a size that is greater than that of each part
abbrev mutual
  pub nodes : ActTree → ℕ
  nodes (Setf x t) = 1
  nodes (Reply t) = 1
  nodes (Switch x on) = 1
  nodes (OpenDialog x) = 1
  nodes (If t r s) = nodes r + nodes s + 1
  nodes (When t ss) = nodes_all ss + 1
  nodes (Let bs ss) = nodes_all ss + 1
  nodes (Dolist x t ss) = nodes_all ss + 1
  nodes (Progn ss) = nodes_all ss + 1

  -- the sizes of statements together
  pub nodes_all : ActTrees → ℕ
  nodes_all none = 0
  nodes_all (statement s ss) = nodes s + 1 + nodes_all ss
