-- A display form as a tree.
use Rattle.std.specs.Prelude.{ℕ, ◌+◌, List, [], ◌∷◌}
use Rattle.cl_syntax.specs.ExprTree.{ExprTree, ExprTrees, Bindings}
use Rattle.cl_syntax.specs.PresentationTree.{PresentationTree}
use Rattle.cl_syntax.specs.TypeSpecTree.{TypeSpecTree}
use Rattle.cl_syntax.specs.UpdateTree.{UpdateTree}
use Rattle.cl_syntax.specs.declared.figures.Figure.{Figure}

mutual
  -- a display form, by its kind
  pub data ShapeTree : Type 0 where
    -- (write-text E)
    WriteText : ExprTree → ShapeTree
    Newline : ShapeTree
    -- a drawing form, with its places, sizes and byte
    Draw : Figure → ExprTrees → ShapeTree
    -- (indenting-output E FORM ...)
    Indent : ExprTree → ShapeTrees → ShapeTree
    -- (with-ink E FORM ...)
    Ink : ExprTree → ShapeTrees → ShapeTree
    -- (with-room-for-graphics FORM ...)
    Room : ShapeTrees → ShapeTree
    -- (present E SPEC)
    Present : ExprTree → TypeSpecTree → ShapeTree
    -- (with-output-as-presentation (E SPEC :single-box BOOL) FORM ...)
    AsPresentation : PresentationTree → ShapeTrees → ShapeTree
    -- (updating-output (:unique-id E :cache-value (list PATH ...)) FORM ...)
    Update : UpdateTree → ShapeTrees → ShapeTree
    -- (if TEST THEN ELSE)
    If : ExprTree → ShapeTree → ShapeTree → ShapeTree
    -- (when TEST FORM ...)
    When : ExprTree → ShapeTrees → ShapeTree
    -- (let ((NAME E) ...) FORM ...)
    Let : Bindings → ShapeTrees → ShapeTree
    -- (dolist (NAME LIST) FORM ...)
    Dolist : List ℕ → ExprTree → ShapeTrees → ShapeTree
    -- (progn FORM ...)
    Progn : ShapeTrees → ShapeTree
    -- (DISPLAY E ...)
    Call : List ℕ → ExprTrees → ShapeTree

  -- display forms, one after another
  pub data ShapeTrees : Type 0 where
    none : ShapeTrees
    form : ShapeTree → ShapeTrees → ShapeTrees

-- a list of display forms as a tree holds it
abbrev pub shape_trees_of : List ShapeTree → ShapeTrees
shape_trees_of [] = none
shape_trees_of (f ∷ fs) = form f (shape_trees_of fs)

-- a size that is greater than that of each part
abbrev mutual
  pub nodes : ShapeTree → ℕ
  nodes (WriteText t) = 1
  nodes Newline = 1
  nodes (Draw figure ts) = 1
  nodes (Indent t fs) = nodes_all fs + 1
  nodes (Ink t fs) = nodes_all fs + 1
  nodes (Room fs) = nodes_all fs + 1
  nodes (Present t spec) = 1
  nodes (AsPresentation p fs) = nodes_all fs + 1
  nodes (Update u fs) = nodes_all fs + 1
  nodes (If t f g) = nodes f + nodes g + 1
  nodes (When t fs) = nodes_all fs + 1
  nodes (Let bs fs) = nodes_all fs + 1
  nodes (Dolist x t fs) = nodes_all fs + 1
  nodes (Progn fs) = nodes_all fs + 1
  nodes (Call d ts) = 1

  -- the sizes of display forms together
  pub nodes_all : ShapeTrees → ℕ
  nodes_all none = 0
  nodes_all (form f fs) = nodes f + 1 + nodes_all fs
