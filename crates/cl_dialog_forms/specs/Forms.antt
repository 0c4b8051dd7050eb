-- The form of a dialog: each query with its value, and then the choices to exit and to abort.
use Rattle.std.specs.Prelude.{ℕ, ◌+◌, true, List, [], ◌∷◌, ◌++◌, codes, map, Option, Some, None}
use Rattle.cl_application.specs.App.{command_named}
use Rattle.cl_application.specs.Panes.{declared_by}
use Rattle.cl_application.specs.declared.applications.App.{App}
use Rattle.cl_application.specs.declared.declarations.ArgumentDecl.{ArgumentDecl}
use Rattle.cl_application.specs.declared.declarations.CommandDecl.{CommandDecl}
use Rattle.cl_application.specs.declared.declarations.ConditionDecl.{ConditionDecl}
use Rattle.cl_application.specs.declared.declarations.DialogDecl.{DialogDecl}
use Rattle.cl_application.specs.declared.declarations.DisplayDecl.{DisplayDecl}
use Rattle.cl_application.specs.declared.declarations.QueryDecl.{QueryDecl}
use Rattle.cl_dialog_forms.specs.Caches.{cache_of}
use Rattle.cl_dialog_forms.specs.Names.{form_name, set_name}
use Rattle.cl_syntax.specs.ExprTree as expr
use Rattle.cl_syntax.specs.PresentationTree.{PresentationTree}
use Rattle.cl_syntax.specs.ShapeTree as shape
use Rattle.cl_syntax.specs.ShapeTree.{ShapeTree, shape_trees_of}
use Rattle.cl_syntax.specs.TypeSpecTree.{plain_type}
use Rattle.cl_syntax.specs.UpdateTree.{UpdateTree}
use Rattle.cl_table.specs.Names.{named, with_first}
use Rattle.cl_value.specs.Data.{symbol, text}

-- the queries of a dialog, in order
abbrev pub queries_of : DialogDecl → List QueryDecl
queries_of d = map declared_by d.queries

-- the arguments of a command, if there is one
abbrev pub arguments_in : Option CommandDecl → List (List ℕ × ArgumentDecl)
arguments_in None = []
arguments_in (Some c) = c.arguments

-- the arguments of the command of a dialog; none where there is no such command
abbrev pub arguments_of : App → DialogDecl → List (List ℕ × ArgumentDecl)
arguments_of app d = arguments_in (command_named d.command app)

-- ---- parts of a form

-- `(write-text TEXT)`
abbrev pub written : List ℕ → ShapeTree
written bytes = shape.WriteText (expr.Constant (text bytes))

-- `('NAME dialog-choice :single-box true)`
abbrev pub choice_named : List ℕ → PresentationTree
choice_named x = record { object = expr.Constant (symbol x); spec = plain_type (codes "dialog-choice"); single_box = true }

-- `(with-output-as-presentation ('NAME dialog-choice :single-box true) FORM ...)`
abbrev pub as_choice : List ℕ → List ShapeTree → ShapeTree
as_choice x fs = shape.AsPresentation (choice_named x) (shape_trees_of fs)

-- the value of a query as its argument's type presents it, where it is set
abbrev pub value_form : List ℕ → ArgumentDecl → ShapeTree
value_form x a = shape.If (expr.Variable (set_name x)) (shape.Present (expr.Variable x) a.spec) (written (codes "---"))

-- a line with the prompt and the value, as a choice
abbrev pub query_line : List ℕ → ArgumentDecl → List ShapeTree
query_line x a = as_choice x (written (a.prompt ++ codes ": ") ∷ value_form x a ∷ []) ∷ shape.Newline ∷ []

-- `:unique-id 'NAME :cache-value (list PATH ...)` with all paths that the line reads, at the declaration of the dialog with this number
abbrev pub line_update : App → DialogDecl → ℕ → List ℕ → ArgumentDecl → UpdateTree
line_update app d k x a = record {
  site = record { form = d.at; query = k };
  id = Some (expr.Constant (symbol x));
  cache = Some (cache_of app (shape_trees_of (query_line x a)));
}

-- the line as an update
abbrev pub updated_line : App → DialogDecl → ℕ → List ℕ → ArgumentDecl → ShapeTree
updated_line app d k x a = shape.Update (line_update app d k x a) (shape_trees_of (query_line x a))

-- where a condition is true, if there is one
abbrev pub under : Option ConditionDecl → ShapeTree → ShapeTree
under None f = f
under (Some c) f = shape.When c.when (shape_trees_of (f ∷ []))

-- the form of a query of this number for its argument
abbrev pub query_form : App → DialogDecl → ℕ → QueryDecl → ArgumentDecl → ShapeTree
query_form app d k query a = under query.condition (updated_line app d k query.name a)

-- none where the command has no such argument
abbrev pub query_form_if : App → DialogDecl → ℕ → QueryDecl → Option ArgumentDecl → List ShapeTree
query_form_if app d k query None = []
query_form_if app d k query (Some a) = query_form app d k query a ∷ []

-- the forms of queries, numbered from here on
abbrev pub query_forms : App → DialogDecl → ℕ → List QueryDecl → List ShapeTree
query_forms app d k [] = []
query_forms app d k (q ∷ qs) = query_form_if app d k q (named q.name (arguments_of app d)) ++ query_forms app d (k + 1) qs

-- `[Exit] [Abort]`, each as a choice
abbrev pub exit_forms : List ShapeTree
exit_forms = as_choice (codes "exit") (written (codes "[Exit]") ∷ []) ∷ written (codes " ") ∷ as_choice (codes "abort") (written (codes "[Abort]") ∷ []) ∷ []

-- ---- the form

-- the queries of a dialog in their order, then the two choices
abbrev pub dialog_form : App → DialogDecl → List ShapeTree
dialog_form app d = query_forms app d 1 (queries_of d) ++ exit_forms

-- for each query its value and whether it is set
abbrev pub parameters_of : List QueryDecl → List (List ℕ)
parameters_of [] = []
parameters_of (q ∷ qs) = q.name ∷ set_name q.name ∷ parameters_of qs

-- the form as a display
abbrev pub dialog_display : App → DialogDecl → DisplayDecl
dialog_display app d = record { name = form_name d.name; parameters = parameters_of (queries_of d); body = dialog_form app d; at = d.at }

-- those of all dialogs, in order of declaration
abbrev pub dialog_displays : App → List DisplayDecl
dialog_displays app = map (dialog_display app) (map declared_by app.dialogs)

-- the name of a display
abbrev pub own_name : DisplayDecl → List ℕ
own_name d = d.name

-- displays behind the others, each where none has its name
abbrev pub with_displays : List (List ℕ × DisplayDecl) → List DisplayDecl → List (List ℕ × DisplayDecl)
with_displays table [] = table
with_displays table (d ∷ ds) = with_displays (with_first own_name table d) ds

-- the application with the forms of its dialogs behind its displays
abbrev pub with_dialog_displays : App → App
with_dialog_displays app = record app { displays = with_displays app.displays (dialog_displays app) }
