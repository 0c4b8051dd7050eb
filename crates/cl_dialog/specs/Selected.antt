-- The query that is selected, its type, and what sets its value.
use Rattle.std.specs.Prelude.{ℕ, if◌then◌else◌, List, map, Option, Some, None}
use Rattle.cl_application.specs.App.{dialog_named}
use Rattle.cl_application.specs.declared.applications.App.{App}
use Rattle.cl_application.specs.declared.declarations.ArgumentDecl.{ArgumentDecl}
use Rattle.cl_application.specs.declared.declarations.DialogDecl.{DialogDecl}
use Rattle.cl_dialog.specs.OpenDialog.{OpenDialog, Queries}
use Rattle.cl_dialog_forms.specs.Forms.{arguments_of}
use Rattle.cl_eval.specs.Slots.{is_name}
use Rattle.cl_syntax.specs.TypeSpecTree.{TypeSpecTree}
use Rattle.cl_table.specs.Names.{named}
use Rattle.cl_value.specs.Data.{Data}

-- with this query selected
abbrev pub with_selected : List ℕ → OpenDialog → OpenDialog
with_selected query dialog = record dialog { selected = Some query }

-- a query with this value, where it has the name
abbrev pub set_where : List ℕ → Data → List ℕ × Option Data → List ℕ × Option Data
set_where x d q = if is_name x q.0 then (q.0, Some d) else q

-- the query of that name with this value; none where there is no name
abbrev pub set_in : Option (List ℕ) → Data → Queries → Queries
set_in None d qs = qs
set_in (Some x) d qs = map (set_where x d) qs

-- the selected query with this value
abbrev pub with_value : Data → OpenDialog → OpenDialog
with_value d dialog = record dialog { queries = set_in dialog.selected d dialog.queries }

-- ---- its type

-- the type of an argument, if there is one
abbrev pub type_of : Option ArgumentDecl → Option TypeSpecTree
type_of None = None
type_of (Some a) = Some a.spec

-- the type of the argument of that name of a dialog's command
abbrev pub argument_type : App → List ℕ → Option DialogDecl → Option TypeSpecTree
argument_type app x None = None
argument_type app x (Some d) = type_of (named x (arguments_of app d))

-- the same where there is a name
abbrev pub type_named : App → Option DialogDecl → Option (List ℕ) → Option TypeSpecTree
type_named app d None = None
type_named app d (Some x) = argument_type app x d

-- the type of the selected query, by the dialog's declaration
abbrev pub selected_type : App → OpenDialog → Option TypeSpecTree
selected_type app dialog = type_named app (dialog_named dialog.name app) dialog.selected
