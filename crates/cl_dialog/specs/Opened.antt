-- How a dialog opens.
use Rattle.std.specs.Prelude.{ℕ, List, map, Option, Some, None}
use Rattle.cl_application.specs.declared.applications.App.{App}
use Rattle.cl_application.specs.declared.declarations.ArgumentDecl.{ArgumentDecl}
use Rattle.cl_application.specs.declared.declarations.DialogDecl.{DialogDecl}
use Rattle.cl_application.specs.declared.declarations.QueryDecl.{QueryDecl}
use Rattle.cl_dialog.specs.OpenDialog.{OpenDialog}
use Rattle.cl_dialog_forms.specs.Forms.{arguments_of, queries_of}
use Rattle.cl_parser.specs.Defaults.{default_value}
use Rattle.cl_table.specs.Names.{named}
use Rattle.cl_value.specs.Data.{Data}

-- the default of an argument, if there are both
abbrev pub opening_value : App → Option ArgumentDecl → Option Data
opening_value app None = None
opening_value app (Some a) = default_value app a

-- a query with the default of its argument
abbrev pub opened_query : App → List (List ℕ × ArgumentDecl) → QueryDecl → List ℕ × Option Data
opened_query app arguments q = (q.name, opening_value app (named q.name arguments))

-- its queries have the defaults of the command's arguments, and none is selected
abbrev pub opened : App → DialogDecl → OpenDialog
opened app d = record { name = d.name; queries = map (opened_query app (arguments_of app d)) (queries_of d); selected = None }
