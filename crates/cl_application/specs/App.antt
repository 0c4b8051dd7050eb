-- What is found in an application.
use Rattle.std.specs.Prelude.{ℕ, List, [], Option, Some, None}
use Rattle.cl_syntax.specs.ShapeTree.{ShapeTree}
use Rattle.cl_table.specs.Names.{named}
use Rattle.cl_application.specs.declared.applications.App.{App}
use Rattle.cl_syntax.specs.declared.type_decls.RecordDecl.{RecordDecl}
use Rattle.cl_application.specs.declared.declarations.FunctionDecl.{FunctionDecl}
use Rattle.cl_application.specs.declared.declarations.DisplayDecl.{DisplayDecl}
use Rattle.cl_application.specs.declared.declarations.MethodDecl.{MethodDecl}
use Rattle.cl_application.specs.declared.declarations.CommandDecl.{CommandDecl}
use Rattle.cl_application.specs.declared.declarations.DialogDecl.{DialogDecl}
use Rattle.cl_application.specs.declared.declarations.SlotDecl.{SlotDecl}
use Rattle.cl_application.specs.declared.declarations.PaneDecl.{PaneDecl}
use Rattle.cl_syntax.specs.TypeSpecTree.{TypeSpecTree}

-- the record of that name; None where there is none
abbrev pub record_named : List ℕ → App → Option RecordDecl
record_named x app = named x app.records

-- how the type of that name presents its values, where the text says so
abbrev pub present_method : List ℕ → App → Option MethodDecl
present_method x app = named x app.present_methods

-- how the type of that name reads texts, where the text says so
abbrev pub accept_method : List ℕ → App → Option MethodDecl
accept_method x app = named x app.accept_methods

-- the function of that name; None where there is none
abbrev pub function_named : List ℕ → App → Option FunctionDecl
function_named x app = named x app.functions

-- the display of that name; None where there is none
abbrev pub display_named : List ℕ → App → Option DisplayDecl
display_named x app = named x app.displays

-- the command of that name; None where there is none
abbrev pub command_named : List ℕ → App → Option CommandDecl
command_named x app = named x app.commands

-- the dialog of that name; None where there is none
abbrev pub dialog_named : List ℕ → App → Option DialogDecl
dialog_named x app = named x app.dialogs

-- the type of a slot, where there is one
abbrev pub type_of_slot : Option SlotDecl → Option TypeSpecTree
type_of_slot None = None
type_of_slot (Some d) = Some d.spec

-- the type of the slot of that name; None where there is no such slot
abbrev pub slot_type : List ℕ → App → Option TypeSpecTree
slot_type x app = type_of_slot (named x app.frame.slots)

-- the forms of a display; none where there is no display
abbrev pub body_of : Option DisplayDecl → List ShapeTree
body_of None = []
body_of (Some d) = d.body

-- the pane of that name; None where there is none
abbrev pub pane_named : List ℕ → App → Option PaneDecl
pane_named x app = named x app.frame.panes

-- the forms of the display that a pane names; none where there is no such display
abbrev pub forms_of : PaneDecl → App → List ShapeTree
forms_of pane app = body_of (display_named pane.display app)
