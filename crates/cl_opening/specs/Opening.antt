-- The opening values of the slots, the defaults of arguments, and what stands for queries that are not shown.
use Rattle.std.specs.Prelude.{◌≡◌, ℕ, Bool, true, false, if◌then◌else◌, List, [], ◌∷◌, Option, Some, None, Result, Ok, Err}
use Rattle.cl_value.specs.Data.{Data, null}
use Rattle.cl_value.specs.Value.{data_of}
use Rattle.cl_value.specs.declared.Value.{Value}
use Rattle.cl_application.specs.App.{command_named}
use Rattle.cl_application.specs.declared.applications.App.{App}
use Rattle.cl_application.specs.declared.declarations.ArgumentDecl.{ArgumentDecl}
use Rattle.cl_application.specs.declared.declarations.CommandDecl.{CommandDecl}
use Rattle.cl_application.specs.declared.declarations.ConditionDecl.{ConditionDecl}
use Rattle.cl_application.specs.declared.declarations.DefaultDecl.{DefaultDecl}
use Rattle.cl_application.specs.declared.declarations.DialogDecl.{DialogDecl}
use Rattle.cl_application.specs.declared.declarations.QueryDecl.{QueryDecl}
use Rattle.cl_application.specs.declared.declarations.SlotDecl.{SlotDecl}
use Rattle.cl_syntax.specs.ExprTree.{ExprTree}
use Rattle.cl_syntax.specs.TypeSpecTree.{TypeSpecTree}
use Rattle.cl_eval.specs.Evaluated.{outcome_of_eval, own_limits}
use Rattle.cl_eval.specs.Outcome.{Outcome, Gives, Traps}
use Rattle.cl_eval.specs.Slots.{Slots, put}
use Rattle.cl_table.specs.Names.{named}
use Rattle.cl_forms.specs.declared.refusals.FormRefusal.{FormRefusal}
use Rattle.cl_forms.specs.declared.refusals.FormRefusal.TheVariants.{Refused, Memory}
use Rattle.cl_phases.specs.Earlier.{earlier}

-- an expression on no slots and no variables
abbrev pub constant_of : App → ExprTree → Outcome Data
constant_of app e = outcome_of_eval own_limits app [] [] e

-- what the opening value of a slot comes to
abbrev pub opening_of : App → SlotDecl → Outcome Data
opening_of app d = constant_of app d.opening

-- a value; no opening value of an application that loads traps
abbrev pub value_or_null : Outcome Data → Data
value_or_null (Gives d cost deepest) = d
value_or_null (Traps kind cost deepest) = null

-- an offset that is there, or the other
abbrev pub there_or : Option ℕ → Option ℕ → Option ℕ
there_or None other = other
there_or (Some at) other = Some at

-- whether a value is a member of a type
abbrev pub Holds : Type 0
Holds = Data → TypeSpecTree → Bool

-- a value that is a member of the type
abbrev pub is_fit : Holds → Outcome Data → TypeSpecTree → Bool
is_fit holds (Gives d cost deepest) spec = holds d spec
is_fit holds (Traps kind cost deepest) spec = false

-- the offset of the first opening value that traps or is no member of its slot's type
abbrev pub first_unfit_opening : Holds → App → List (List ℕ × SlotDecl) → Option ℕ
first_unfit_opening holds app [] = None
first_unfit_opening holds app (s ∷ more) =
    if is_fit holds (opening_of app s.1) s.1.spec then first_unfit_opening holds app more else Some s.1.opening_at

-- the offset of a default that traps or is no member of its argument's type
abbrev pub unfit_default : Holds → App → Option DefaultDecl → TypeSpecTree → Option ℕ
unfit_default holds app None spec = None
unfit_default holds app (Some d) spec = if is_fit holds (constant_of app d.value) spec then None else Some d.at

-- that of the default of an argument
abbrev pub unfit_argument : Holds → App → ArgumentDecl → Option ℕ
unfit_argument holds app a = unfit_default holds app a.default a.spec

-- that of the first of the arguments with such a one
abbrev pub first_unfit_argument : Holds → App → List (List ℕ × ArgumentDecl) → Option ℕ
first_unfit_argument holds app [] = None
first_unfit_argument holds app (a ∷ more) = there_or (unfit_argument holds app a.1) (first_unfit_argument holds app more)

-- that of the first of the commands with such an argument
abbrev pub first_unfit_command : Holds → App → List (List ℕ × CommandDecl) → Option ℕ
first_unfit_command holds app [] = None
first_unfit_command holds app (c ∷ more) = there_or (first_unfit_argument holds app c.1.arguments) (first_unfit_command holds app more)

-- a value that is a member of the type of the argument; none is where there is no such argument
abbrev pub fits_argument : Holds → Outcome Data → Option ArgumentDecl → Bool
fits_argument holds o None = false
fits_argument holds o (Some a) = is_fit holds o a.spec

-- the offset of an `:else` that traps or is no member of its argument's type
abbrev pub unfit_else : Holds → App → Option ConditionDecl → Option ArgumentDecl → Option ℕ
unfit_else holds app None a = None
unfit_else holds app (Some c) a = if fits_argument holds (constant_of app c.otherwise) a then None else Some c.otherwise_at

-- the arguments of a command by their names
abbrev pub Arguments : Type 0
Arguments = List (List ℕ × ArgumentDecl)

-- that of a query of a command with these arguments
abbrev pub unfit_query : Holds → App → Arguments → QueryDecl → Option ℕ
unfit_query holds app arguments q = unfit_else holds app q.condition (named q.name arguments)

-- that of the first of the queries with such a one
abbrev pub first_unfit_query : Holds → App → Arguments → List (List ℕ × QueryDecl) → Option ℕ
first_unfit_query holds app arguments [] = None
first_unfit_query holds app arguments (q ∷ more) = there_or (unfit_query holds app arguments q.1) (first_unfit_query holds app arguments more)

-- the arguments of a command, if there is one
abbrev pub arguments_in : Option CommandDecl → Arguments
arguments_in None = []
arguments_in (Some c) = c.arguments

-- the arguments of a dialog's command
abbrev pub arguments_for : App → DialogDecl → Arguments
arguments_for app d = arguments_in (command_named d.command app)

-- that of the first of the queries of a dialog
abbrev pub unfit_dialog : Holds → App → DialogDecl → Option ℕ
unfit_dialog holds app d = first_unfit_query holds app (arguments_for app d) d.queries

-- that of the first of the dialogs with such a query
abbrev pub first_unfit_dialog : Holds → App → List (List ℕ × DialogDecl) → Option ℕ
first_unfit_dialog holds app [] = None
first_unfit_dialog holds app (d ∷ more) = there_or (unfit_dialog holds app d.1) (first_unfit_dialog holds app more)

-- the offset of the first default or `:else` that traps or is no member of its argument's type
abbrev pub first_unfit_constant : Holds → App → Option ℕ
first_unfit_constant holds app = earlier (first_unfit_command holds app app.commands) (first_unfit_dialog holds app app.dialogs)

-- the offset of the first opening value, default or `:else` that traps or is no member of its type
unfoldable pub first_unfit : Holds → App → Option ℕ
first_unfit holds app = earlier (first_unfit_opening holds app app.frame.slots) (first_unfit_constant holds app)

-- each slot with its opening value, beside those that stand
abbrev pub opened : App → List (List ℕ × SlotDecl) → Slots → Slots
opened app [] slots = slots
opened app (s ∷ more) slots = opened app more (put s.1.name (value_or_null (opening_of app s.1)) slots)

-- the slots of the frame with their opening values
abbrev pub opening_slots : App → Slots
opening_slots app = opened app app.frame.slots []

-- ---- what the program answers

-- the value, where it is a member of the slot's type
abbrev pub IsMemberOf : Result Value FormRefusal → Holds → Data → SlotDecl → Type 0
IsMemberOf (Ok v) holds d slot = (data_of v ≡ d) × (holds d slot.spec ≡ true)
IsMemberOf (Err (Refused number at)) holds d slot = (number ≡ 12) × (at ≡ slot.opening_at) × (holds d slot.spec ≡ false)
IsMemberOf (Err Memory) holds d slot = Unit {0}

-- the value of one slot
abbrev pub OpensValue : Result Value FormRefusal → Holds → Outcome Data → SlotDecl → Type 0
OpensValue (Ok v) holds o d = (data_of v ≡ value_or_null o) × (is_fit holds o d.spec ≡ true)
OpensValue (Err (Refused number at)) holds o d = (number ≡ 12) × (at ≡ d.opening_at) × (is_fit holds o d.spec ≡ false)
OpensValue (Err Memory) holds o d = Unit {0}

-- the slots, as far as their own values decide
abbrev pub OpensValues : Result Slots FormRefusal → Holds → App → Type 0
OpensValues (Ok slots) holds app = (first_unfit_opening holds app app.frame.slots ≡ None) × (slots ≡ opening_slots app)
OpensValues (Err (Refused number at)) holds app = (number ≡ 12) × (first_unfit_opening holds app app.frame.slots ≡ Some at)
OpensValues (Err Memory) holds app = Unit {0}

-- the slots
abbrev pub OpensSlots : Result Slots FormRefusal → Holds → App → Type 0
OpensSlots (Ok slots) holds app = (first_unfit holds app ≡ None) × (slots ≡ opening_slots app)
OpensSlots (Err (Refused number at)) holds app = (number ≡ 12) × (first_unfit holds app ≡ Some at)
OpensSlots (Err Memory) holds app = Unit {0}
