-- What the outermost forms of a text declare: functions, displays, types, slots, panes, command tables, commands and dialogs by name, whether their forms
-- are right or not. Of two of one name in one space the first counts, and a name that is reserved is none.
use Rattle.std.specs.Prelude.{ℕ, Bool, ◌||◌, is_some, if◌then◌else◌, List, [], ◌∷◌, Option, Some, None, option_and_then, codes}
use Rattle.std.specs.Str.{bytes_eq}
use Rattle.cl_table.specs.Names.{named, with_first}
use Rattle.cl_forms.specs.Datum.{Datum, parts_of}
use Rattle.cl_forms.specs.Naming.{name_in, names_counted, list_counted}
use Rattle.cl_forms.specs.Keys.{section_values}
use Rattle.cl_forms.specs.declared.keys.Key.TheVariants.{Slots, Panes}
use Rattle.cl_forms.specs.Outer.{Outer, declared_name, behind_name}
use Rattle.cl_forms.specs.declared.outer.DeclarationKind.{DeclarationKind}
use Rattle.cl_forms.specs.declared.outer.DeclarationKind.TheVariants.{Record, PresentationType, HostType, PresentMethod, AcceptMethod, CommandTable, Command, Translator, CommandTranslator, Dialog, Frame}
use Rattle.cl_forms.specs.declared.outer.DeclarationKind.TheVariants as kind
use Rattle.cl_forms.specs.declared.outer.OuterKind.{OuterKind}
use Rattle.cl_forms.specs.declared.outer.OuterKind.TheVariants.{Declared, Planned, Unknown, Headless}
use Rattle.cl_words.specs.Arguments.{arguments_behind}
use Rattle.cl_words.specs.Heads.{is_operator}
use Rattle.cl_words.specs.TypeNames.{is_standard_type}
use Rattle.cl_words.specs.declared.signatures.Signatures.{Signatures}
use Rattle.cl_words.specs.declared.signatures.Callee.{Callee}
use Rattle.cl_words.specs.declared.signatures.CalleeKind.{CalleeKind}
use Rattle.cl_words.specs.declared.signatures.CalleeKind.TheVariants.{Function, Display}
use Rattle.cl_words.specs.declared.signatures.CommandHead.{CommandHead}
use Rattle.cl_words.specs.declared.signatures.TypeHead.{TypeHead}
use Rattle.cl_words.specs.declared.signatures.TypeKind.{TypeKind}
use Rattle.cl_words.specs.declared.signatures.TypeKind.TheVariants as type

-- how many parameters stand first
abbrev pub parameters_counted : List Datum → Option ℕ
parameters_counted [] = None
parameters_counted (d ∷ ds) = list_counted d

-- a function or a display that is named as an operator is none
abbrev pub with_callee : Signatures → CalleeKind → Option (List ℕ) → Option ℕ → Signatures
with_callee w kind None count = w
with_callee w kind (Some x) count =
    if is_operator x then w else record w { callees = with_first (λ c. c.name) w.callees (record { name = x; kind = kind; count = count }) }

-- a type that is named as a standard one is none
abbrev pub with_type : Signatures → TypeKind → Option (List ℕ) → Option ℕ → Signatures
with_type w kind None count = w
with_type w kind (Some x) count =
    if is_standard_type x then w else record w { types = with_first (λ t. t.name) w.types (record { name = x; kind = kind; count = count }) }

-- one more slot, where it has a name and none has it yet
abbrev pub with_slot : Signatures → Option (List ℕ) → Signatures
with_slot w None = w
with_slot w (Some x) = record w { slots = with_first (λ s. s.name) w.slots (record { name = x }) }

-- one more pane, where it has a name and none has it yet
abbrev pub with_pane : Signatures → Option (List ℕ) → Signatures
with_pane w None = w
with_pane w (Some x) = record w { panes = with_first (λ p. p.name) w.panes (record { name = x }) }

-- the name of a part of `(:slots ..)` or `(:panes ..)`, which is a list that begins with it
abbrev pub part_name : List Datum → Option (List ℕ)
part_name [] = None
part_name (n ∷ more) = name_in n

-- the slots that the parts of a section declare
abbrev pub with_slots : Signatures → List Datum → Signatures
with_slots w [] = w
with_slots w (d ∷ ds) = with_slots (with_slot w (part_name (parts_of d))) ds

-- the panes that the parts of a section declare
abbrev pub with_panes : Signatures → List Datum → Signatures
with_panes w [] = w
with_panes w (d ∷ ds) = with_panes (with_pane w (part_name (parts_of d))) ds

-- the slots and the panes of the sections of a frame
abbrev pub with_sections : Signatures → List Datum → Signatures
with_sections w [] = w
with_sections w (d ∷ ds) = with_sections (with_panes (with_slots w (section_values Slots d)) (section_values Panes d)) ds

-- the command table that each text has
abbrev pub global_table : List ℕ
global_table = codes "global-command-table"

-- the name of the command table that each text has
abbrev pub is_global_table : List ℕ → Bool
is_global_table x = bytes_eq x global_table

-- a command table that is named as that which each text has is none
abbrev pub with_table : Signatures → Option (List ℕ) → Signatures
with_table w None = w
with_table w (Some x) = if is_global_table x then w else record w { tables = with_first (λ t. t.name) w.tables (record { name = x }) }

-- a command, with the names of its arguments where they can be told
abbrev pub with_command : Signatures → Option (List ℕ) → Option (List (List ℕ)) → Signatures
with_command w None arguments = w
with_command w (Some x) arguments = record w { commands = with_first (λ c. c.name) w.commands (record { name = x; arguments = arguments }) }

-- one more dialog, where it has a name and none has it yet
abbrev pub with_dialog : Signatures → Option (List ℕ) → Signatures
with_dialog w None = w
with_dialog w (Some x) = record w { dialogs = with_first (λ d. d.name) w.dialogs (record { name = x }) }

-- what a declaration declares, by its kind
abbrev pub with_declaration : Signatures → DeclarationKind → Outer → Signatures
with_declaration w Record o = with_type w type.Record (declared_name o) (names_counted (behind_name o))
with_declaration w PresentationType o = with_type w type.User (declared_name o) (parameters_counted (behind_name o))
with_declaration w HostType o = with_type w type.Host (declared_name o) None
with_declaration w PresentMethod o = w
with_declaration w AcceptMethod o = w
with_declaration w kind.Function o = with_callee w Function (declared_name o) (parameters_counted (behind_name o))
with_declaration w kind.Display o = with_callee w Display (declared_name o) (parameters_counted (behind_name o))
with_declaration w CommandTable o = with_table w (declared_name o)
with_declaration w Command o = with_command w (declared_name o) (arguments_behind (behind_name o))
with_declaration w Translator o = w
with_declaration w CommandTranslator o = w
with_declaration w Dialog o = with_dialog w (declared_name o)
with_declaration w Frame o = with_sections w (behind_name o)

-- what an outermost form declares, by what it is
abbrev pub with_outer_kind : Signatures → OuterKind → Outer → Signatures
with_outer_kind w (Declared kind) o = with_declaration w kind o
with_outer_kind w (Planned at) o = w
with_outer_kind w (Unknown at) o = w
with_outer_kind w Headless o = w

-- what an outermost form declares
abbrev pub with_outer : Signatures → Outer → Signatures
with_outer w o = with_outer_kind w o.kind o

-- what outermost forms declare, in the order of the text
abbrev pub with_outers : Signatures → List Outer → Signatures
with_outers w [] = w
with_outers w (o ∷ os) = with_outers (with_outer w o) os

-- signatures without any name
abbrev pub nothing_declared : Signatures
nothing_declared = record { callees = []; types = []; slots = []; panes = []; tables = []; commands = []; dialogs = [] }

-- the signatures of a text
abbrev pub signatures_of : List Outer → Signatures
signatures_of os = with_outers nothing_declared os

-- ---- what a name stands for

-- a function, with the count of its parameters where that can be told
abbrev pub function_count : Option Callee → Option (Option ℕ)
function_count None = None
function_count (Some c) = elim c.kind [ Function ↦ Some c.count | Display ↦ None ]

-- a display, with the count of its parameters where that can be told
abbrev pub display_count : Option Callee → Option (Option ℕ)
display_count None = None
display_count (Some c) = elim c.kind [ Function ↦ None | Display ↦ Some c.count ]

-- the function of a name, with the count of its parameters where that can be told
abbrev pub function_in : Signatures → List ℕ → Option (Option ℕ)
function_in w x = function_count (named x w.callees)

-- the display of a name, with the count of its parameters where that can be told
abbrev pub display_in : Signatures → List ℕ → Option (Option ℕ)
display_in w x = display_count (named x w.callees)

-- a type that is no standard one
abbrev pub type_in : Signatures → List ℕ → Option TypeHead
type_in w x = named x w.types

-- a record, with the count of its fields where that can be told
abbrev pub record_count : Option TypeHead → Option (Option ℕ)
record_count None = None
record_count (Some t) = elim t.kind [ type.Record ↦ Some t.count | type.Host ↦ None | type.User ↦ None ]

-- the record of a name, with the count of its fields where that can be told
abbrev pub record_in : Signatures → List ℕ → Option (Option ℕ)
record_in w x = record_count (type_in w x)

-- a slot of some frame
abbrev pub slot_in : Signatures → List ℕ → Bool
slot_in w x = is_some (named x w.slots)

-- a pane of some frame
abbrev pub pane_in : Signatures → List ℕ → Bool
pane_in w x = is_some (named x w.panes)

-- a command table of the text, or the one that each text has
abbrev pub table_in : Signatures → List ℕ → Bool
table_in w x = is_global_table x || is_some (named x w.tables)

-- a command of the text
abbrev pub command_in : Signatures → List ℕ → Bool
command_in w x = is_some (named x w.commands)

-- the names of a command's arguments, where they can be told
abbrev pub arguments_known : CommandHead → Option (List (List ℕ))
arguments_known c = c.arguments

-- the names of a command's arguments, in their order; None where there is no such command, or they cannot be told
abbrev pub arguments_of : Signatures → List ℕ → Option (List (List ℕ))
arguments_of w x = option_and_then arguments_known (named x w.commands)

-- a dialog of the text
abbrev pub dialog_in : Signatures → List ℕ → Bool
dialog_in w x = is_some (named x w.dialogs)
