-- What is past a limit in the outermost forms of a text: lengths of symbols and texts, counts of forms and of their parts.
use Rattle.std.specs.Prelude.{ℕ, nat_lt, List, [], ◌∷◌, length, slice_get, Option, Some, None}
use Rattle.cl_forms.specs.Datum.{Datum, Datums, number, literal, word, quoted, stray, list, none, item, datums_of, offset, parts_of}
use Rattle.cl_forms.specs.Keys.{section_values}
use Rattle.cl_forms.specs.declared.keys.Key.TheVariants.{Slots, Panes, Name}
use Rattle.cl_forms.specs.Outer.{Outer, behind_first, behind_name, outer_in}
use Rattle.cl_forms.specs.declared.outer.DeclarationKind.{DeclarationKind}
use Rattle.cl_forms.specs.declared.outer.DeclarationKind.TheVariants.{Record, PresentationType, HostType, PresentMethod, AcceptMethod, Function, Display, CommandTable, Command, Translator, CommandTranslator, Dialog, Frame}
use Rattle.cl_forms.specs.declared.outer.OuterKind.{OuterKind}
use Rattle.cl_forms.specs.declared.outer.OuterKind.TheVariants.{Declared, Planned, Unknown, Headless}
use Rattle.cl_phases.specs.CommandNames.{head_value}
use Rattle.cl_phases.specs.Earlier.{earlier, at_if}

-- a symbol has at most 64 bytes, a text 4,096
abbrev mutual
  pub long_in : Datum → Option ℕ
  long_in (number z at) = None
  long_in (literal s at) = at_if (nat_lt 4096 (length s)) at
  long_in (word s at) = at_if (nat_lt 64 (length s)) at
  long_in (quoted s at name_at) = at_if (nat_lt 64 (length s)) name_at
  long_in (stray at) = None
  long_in (list ds at) = long_among ds

  -- the first in data in a row that is too long
  pub long_among : Datums → Option ℕ
  long_among none = None
  long_among (item d ds) = earlier (long_in d) (long_among ds)

-- the offset of a datum, if there is one
abbrev pub offset_in : Option Datum → Option ℕ
offset_in None = None
offset_in (Some d) = Some (offset d)

-- the first of more than so many
abbrev pub past : ℕ → List Datum → Option ℕ
past count ds = offset_in (slice_get ds count)

-- a user type, a function or a display has at most 16 parameters, and a command as many arguments; they stand first behind its name
abbrev pub past_parameters : List Datum → Option ℕ
past_parameters [] = None
past_parameters (d ∷ ds) = past 16 (parts_of d)

-- a frame has at most 256 slots and 16 panes
abbrev pub past_section : Datum → Option ℕ
past_section d = earlier (past 256 (section_values Slots d)) (past 16 (section_values Panes d))

-- the first that is past a limit in the sections of a frame
abbrev pub past_sections : List Datum → Option ℕ
past_sections [] = None
past_sections (d ∷ ds) = earlier (past_section d) (past_sections ds)

-- a dialog has at most 16 queries, which stand behind its name and its keys
abbrev pub past_queries : List Datum → Option ℕ
past_queries more = past 16 (behind_first more)

-- a record has at most 16 fields
abbrev pub past_kind : DeclarationKind → List Datum → Option ℕ
past_kind Record more = past 16 more
past_kind PresentationType more = past_parameters more
past_kind HostType more = None
past_kind PresentMethod more = None
past_kind AcceptMethod more = None
past_kind Function more = past_parameters more
past_kind Display more = past_parameters more
past_kind CommandTable more = None
past_kind Command more = past_parameters more
past_kind Translator more = None
past_kind CommandTranslator more = None
past_kind Dialog more = past_queries more
past_kind Frame more = past_sections more

-- the first that is past a limit in an outermost form, by what it declares
abbrev pub past_outer : OuterKind → List Datum → Option ℕ
past_outer (Declared kind) more = past_kind kind more
past_outer (Planned at) more = None
past_outer (Unknown at) more = None
past_outer Headless more = None

-- a text that is too long for a command-line name
abbrev pub long_line : Datum → Option ℕ
long_line (literal s at) = at_if (nat_lt 64 (length s)) at
long_line (number z at) = None
long_line (word s at) = None
long_line (quoted s at name_at) = None
long_line (stray at) = None
long_line (list ds at) = None

-- a command-line name that is given has at most 64 bytes
abbrev pub past_line : Option Datum → Option ℕ
past_line None = None
past_line (Some d) = long_line d

-- the first that is past a limit in a declaration
abbrev pub past_declaration : Outer → Option ℕ
past_declaration o = earlier (past_line (head_value Name o)) (past_outer o.kind (behind_name o))

-- the first in declarations in a row
abbrev pub past_declarations : List Datum → Option ℕ
past_declarations [] = None
past_declarations (d ∷ ds) = earlier (past_declaration (outer_in d)) (past_declarations ds)

-- a text has at most 4,096 outermost forms
abbrev pub first_past : List Datum → Option ℕ
first_past ds = earlier (past 4096 ds) (earlier (long_among (datums_of ds)) (past_declarations ds))
