-- Names that are declared twice, or are reserved.
use Rattle.std.specs.Prelude.{ℕ, List, [], ◌∷◌, Option, None}
use Rattle.cl_forms.specs.Datum.{Datum, parts_of}
use Rattle.cl_forms.specs.Keys.{section_values}
use Rattle.cl_forms.specs.declared.keys.Key.TheVariants.{Slots, Panes}
use Rattle.cl_forms.specs.Outer.{Outer, behind_name}
use Rattle.cl_forms.specs.declared.outer.DeclarationKind.{DeclarationKind}
use Rattle.cl_forms.specs.declared.outer.DeclarationKind.TheVariants.{Record, PresentationType, HostType, PresentMethod, AcceptMethod, Function, Display, CommandTable, Command, Translator, CommandTranslator, Dialog, Frame}
use Rattle.cl_forms.specs.declared.outer.OuterKind.{OuterKind}
use Rattle.cl_forms.specs.declared.outer.OuterKind.TheVariants.{Declared, Planned, Unknown, Headless}
use Rattle.cl_phases.specs.Earlier.{earlier, at_if}
use Rattle.cl_phases.specs.Repeats.{first_repeated}
use Rattle.cl_phases.specs.CommandNames.{lines_in, strokes_in}
use Rattle.cl_phases.specs.DeclaredNames.{names_at, declared_in, is_reserved}
use Rattle.cl_phases.specs.declared.repeats.NameAt.{NameAt}
use Rattle.cl_phases.specs.declared.declared_names.Space.{Space}
use Rattle.cl_phases.specs.declared.declared_names.Space.TheVariants.{Callees, Types, PresentMethods, AcceptMethods, Tables, Commands, Translators, Dialogs, Frames}

-- ---- among the outermost forms

-- the first name that is reserved in its space
abbrev pub first_reserved : Space → List NameAt → Option ℕ
first_reserved s [] = None
first_reserved s (n ∷ ns) = earlier (at_if (is_reserved s n.name) n.at) (first_reserved s ns)

-- the names of a space
abbrev pub names_twice : Space → List NameAt → Option ℕ
names_twice s ns = earlier (first_repeated ns) (first_reserved s ns)

-- ---- within one declaration

-- the slots of a frame, and its panes
abbrev pub section_twice : Datum → Option ℕ
section_twice d = earlier (first_repeated (names_at (section_values Slots d))) (first_repeated (names_at (section_values Panes d)))

-- the first that stands twice in the sections of a frame
abbrev pub sections_twice : List Datum → Option ℕ
sections_twice [] = None
sections_twice (d ∷ ds) = earlier (section_twice d) (sections_twice ds)

-- parameters, or the arguments of a command
abbrev pub parameters_twice : List Datum → Option ℕ
parameters_twice [] = None
parameters_twice (d ∷ ds) = first_repeated (names_at (parts_of d))

-- the first name that stands twice in a declaration of this kind
abbrev pub parts_twice : DeclarationKind → List Datum → Option ℕ
parts_twice Record more = first_repeated (names_at more)
parts_twice PresentationType more = parameters_twice more
parts_twice HostType more = None
parts_twice PresentMethod more = None
parts_twice AcceptMethod more = None
parts_twice Function more = parameters_twice more
parts_twice Display more = parameters_twice more
parts_twice CommandTable more = None
parts_twice Command more = parameters_twice more
parts_twice Translator more = None
parts_twice CommandTranslator more = None
parts_twice Dialog more = None
parts_twice Frame more = sections_twice more

-- the same by the kind of the outermost form
abbrev pub outer_twice : OuterKind → List Datum → Option ℕ
outer_twice (Declared kind) more = parts_twice kind more
outer_twice (Planned at) more = None
outer_twice (Unknown at) more = None
outer_twice Headless more = None

-- the first name that stands twice in an outermost form
abbrev pub declaration_twice : Outer → Option ℕ
declaration_twice o = outer_twice o.kind (behind_name o)

-- the first in outermost forms in a row
abbrev pub declarations_twice : List Outer → Option ℕ
declarations_twice [] = None
declarations_twice (o ∷ os) = earlier (declaration_twice o) (declarations_twice os)

-- ---- the least offset

-- the first name that is declared twice in a space, or reserved there
abbrev pub twice_in : Space → List Outer → Option ℕ
twice_in s os = names_twice s (declared_in s os)

-- the names of types, and those of the types that have methods, of one kind each
abbrev pub types_twice : List Outer → Option ℕ
types_twice os = earlier (twice_in Types os) (earlier (twice_in PresentMethods os) (twice_in AcceptMethods os))

-- the names of commands in the whole text; their command-line names and their keystrokes within each table
abbrev pub commands_twice : List Outer → Option ℕ
commands_twice os = earlier (twice_in Commands os) (earlier (first_repeated (lines_in os)) (first_repeated (strokes_in os)))

-- the names of command tables, and those of commands
abbrev pub tables_twice : List Outer → Option ℕ
tables_twice os = earlier (twice_in Tables os) (commands_twice os)

-- the first name that stands twice, or is reserved, in any space
abbrev pub spaces_twice : List Outer → Option ℕ
spaces_twice os = earlier (earlier (twice_in Callees os) (types_twice os)) (earlier (tables_twice os) (earlier (twice_in Translators os) (earlier (twice_in Dialogs os) (twice_in Frames os))))

-- the first name of the text that stands twice in its space or its form, or is reserved there
abbrev pub first_twice : List Outer → Option ℕ
first_twice os = earlier (spaces_twice os) (declarations_twice os)
