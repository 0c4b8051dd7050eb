-- The names that the outermost forms of a text declare, in the order of the text.
use Rattle.std.specs.Prelude.{ℕ, Bool, false, if◌then◌else◌, List, [], ◌∷◌, ◌++◌, Option, Some, None}
use denote.Enum.Bare.{sameb}
use Rattle.cl_forms.specs.Datum.{Datum, number, literal, word, quoted, stray, list, parts_of}
use Rattle.cl_forms.specs.Outer.{Outer}
use Rattle.cl_forms.specs.declared.outer.DeclarationKind.{DeclarationKind}
use Rattle.cl_forms.specs.declared.outer.DeclarationKind.TheVariants.{Record, PresentationType, HostType, PresentMethod, AcceptMethod, Function, Display, CommandTable, Command, Translator, CommandTranslator, Dialog, Frame}
use Rattle.cl_forms.specs.declared.outer.OuterKind.{OuterKind}
use Rattle.cl_forms.specs.declared.outer.OuterKind.TheVariants.{Declared, Planned, Unknown, Headless}
use Rattle.cl_words.specs.TypeNames.{is_standard_type}
use Rattle.cl_words.specs.Heads.{is_operator}
use Rattle.cl_words.specs.Signatures.{is_global_table}
use Rattle.cl_phases.specs.declared.repeats.NameAt.{NameAt}
use Rattle.cl_phases.specs.declared.declared_names.Space.{Space}
use Rattle.cl_phases.specs.declared.declared_names.Space.TheVariants as space
use Rattle.cl_phases.specs.contracts.declared_names.Space.{the_type}

-- the name that a datum is, at its offset
abbrev pub word_at : Datum → List NameAt
word_at (word s at) = record { name = s; at = at } ∷ []
word_at (number z at) = []
word_at (literal s at) = []
word_at (quoted s at name_at) = []
word_at (stray at) = []
word_at (list ds at) = []

-- the name that stands first
abbrev pub first_at : List Datum → List NameAt
first_at [] = []
first_at (d ∷ ds) = word_at d

-- a name, or that with which a list begins
abbrev pub name_at : Datum → List NameAt
name_at d = word_at d ++ first_at (parts_of d)

-- those of data in a row
abbrev pub names_at : List Datum → List NameAt
names_at [] = []
names_at (d ∷ ds) = name_at d ++ names_at ds

-- two spaces are one
abbrev pub same_space : Space → Space → Bool
same_space a b = sameb the_type a b

-- functions and displays share one space, and so do all types and all kinds of translator
abbrev pub space_of : DeclarationKind → Space
space_of Record = space.Types
space_of PresentationType = space.Types
space_of HostType = space.Types
space_of PresentMethod = space.PresentMethods
space_of AcceptMethod = space.AcceptMethods
space_of Function = space.Callees
space_of Display = space.Callees
space_of CommandTable = space.Tables
space_of Command = space.Commands
space_of Translator = space.Translators
space_of CommandTranslator = space.Translators
space_of Dialog = space.Dialogs
space_of Frame = space.Frames

-- a form of this kind declares a name in a space
abbrev pub is_in : Space → OuterKind → Bool
is_in s (Declared kind) = same_space s (space_of kind)
is_in s (Planned at) = false
is_in s (Unknown at) = false
is_in s Headless = false

-- a name that none may have in a space
abbrev pub is_reserved : Space → List ℕ → Bool
is_reserved space.Callees name = is_operator name
is_reserved space.Types name = is_standard_type name
is_reserved space.PresentMethods name = false
is_reserved space.AcceptMethods name = false
is_reserved space.Tables name = is_global_table name
is_reserved space.Commands name = false
is_reserved space.Translators name = false
is_reserved space.Dialogs name = false
is_reserved space.Frames name = false

-- the name of a form
abbrev pub own_name_at : Option Datum → List NameAt
own_name_at None = []
own_name_at (Some d) = word_at d

-- where the form declares one in a space
abbrev pub declares : Space → Outer → List NameAt
declares s o = if is_in s o.kind then own_name_at o.name else []

-- the names that outermost forms declare in a space, in the order of the text
abbrev pub declared_in : Space → List Outer → List NameAt
declared_in s [] = []
declared_in s (o ∷ os) = declares s o ++ declared_in s os
