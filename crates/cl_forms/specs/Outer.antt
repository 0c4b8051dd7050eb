-- The outermost forms of a text, by their heads.
use Rattle.std.specs.Prelude.{ℕ, Bool, if◌then◌else◌, List, [], ◌∷◌, map, Option, Some, None, option_and_then, codes}
use Rattle.std.specs.Str.{bytes_eq}
use Rattle.cl_forms.specs.Datum.{Datum, number, literal, word, quoted, stray, list, in_order, offset, parts_of}
use Rattle.cl_forms.specs.Naming.{name_in}
use Rattle.cl_forms.specs.declared.outer.DeclarationKind.{DeclarationKind}
use Rattle.cl_forms.specs.declared.outer.DeclarationKind.TheVariants.{Record, PresentationType, HostType, PresentMethod, AcceptMethod, Function, Display, CommandTable, Command, Translator, CommandTranslator, Dialog, Frame}
use Rattle.cl_forms.specs.declared.outer.OuterKind.{OuterKind}
use Rattle.cl_forms.specs.declared.outer.OuterKind.TheVariants.{Declared, Planned, Unknown, Headless}

-- an outermost form: what it is, what stands where its name is, all that stands behind its head, and its offset
pub record Outer : Type 0 where
  pub kind : OuterKind
  pub name : Option Datum
  pub parts : List Datum
  pub at : ℕ

-- ---- heads

-- what declares something of presentation types
abbrev pub type_declared : List ℕ → Option DeclarationKind
type_declared x =
    if bytes_eq x (codes "define-record") then Some Record
    else (if bytes_eq x (codes "define-presentation-type") then Some PresentationType
    else (if bytes_eq x (codes "define-host-type") then Some HostType
    else (if bytes_eq x (codes "define-present-method") then Some PresentMethod
    else (if bytes_eq x (codes "define-accept-method") then Some AcceptMethod else None))))

-- what declares anything else
abbrev pub declared_by : List ℕ → Option DeclarationKind
declared_by x =
    if bytes_eq x (codes "define-function") then Some Function
    else (if bytes_eq x (codes "define-display") then Some Display
    else (if bytes_eq x (codes "define-command-table") then Some CommandTable
    else (if bytes_eq x (codes "define-command") then Some Command
    else (if bytes_eq x (codes "define-presentation-translator") then Some Translator
    else (if bytes_eq x (codes "define-presentation-to-command-translator") then Some CommandTranslator
    else (if bytes_eq x (codes "define-dialog") then Some Dialog
    else (if bytes_eq x (codes "define-application-frame") then Some Frame else None)))))))

-- the first declaration, else the other
abbrev pub declared_or : Option DeclarationKind → Option DeclarationKind → Option DeclarationKind
declared_or (Some kind) other = Some kind
declared_or None other = other

-- what a form declares that this word heads, if anything
abbrev pub declaration_named : List ℕ → Option DeclarationKind
declaration_named x = declared_or (type_declared x) (declared_by x)

-- a declaration that is not built yet
abbrev pub is_planned : List ℕ → Bool
is_planned x = bytes_eq x (codes "define-drag-and-drop-translator")

-- a declaration, where there is one, else the other
abbrev pub kind_or : Option DeclarationKind → OuterKind → OuterKind
kind_or (Some kind) other = Declared kind
kind_or None other = other

-- what a form is that this word heads, at this offset
abbrev pub kind_named : List ℕ → ℕ → OuterKind
kind_named x at = kind_or (declaration_named x) (if is_planned x then Planned at else Unknown at)

-- ---- names

-- the first part, if there is one
abbrev pub first_of : List Datum → Option Datum
first_of [] = None
first_of (d ∷ ds) = Some d

-- all parts but the first
abbrev pub behind_first : List Datum → List Datum
behind_first [] = []
behind_first (d ∷ ds) = ds

-- the first part of a list; an atom itself
abbrev pub first_or_itself : Datum → Option Datum
first_or_itself (list ds at) = first_of (in_order ds)
first_or_itself (number z at) = Some (number z at)
first_or_itself (literal s at) = Some (literal s at)
first_or_itself (word s at) = Some (word s at)
first_or_itself (quoted s at name_at) = Some (quoted s at name_at)
first_or_itself (stray at) = Some (stray at)

-- a command is headed by its name, or by a list that begins with it
abbrev pub command_name : List Datum → Option Datum
command_name [] = None
command_name (d ∷ ds) = first_or_itself d

-- what stands where the name of a form is, by what the form is
abbrev pub outer_name : OuterKind → List Datum → Option Datum
outer_name (Declared Command) ds = command_name ds
outer_name (Declared Record) ds = first_of ds
outer_name (Declared PresentationType) ds = first_of ds
outer_name (Declared HostType) ds = first_of ds
outer_name (Declared PresentMethod) ds = first_of ds
outer_name (Declared AcceptMethod) ds = first_of ds
outer_name (Declared Function) ds = first_of ds
outer_name (Declared Display) ds = first_of ds
outer_name (Declared CommandTable) ds = first_of ds
outer_name (Declared Translator) ds = first_of ds
outer_name (Declared CommandTranslator) ds = first_of ds
outer_name (Declared Dialog) ds = first_of ds
outer_name (Declared Frame) ds = first_of ds
outer_name (Planned at) ds = first_of ds
outer_name (Unknown at) ds = first_of ds
outer_name Headless ds = None

-- the name, where one stands there
abbrev pub declared_name : Outer → Option (List ℕ)
declared_name o = option_and_then name_in o.name

-- what stands behind the name
abbrev pub behind_name : Outer → List Datum
behind_name o = behind_first o.parts

-- ---- forms

-- an outermost form without a head
abbrev pub headless : ℕ → Outer
headless at = record { kind = Headless; name = None; parts = []; at = at }

-- the outermost form at an offset, by what stands first in it
abbrev pub outer_headed : ℕ → Datum → List Datum → Outer
outer_headed at (word s head_at) ds = record { kind = kind_named s head_at; name = outer_name (kind_named s head_at) ds; parts = ds; at = at }
outer_headed at (number z head_at) ds = headless at
outer_headed at (literal s head_at) ds = headless at
outer_headed at (quoted s head_at name_at) ds = headless at
outer_headed at (stray head_at) ds = headless at
outer_headed at (list es head_at) ds = headless at

-- the outermost form at an offset, by its parts
abbrev pub outer_listed : ℕ → List Datum → Outer
outer_listed at [] = headless at
outer_listed at (d ∷ ds) = outer_headed at d ds

-- an outermost form is a list that its head begins; an atom has no head
abbrev pub outer_in : Datum → Outer
outer_in d = outer_listed (offset d) (parts_of d)

-- the outermost forms of a text
abbrev pub outers_of : List Datum → List Outer
outers_of ds = map outer_in ds
