-- Opening values, defaults, what stands for queries that are not shown and predicates read no slot, through calls too.
use Rattle.std.specs.Prelude.{◌≡◌, ◌⊎◌, ℕ, List, [], ◌∷◌, Option, Some, None}
use Rattle.cl_syntax.specs.declared.type_decls.TypeDecl.{TypeDecl}
use Rattle.cl_application.specs.declared.declarations.CommandDecl.{CommandDecl}
use Rattle.cl_application.specs.declared.declarations.DialogDecl.{DialogDecl}
use Rattle.cl_declare.specs.declared.declarations.Declarations.{Declarations}
use Rattle.cl_declare.specs.declared.frames.FrameForm.{FrameForm}
use Rattle.cl_lattice.specs.Firsts.{IsFirst, offset_of}
use Rattle.cl_phases.specs.Earlier.{earlier}
use Rattle.cl_phases.specs.SlotReads.{AnyReads, DefaultsRead, ElsesRead, FunctionReads, Functions}

-- ---- frames

-- the offset of the first frame with an opening value that reads a slot
abbrev pub IsFirstReading : Functions → List FrameForm → ℕ → Type 0
IsFirstReading fs [] at = ⊥
IsFirstReading fs (f ∷ more) at = (AnyReads fs f.slots × (at ≡ f.at)) ⊎ ((AnyReads fs f.slots → ⊥) × IsFirstReading fs more at)

-- no frame has one
abbrev pub NoneReads : Functions → List FrameForm → Type 0
NoneReads fs [] = Unit {0}
NoneReads fs (f ∷ more) = (AnyReads fs f.slots → ⊥) × NoneReads fs more

-- the first frame with a reading is at this offset, or there is none
abbrev pub Finds : Functions → List FrameForm → Option ℕ → Type 0
Finds fs frames (Some at) = IsFirstReading fs frames at
Finds fs frames None = NoneReads fs frames

-- ---- user types

-- a predicate, if there is one, reads a slot
abbrev pub PredicateReads : Functions → Option (List ℕ) → Type 0
PredicateReads fs None = ⊥
PredicateReads fs (Some f) = FunctionReads fs f

-- a user type whose predicate reads a slot
abbrev pub TypeReads : Functions → List ℕ × TypeDecl → Type 0
TypeReads fs e = PredicateReads fs e.1.satisfies

-- ---- commands

-- a command with a default that reads a slot
abbrev pub CommandReads : Functions → List ℕ × CommandDecl → Type 0
CommandReads fs e = DefaultsRead fs e.1.arguments

-- the offset of a command
abbrev pub command_offset : List ℕ × CommandDecl → ℕ
command_offset e = e.1.at

-- ---- dialogs

-- a dialog with an `:else` that reads a slot
abbrev pub DialogReads : Functions → List ℕ × DialogDecl → Type 0
DialogReads fs e = ElsesRead fs e.1.queries

-- the offset of a dialog
abbrev pub dialog_offset : List ℕ × DialogDecl → ℕ
dialog_offset e = e.1.at

-- ---- declarations

-- the offset of the first declaration with an opening value, a default, an `:else` or a predicate that reads a slot
pub record FindsReading (s : Declarations) (reading : Option ℕ) : Type 0 where
  pub frame : Option ℕ
  pub frame_found : Finds s.functions s.frames frame
  pub user_type : Option ℕ
  pub type_found : IsFirst (TypeReads s.functions) offset_of s.types user_type
  pub command : Option ℕ
  pub command_found : IsFirst (CommandReads s.functions) command_offset s.commands command
  pub dialog : Option ℕ
  pub dialog_found : IsFirst (DialogReads s.functions) dialog_offset s.dialogs dialog
  pub first : reading ≡ earlier frame (earlier user_type (earlier command dialog))
