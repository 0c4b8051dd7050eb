-- The sections of a frame in the order of the text: types and opening values of slots, the names of displays and of the command table.
use Rattle.std.specs.Prelude.{ℕ, is_some, List, [], ◌∷◌, Option, Some, None}
use Rattle.cl_table.specs.Names.{with_first}
use Rattle.cl_forms.specs.Datum.{Datum, parts_of, offset}
use Rattle.cl_forms.specs.Keys.{Keyed, keyed_sections}
use Rattle.cl_forms.specs.Naming.{name_in, symbol_of}
use Rattle.cl_forms.specs.declared.keys.Key.TheVariants as key
use Rattle.cl_words.specs.Signatures.{display_in}
use Rattle.cl_words.specs.declared.signatures.Signatures.{Signatures}
use Rattle.cl_expressions.specs.Load.{Load, ◌>>=◌, give, refuse, noted}
use Rattle.cl_expressions.specs.Expressions.{parse_expression}
use Rattle.cl_bodies.specs.Specifiers.{parse_type}
use Rattle.cl_application.specs.declared.declarations.SlotDecl.{SlotDecl}
use Rattle.cl_declare.specs.CommandTables.{note_tables}
use Rattle.cl_declare.specs.Frames.{frame_keys, frame_shape}
use Rattle.cl_declare.specs.declared.frames.FrameForm.{FrameForm}
use Rattle.cl_declare.specs.declared.frames.FrameShape.{FrameShape}

-- the slots of a frame by their names
abbrev pub SlotTable : Type 0
SlotTable = List (List ℕ × SlotDecl)

-- `(NAME TYPE E)`; of two slots of one name the first counts. What is no slot makes its frame wrong, and is not read.
abbrev pub parse_slot : Signatures → ℕ → List Datum → SlotTable → Load SlotTable
parse_slot w at (n ∷ t ∷ e ∷ []) slots =
    parse_type w [] t >>= λ s. parse_expression w e [] >>= λ v.
    give (with_first (λ d. d.name) slots (record { name = symbol_of n; spec = s; opening = v; opening_at = offset e; at = at }))
parse_slot w at parts slots = give slots

-- slots in the order of the text, behind those that were read before
abbrev pub parse_slots : Signatures → List Datum → SlotTable → Load SlotTable
parse_slots w [] slots = give slots
parse_slots w (d ∷ ds) slots = parse_slot w (offset d) (parts_of d) slots >>= λ more. parse_slots w ds more

-- the display of a pane is noted where it is not declared
abbrev pub note_display : Signatures → ℕ → Option (List ℕ) → Load (Unit {0})
note_display w at None = give tt
note_display w at (Some x) = noted (is_some (display_in w x)) at

-- the display of a pane by the parts of the pane
abbrev pub note_pane : Signatures → List Datum → Load (Unit {0})
note_pane w (n ∷ x ∷ y ∷ a ∷ b ∷ d ∷ []) = note_display w (offset d) (name_in d)
note_pane w parts = give tt

-- the same for each pane, in their order
abbrev pub note_panes : Signatures → List Datum → Load (Unit {0})
note_panes w [] = give tt
note_panes w (p ∷ more) = note_pane w (parts_of p) >>= λ u. note_panes w more

-- what a section says: slots are read, the names of displays and of the command table are noted
abbrev pub parse_section : Signatures → Keyed → SlotTable → Load SlotTable
parse_section w k slots = elim k.key [
  | key.Slots ↦ parse_slots w k.values slots
  | key.Panes ↦ note_panes w k.values >>= λ u. give slots
  | key.CommandTable ↦ note_tables w k.values >>= λ u. give slots
  | key.Size ↦ give slots
  | key.Name ↦ give slots
  | key.Keystroke ↦ give slots
  | key.InheritFrom ↦ give slots
  | key.Satisfies ↦ give slots
  | key.Description ↦ give slots
  | key.Separator ↦ give slots
  | key.SingleBox ↦ give slots
  | key.Default ↦ give slots
  | key.Prompt ↦ give slots
  | key.Gesture ↦ give slots
  | key.Priority ↦ give slots
  | key.Documentation ↦ give slots
  | key.Tester ↦ give slots
  | key.UniqueId ↦ give slots
  | key.CacheValue ↦ give slots
  | key.Command ↦ give slots
  | key.Pane ↦ give slots
  | key.When ↦ give slots
  | key.Else ↦ give slots
]

-- sections in the order of the text, with the slots that were read before
abbrev pub parse_sections : Signatures → List Keyed → SlotTable → Load SlotTable
parse_sections w [] slots = give slots
parse_sections w (k ∷ ks) slots = parse_section w k slots >>= λ more. parse_sections w ks more

-- the frame of a shape, with its slots
abbrev pub frame_of : FrameShape → SlotTable → ℕ → FrameForm
frame_of f slots at = record { name = f.name; width = f.size.width; height = f.size.height; slots = slots; panes = f.panes; table = f.table; at = at }

-- the sections of a frame of this shape; wrong at this offset where it has none
abbrev pub parse_shaped : Signatures → ℕ → List Keyed → Option FrameShape → Load FrameForm
parse_shaped w at ks None = refuse 6 at
parse_shaped w at ks (Some f) = parse_sections w ks [] >>= λ slots. give (frame_of f slots at)

-- a frame by its sections; wrong at this offset where their keys are
abbrev pub parse_keyed : Signatures → ℕ → Datum → Option (List Keyed) → Load FrameForm
parse_keyed w at n None = refuse 6 at
parse_keyed w at n (Some ks) = parse_shaped w at ks (frame_shape w n ks)

-- `(define-application-frame NAME (:size WIDTH HEIGHT) (:slots SLOT ...) (:panes PANE ...) (:command-table TABLE))`
abbrev pub parse_frame : Signatures → ℕ → List Datum → Load FrameForm
parse_frame w at [] = refuse 6 at
parse_frame w at (n ∷ sections) = parse_keyed w at n (keyed_sections frame_keys [] sections)
