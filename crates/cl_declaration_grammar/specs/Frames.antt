-- What is looked at of a frame: the types and opening values of its slots, the names of displays and that of its command table.
use Rattle.std.specs.Prelude.{ℕ, is_some, if◌then◌else◌, List, [], ◌∷◌, ◌++◌, Option, Some, None}
use Rattle.cl_forms.specs.Datum.{Datum, parts_of, offset}
use Rattle.cl_forms.specs.Keys.{Keyed, keyed_sections}
use Rattle.cl_forms.specs.Naming.{name_in}
use Rattle.cl_forms.specs.declared.keys.Key.TheVariants as key
use Rattle.cl_words.specs.declared.signatures.Signatures.{Signatures}
use Rattle.cl_declare.specs.Frames.{frame_keys, frame_shape}
use Rattle.cl_grammar.specs.Sights.{expression}
use Rattle.cl_text_grammar.specs.Types.{type_seen}
use Rattle.cl_declaration_grammar.specs.Parts.{Part, specifier, display_name, expressions, wrong}
use Rattle.cl_declaration_grammar.specs.Commands.{tables_seen}

-- `NAME TYPE E`: an opening value sees no variable
abbrev pub slot_seen : Signatures → List Datum → List Part
slot_seen w (n ∷ t ∷ e ∷ []) = specifier (type_seen w [] t) ∷ expressions (expression [] e ∷ []) ∷ []
slot_seen w parts = []

-- what is looked at of each slot, in their order
abbrev pub slots_seen : Signatures → List Datum → List Part
slots_seen w [] = []
slots_seen w (d ∷ ds) = slot_seen w (parts_of d) ++ slots_seen w ds

-- the display of a pane
abbrev pub pane_display_seen : ℕ → Option (List ℕ) → List Part
pane_display_seen at None = []
pane_display_seen at (Some x) = display_name x at ∷ []

-- `NAME X Y WIDTH HEIGHT DISPLAY`
abbrev pub pane_seen : List Datum → List Part
pane_seen (n ∷ x ∷ y ∷ a ∷ b ∷ d ∷ []) = pane_display_seen (offset d) (name_in d)
pane_seen parts = []

-- what is looked at of each pane, in their order
abbrev pub panes_seen : List Datum → List Part
panes_seen [] = []
panes_seen (p ∷ more) = pane_seen (parts_of p) ++ panes_seen more

-- a section by its key
abbrev pub section_seen : Signatures → Keyed → List Part
section_seen w k = elim k.key [
  | key.Slots ↦ slots_seen w k.values
  | key.Panes ↦ panes_seen k.values
  | key.CommandTable ↦ tables_seen k.values
  | key.Size ↦ []
  | key.Name ↦ []
  | key.Keystroke ↦ []
  | key.InheritFrom ↦ []
  | key.Satisfies ↦ []
  | key.Description ↦ []
  | key.Separator ↦ []
  | key.SingleBox ↦ []
  | key.Default ↦ []
  | key.Prompt ↦ []
  | key.Gesture ↦ []
  | key.Priority ↦ []
  | key.Documentation ↦ []
  | key.Tester ↦ []
  | key.UniqueId ↦ []
  | key.CacheValue ↦ []
  | key.Command ↦ []
  | key.Pane ↦ []
  | key.When ↦ []
  | key.Else ↦ []
]

-- what is looked at of each section, in their order
abbrev pub sections_seen : Signatures → List Keyed → List Part
sections_seen w [] = []
sections_seen w (k ∷ ks) = section_seen w k ++ sections_seen w ks

-- the frame has a name, two numbers as its size, slots that are slots, and one pane or more that are panes
abbrev pub keyed_frame_seen : Signatures → ℕ → Datum → Option (List Keyed) → List Part
keyed_frame_seen w at n None = wrong at
keyed_frame_seen w at n (Some ks) = if is_some (frame_shape w n ks) then sections_seen w ks else wrong at

-- `(define-application-frame NAME SECTION ...)`: each section has a key that a frame may have, once
abbrev pub frame_seen : Signatures → ℕ → List Datum → List Part
frame_seen w at [] = wrong at
frame_seen w at (n ∷ sections) = keyed_frame_seen w at n (keyed_sections frame_keys [] sections)
