-- The faults of a frame's sections stand in them, or at the frame.
use Rattle.std.proofs.Common.{ℕ, is_some, List, [], ◌∷◌}
use Rattle.std.specs.Prelude.{Option, Some, None}
use Rattle.std.specs.Option.{IfSome}
use Rattle.cl_forms.specs.Datum.{Datum, parts_of, offset}
use Rattle.cl_forms.specs.Keys.{Keyed, keyed_sections}
use Rattle.cl_forms.specs.Naming.{name_in}
use Rattle.cl_forms.specs.declared.keys.Key.{Key}
use Rattle.cl_forms.specs.declared.keys.Key.TheVariants as key
use Rattle.cl_words.specs.Signatures.{display_in}
use Rattle.cl_words.specs.declared.signatures.Signatures.{Signatures}
use Rattle.cl_declare.specs.Frames.{frame_keys, frame_shape}
use Rattle.cl_declare.specs.Sections.{SlotTable, parse_slot, parse_slots, note_display, note_pane, note_panes, parse_section, parse_sections}
use Rattle.cl_declare.specs.Sections.{parse_shaped, parse_keyed, parse_frame}
use Rattle.cl_declare.specs.declared.frames.FrameShape.{FrameShape}
use Rattle.cl_faults.proofs.FaultLemmas.{FaultsAt, gives, refuses, notes, binds}
use Rattle.cl_faults.proofs.ExpressionFaults.{expr_faults}
use Rattle.cl_faults.proofs.DataFaults.{CoversEach, covers_parts}
use Rattle.cl_faults.proofs.KeyFaults.{CoversKeys, sections_covered}
use Rattle.cl_faults.proofs.TypeFaults.{type_faults}
use Rattle.cl_faults.proofs.CommandFaults.{tables_faults}

module _ {P : ℕ → Type 0} where
  slot_faults : (w : Signatures) (at : ℕ) (ds : List Datum) (slots : SlotTable) → CoversEach P ds → FaultsAt P (parse_slot w at ds slots)
  slot_faults w at (n ∷ t ∷ e ∷ []) slots c = binds (type_faults w [] t c.1.0) λ s. binds (expr_faults w e [] c.1.1.0) λ v. gives
  slot_faults w at ds slots c = gives

  slots_faults : (w : Signatures) (ds : List Datum) (slots : SlotTable) → CoversEach P ds → FaultsAt P (parse_slots w ds slots)
  slots_faults w [] slots c = gives
  slots_faults w (d ∷ ds) slots c =
      binds (slot_faults w (offset d) (parts_of d) slots (covers_parts d c.0)) λ more. slots_faults w ds more c.1

  display_faults : (w : Signatures) (at : ℕ) (name : Option (List ℕ)) → FaultsAt P (note_display w at name)
  display_faults w at None = gives
  display_faults w at (Some x) = notes (is_some (display_in w x)) at

  pane_faults : (w : Signatures) (ds : List Datum) → FaultsAt P (note_pane w ds)
  pane_faults w (n ∷ x ∷ y ∷ a ∷ b ∷ d ∷ []) = display_faults w (offset d) (name_in d)
  pane_faults w ds = gives

  panes_faults : (w : Signatures) (ds : List Datum) → FaultsAt P (note_panes w ds)
  panes_faults w [] = gives
  panes_faults w (p ∷ more) = binds (pane_faults w (parts_of p)) λ u. panes_faults w more

  section_faults : (w : Signatures) (k : Key) (at : ℕ) (ds : List Datum) (slots : SlotTable) → P at → CoversEach P ds
      → FaultsAt P (parse_section w (record { key = k; at = at; values = ds }) slots)
  section_faults w key.Slots at ds slots h c = slots_faults w ds slots c
  section_faults w key.Panes at ds slots h c = binds (panes_faults w ds) λ u. gives
  section_faults w key.CommandTable at ds slots h c = binds (tables_faults w ds) λ u. gives
  section_faults w key.Size at ds slots h c = gives
  section_faults w key.Name at ds slots h c = gives
  section_faults w key.Keystroke at ds slots h c = gives
  section_faults w key.InheritFrom at ds slots h c = gives
  section_faults w key.Satisfies at ds slots h c = gives
  section_faults w key.Description at ds slots h c = gives
  section_faults w key.Separator at ds slots h c = gives
  section_faults w key.SingleBox at ds slots h c = gives
  section_faults w key.Default at ds slots h c = gives
  section_faults w key.Prompt at ds slots h c = gives
  section_faults w key.Gesture at ds slots h c = gives
  section_faults w key.Priority at ds slots h c = gives
  section_faults w key.Documentation at ds slots h c = gives
  section_faults w key.Tester at ds slots h c = gives
  section_faults w key.UniqueId at ds slots h c = gives
  section_faults w key.CacheValue at ds slots h c = gives
  section_faults w key.Command at ds slots h c = gives
  section_faults w key.Pane at ds slots h c = gives
  section_faults w key.When at ds slots h c = gives
  section_faults w key.Else at ds slots h c = gives

  sections_faults : (w : Signatures) (ks : List Keyed) (slots : SlotTable) → CoversKeys P ks → FaultsAt P (parse_sections w ks slots)
  sections_faults w [] slots c = gives
  sections_faults w (k ∷ ks) slots c =
      binds (section_faults w k.key k.at k.values slots c.0.0 c.0.1) λ more. sections_faults w ks more c.1

  shaped_faults : (w : Signatures) (at : ℕ) (ks : List Keyed) (shape : Option FrameShape) → P at → CoversKeys P ks
      → FaultsAt P (parse_shaped w at ks shape)
  shaped_faults w at ks None h c = refuses h
  shaped_faults w at ks (Some f) h c = binds (sections_faults w ks [] c) λ slots. gives

  keyed_faults : (w : Signatures) (at : ℕ) (n : Datum) (ks : Option (List Keyed)) → P at → IfSome ks (CoversKeys P)
      → FaultsAt P (parse_keyed w at n ks)
  keyed_faults w at n None h c = refuses h
  keyed_faults w at n (Some ks) h c = shaped_faults w at ks (frame_shape w n ks) h c

  pub frame_faults : (w : Signatures) (at : ℕ) (ds : List Datum) → P at → CoversEach P ds → FaultsAt P (parse_frame w at ds)
  frame_faults w at [] h c = refuses h
  frame_faults w at (n ∷ sections) h c =
      keyed_faults w at n (keyed_sections frame_keys [] sections) h (sections_covered P frame_keys [] sections tt c.1)
