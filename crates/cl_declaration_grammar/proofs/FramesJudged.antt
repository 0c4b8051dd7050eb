-- The readings of frames answer to what is looked at of them.
use Rattle.std.proofs.Common.{ℕ, is_some, if◌then◌else◌, List, [], ◌∷◌}
use Rattle.std.specs.Prelude.{Option, Some, None}
use Rattle.cl_forms.specs.Datum.{Datum, parts_of, offset}
use Rattle.cl_forms.specs.Keys.{Keyed, keyed_sections}
use Rattle.cl_forms.specs.Naming.{name_in}
use Rattle.cl_forms.specs.declared.keys.Key.{Key}
use Rattle.cl_forms.specs.declared.keys.Key.TheVariants as key
use Rattle.cl_words.specs.declared.signatures.Signatures.{Signatures}
use Rattle.cl_declare.specs.Frames.{frame_keys, frame_shape}
use Rattle.cl_declare.specs.Sections.{SlotTable, parse_slot, parse_slots, note_display, note_pane, note_panes, parse_section}
use Rattle.cl_declare.specs.Sections.{parse_sections, frame_of, parse_shaped, parse_keyed, parse_frame}
use Rattle.cl_declare.specs.declared.frames.FrameShape.{FrameShape}
use Rattle.cl_grammar.specs.Sights.{expression}
use Rattle.cl_grammar.proofs.Judging.{Any}
use Rattle.cl_text_grammar.specs.Types.{type_seen}
use Rattle.cl_declaration_grammar.specs.Parts.{specifier, expressions, wrong}
use Rattle.cl_declaration_grammar.specs.Frames.{slot_seen, slots_seen, pane_display_seen, pane_seen, panes_seen, section_seen, sections_seen}
use Rattle.cl_declaration_grammar.specs.Frames.{keyed_frame_seen, frame_seen}
use Rattle.cl_declaration_grammar.proofs.Judging.{Judges, joined, then_given, ended}
use Rattle.cl_declaration_grammar.proofs.PartsJudged.{expression_part, type_part, is_wrong, display_name_judged}
use Rattle.cl_declaration_grammar.proofs.CommandsJudged.{tables_judged}

module _ (w : Signatures) where
  slot_judged : (at : ℕ) (ds : List Datum) (slots : SlotTable) → Judges w (slot_seen w ds) Any (parse_slot w at ds slots)
  slot_judged at (n ∷ t ∷ e ∷ []) slots =
      joined w (specifier (type_seen w [] t) ∷ []) (expressions (expression [] e ∷ []) ∷ []) (type_part w [] t) λ s i. then_given w _ (expression_part w e [])
  slot_judged at [] slots = ended w
  slot_judged at (n ∷ []) slots = ended w
  slot_judged at (n ∷ t ∷ []) slots = ended w
  slot_judged at (n ∷ t ∷ e ∷ d ∷ ds) slots = ended w

  slots_judged : (ds : List Datum) (slots : SlotTable) → Judges w (slots_seen w ds) Any (parse_slots w ds slots)
  slots_judged [] slots = ended w
  slots_judged (d ∷ ds) slots =
      joined w (slot_seen w (parts_of d)) (slots_seen w ds) (slot_judged (offset d) (parts_of d) slots) λ more i. slots_judged ds more

  shown_judged : (at : ℕ) (o : Option (List ℕ)) → Judges w (pane_display_seen at o) Any (note_display w at o)
  shown_judged at None = ended w
  shown_judged at (Some x) = display_name_judged w x at

  pane_judged : (ds : List Datum) → Judges w (pane_seen ds) Any (note_pane w ds)
  pane_judged (n ∷ x ∷ y ∷ a ∷ b ∷ d ∷ []) = shown_judged (offset d) (name_in d)
  pane_judged [] = ended w
  pane_judged (n ∷ []) = ended w
  pane_judged (n ∷ x ∷ []) = ended w
  pane_judged (n ∷ x ∷ y ∷ []) = ended w
  pane_judged (n ∷ x ∷ y ∷ a ∷ []) = ended w
  pane_judged (n ∷ x ∷ y ∷ a ∷ b ∷ []) = ended w
  pane_judged (n ∷ x ∷ y ∷ a ∷ b ∷ d ∷ e ∷ ds) = ended w

  panes_judged : (ds : List Datum) → Judges w (panes_seen ds) Any (note_panes w ds)
  panes_judged [] = ended w
  panes_judged (p ∷ more) = joined w (pane_seen (parts_of p)) (panes_seen more) (pane_judged (parts_of p)) λ u i. panes_judged more

  section_judged : (k : Key) (at : ℕ) (ds : List Datum) (slots : SlotTable)
      → Judges w (section_seen w (record { key = k; at = at; values = ds })) Any (parse_section w (record { key = k; at = at; values = ds }) slots)
  section_judged key.Slots at ds slots = slots_judged ds slots
  section_judged key.Panes at ds slots = then_given w (λ u. slots) (panes_judged ds)
  section_judged key.CommandTable at ds slots = then_given w (λ u. slots) (tables_judged w ds)
  section_judged key.Size at ds slots = ended w
  section_judged key.Name at ds slots = ended w
  section_judged key.Keystroke at ds slots = ended w
  section_judged key.InheritFrom at ds slots = ended w
  section_judged key.Satisfies at ds slots = ended w
  section_judged key.Description at ds slots = ended w
  section_judged key.Separator at ds slots = ended w
  section_judged key.SingleBox at ds slots = ended w
  section_judged key.Default at ds slots = ended w
  section_judged key.Prompt at ds slots = ended w
  section_judged key.Gesture at ds slots = ended w
  section_judged key.Priority at ds slots = ended w
  section_judged key.Documentation at ds slots = ended w
  section_judged key.Tester at ds slots = ended w
  section_judged key.UniqueId at ds slots = ended w
  section_judged key.CacheValue at ds slots = ended w
  section_judged key.Command at ds slots = ended w
  section_judged key.Pane at ds slots = ended w
  section_judged key.When at ds slots = ended w
  section_judged key.Else at ds slots = ended w

  sections_judged : (ks : List Keyed) (slots : SlotTable) → Judges w (sections_seen w ks) Any (parse_sections w ks slots)
  sections_judged [] slots = ended w
  sections_judged (k ∷ ks) slots =
      joined w (section_seen w k) (sections_seen w ks) (section_judged k.key k.at k.values slots) λ more i. sections_judged ks more

  shaped_judged : (at : ℕ) (ks : List Keyed) (o : Option FrameShape)
      → Judges w (if is_some o then sections_seen w ks else wrong at) Any (parse_shaped w at ks o)
  shaped_judged at ks None = is_wrong w at
  shaped_judged at ks (Some f) = then_given w (λ slots. frame_of f slots at) (sections_judged ks [])

  keyed_judged : (at : ℕ) (n : Datum) (o : Option (List Keyed)) → Judges w (keyed_frame_seen w at n o) Any (parse_keyed w at n o)
  keyed_judged at n None = is_wrong w at
  keyed_judged at n (Some ks) = shaped_judged at ks (frame_shape w n ks)

  pub frame_judged : (at : ℕ) (ds : List Datum) → Judges w (frame_seen w at ds) Any (parse_frame w at ds)
  frame_judged at [] = is_wrong w at
  frame_judged at (n ∷ ds) = keyed_judged at n (keyed_sections frame_keys [] ds)
