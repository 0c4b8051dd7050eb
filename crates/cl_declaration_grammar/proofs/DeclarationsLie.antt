-- What is looked at of types, declarations and texts lies in them.
use Rattle.std.proofs.Common.{ℕ, ◌+◌, ◌≤◌, Bool, true, false, ◌&&◌, is_some, if◌then◌else◌, List, [], ◌∷◌, arith}
use Rattle.std.specs.Prelude.{Option, Some, None}
use Rattle.std.specs.Option.{IfSome}
use Rattle.std.specs.Str.{bytes_eq}
use Rattle.cl_table.specs.Names.{named}
use Rattle.cl_forms.specs.Datum.{Datum, number, literal, word, quoted, stray, list, parts_of, offset}
use Rattle.cl_forms.specs.Keys.{Keyed, keyed_sections}
use Rattle.cl_forms.specs.Naming.{are_names, name_in}
use Rattle.cl_forms.specs.declared.keys.Key.{Key}
use Rattle.cl_forms.specs.declared.keys.Key.TheVariants as key
use Rattle.cl_words.specs.declared.signatures.Signatures.{Signatures}
use Rattle.cl_declare.specs.Frames.{frame_keys, frame_shape}
use Rattle.cl_declare.specs.Names.{is_name_list, variables_in}
use Rattle.cl_declare.specs.TypeShapes.{name_alone}
use Rattle.cl_declare.specs.declared.translator_shapes.TranslatorKind.TheVariants as kind
use Rattle.cl_grammar.specs.Lies.{Lies}
use Rattle.cl_grammar.specs.Sights.{expression}
use Rattle.cl_grammar.proofs.Bounds.{Within}
use Rattle.cl_grammar.proofs.Lying.{LieList, own_lies, datum_rises, datum_earlier}
use Rattle.cl_text_grammar.specs.FormSights.{forms_seen}
use Rattle.cl_text_grammar.proofs.FormsLie.{forms_lie}
use Rattle.cl_text_grammar.proofs.TypesLie.{type_lies}
use Rattle.cl_declaration_grammar.specs.Parts.{refused, display_name, expressions, shapes, wrong, planned}
use Rattle.cl_declaration_grammar.specs.Commands.{tables_seen, command_table_seen, command_seen}
use Rattle.cl_declaration_grammar.specs.Frames.{slot_seen, slots_seen, pane_display_seen, pane_seen, panes_seen, section_seen, sections_seen}
use Rattle.cl_declaration_grammar.specs.Frames.{keyed_frame_seen, frame_seen}
use Rattle.cl_declaration_grammar.specs.Declarations.{Row, record_seen, host_type_seen, method_named_seen, method_seen, function_seen, display_seen}
use Rattle.cl_declaration_grammar.specs.Declarations.{planned_seen, rows, row_seen, listed_seen, declaration_seen}
use Rattle.cl_declaration_grammar.specs.UserTypes.{user_type_seen}
use Rattle.cl_declaration_grammar.specs.Translators.{translator_seen}
use Rattle.cl_declaration_grammar.specs.Dialogs.{dialog_seen}
use Rattle.cl_declaration_grammar.specs.Texts.{text_seen}
use Rattle.cl_declaration_grammar.proofs.PartsLie.{LieParts, parts_earlier, parts_joined, one_lies, when_lies, list_rises}
use Rattle.cl_declaration_grammar.proofs.CommandsLie.{tables_lie, command_table_lies, command_lies}
use Rattle.cl_declaration_grammar.proofs.UserTypesLie.{user_type_lies}
use Rattle.cl_declaration_grammar.proofs.TranslatorsLie.{translator_lies}
use Rattle.cl_declaration_grammar.proofs.DialogsLie.{dialog_lies}
use Rattle.cl_declaration_grammar.proofs.KeysLie.{LieKey, LieKeys, list_earlier, sections_lie, inside}

-- ---- frames

module _ (w : Signatures) where
  slot_lies : (ds : List Datum) (from to : ℕ) → LieList from ds to → LieParts from (slot_seen w ds) to
  slot_lies (n ∷ t ∷ e ∷ []) from to h =
      (h.2.0, type_lies w [] t from h.2.0 (datum_earlier t from h.0 h.2.0 (datum_rises n from h.0 h.1) h.2.1), (to, h.2.2, omega arith))
  slot_lies [] from to h = h
  slot_lies (n ∷ []) from to h = list_rises (n ∷ []) from to h
  slot_lies (n ∷ t ∷ []) from to h = list_rises (n ∷ t ∷ []) from to h
  slot_lies (n ∷ t ∷ e ∷ d ∷ ds) from to h = list_rises (n ∷ t ∷ e ∷ d ∷ ds) from to h

  slots_lie : (ds : List Datum) (from to : ℕ) → LieList from ds to → LieParts from (slots_seen w ds) to
  slots_lie [] from to h = h
  slots_lie (d ∷ ds) from to h =
      parts_joined (slot_seen w (parts_of d)) (slots_seen w ds) from h.0 to (slot_lies (parts_of d) from h.0 (inside d from h.0 h.1)) (slots_lie ds h.0 to h.2)

  shown_lies : (at : ℕ) (o : Option (List ℕ)) (from to : ℕ) → Within from at to → LieParts from (pane_display_seen at o) to
  shown_lies at None from to h = omega (arith, h.0, h.1)
  shown_lies at (Some x) from to h = one_lies (display_name x at) from to h

  pane_lies : (ds : List Datum) (from to : ℕ) → LieList from ds to → LieParts from (pane_seen ds) to
  pane_lies (n ∷ x ∷ y ∷ a ∷ b ∷ d ∷ []) from to h =
      let own : Within h.2.2.2.2.0 (offset d) h.2.2.2.2.2.0 = own_lies d h.2.2.2.2.0 h.2.2.2.2.2.0 h.2.2.2.2.2.1 in
      let before : from ≤ h.2.2.2.2.0 = omega (
        arith,
        datum_rises n from h.0 h.1,
        datum_rises x h.0 h.2.0 h.2.1,
        datum_rises y h.2.0 h.2.2.0 h.2.2.1,
        datum_rises a h.2.2.0 h.2.2.2.0 h.2.2.2.1,
        datum_rises b h.2.2.2.0 h.2.2.2.2.0 h.2.2.2.2.1,
      ) in
      shown_lies (offset d) (name_in d) from to (omega (arith, before, own.0), omega (arith, own.1, h.2.2.2.2.2.2))
  pane_lies [] from to h = h
  pane_lies (n ∷ []) from to h = list_rises (n ∷ []) from to h
  pane_lies (n ∷ x ∷ []) from to h = list_rises (n ∷ x ∷ []) from to h
  pane_lies (n ∷ x ∷ y ∷ []) from to h = list_rises (n ∷ x ∷ y ∷ []) from to h
  pane_lies (n ∷ x ∷ y ∷ a ∷ []) from to h = list_rises (n ∷ x ∷ y ∷ a ∷ []) from to h
  pane_lies (n ∷ x ∷ y ∷ a ∷ b ∷ []) from to h = list_rises (n ∷ x ∷ y ∷ a ∷ b ∷ []) from to h
  pane_lies (n ∷ x ∷ y ∷ a ∷ b ∷ d ∷ e ∷ ds) from to h = list_rises (n ∷ x ∷ y ∷ a ∷ b ∷ d ∷ e ∷ ds) from to h

  panes_lie : (ds : List Datum) (from to : ℕ) → LieList from ds to → LieParts from (panes_seen ds) to
  panes_lie [] from to h = h
  panes_lie (p ∷ more) from to h =
      parts_joined (pane_seen (parts_of p)) (panes_seen more) from h.0 to (pane_lies (parts_of p) from h.0 (inside p from h.0 h.1))
      (panes_lie more h.0 to h.2)

  section_lies : (k : Key) (at : ℕ) (ds : List Datum) (from to : ℕ) → LieKey from (record { key = k; at = at; values = ds }) to
      → LieParts from (section_seen w (record { key = k; at = at; values = ds })) to
  section_lies key.Slots at ds from to h = parts_earlier (slots_seen w ds) from (at + 1) to (omega (arith, h.0.0)) (slots_lie ds (at + 1) to h.1)
  section_lies key.Panes at ds from to h = parts_earlier (panes_seen ds) from (at + 1) to (omega (arith, h.0.0)) (panes_lie ds (at + 1) to h.1)
  section_lies key.CommandTable at ds from to h = parts_earlier (tables_seen ds) from (at + 1) to (omega (arith, h.0.0)) (tables_lie ds (at + 1) to h.1)
  section_lies key.Size at ds from to h = omega (arith, h.0.0, h.0.1)
  section_lies key.Name at ds from to h = omega (arith, h.0.0, h.0.1)
  section_lies key.Keystroke at ds from to h = omega (arith, h.0.0, h.0.1)
  section_lies key.InheritFrom at ds from to h = omega (arith, h.0.0, h.0.1)
  section_lies key.Satisfies at ds from to h = omega (arith, h.0.0, h.0.1)
  section_lies key.Description at ds from to h = omega (arith, h.0.0, h.0.1)
  section_lies key.Separator at ds from to h = omega (arith, h.0.0, h.0.1)
  section_lies key.SingleBox at ds from to h = omega (arith, h.0.0, h.0.1)
  section_lies key.Default at ds from to h = omega (arith, h.0.0, h.0.1)
  section_lies key.Prompt at ds from to h = omega (arith, h.0.0, h.0.1)
  section_lies key.Gesture at ds from to h = omega (arith, h.0.0, h.0.1)
  section_lies key.Priority at ds from to h = omega (arith, h.0.0, h.0.1)
  section_lies key.Documentation at ds from to h = omega (arith, h.0.0, h.0.1)
  section_lies key.Tester at ds from to h = omega (arith, h.0.0, h.0.1)
  section_lies key.UniqueId at ds from to h = omega (arith, h.0.0, h.0.1)
  section_lies key.CacheValue at ds from to h = omega (arith, h.0.0, h.0.1)
  section_lies key.Command at ds from to h = omega (arith, h.0.0, h.0.1)
  section_lies key.Pane at ds from to h = omega (arith, h.0.0, h.0.1)
  section_lies key.When at ds from to h = omega (arith, h.0.0, h.0.1)
  section_lies key.Else at ds from to h = omega (arith, h.0.0, h.0.1)

  pub frame_sections_lie : (ks : List Keyed) (from to : ℕ) → LieKeys from ks to → LieParts from (sections_seen w ks) to
  frame_sections_lie [] from to h = h
  frame_sections_lie (k ∷ ks) from to h =
      parts_joined (section_seen w k) (sections_seen w ks) from h.0 to (section_lies k.key k.at k.values from h.0 h.1) (frame_sections_lie ks h.0 to h.2)

  keyed_frame_lies : (at : ℕ) (n : Datum) (o : Option (List Keyed)) (from to : ℕ) → Within from at to → IfSome o (λ ks. LieKeys from ks to)
      → LieParts from (keyed_frame_seen w at n o) to
  keyed_frame_lies at n None from to h k = one_lies (refused 6 at) from to h
  keyed_frame_lies at n (Some ks) from to h k =
      when_lies (is_some (frame_shape w n ks)) (sections_seen w ks) (wrong at) from to (frame_sections_lie ks from to k) (one_lies (refused 6 at) from to h)

  -- ---- declarations

  -- what the row sees stands in the declaration
  abbrev LieRow : Row → Type 0
  LieRow row = (at h : ℕ) (ds : List Datum) (from to : ℕ) → Within from at to → Within from h to → LieList from ds to → LieParts from (row at h ds) to

  frame_lies : LieRow (λ at h ds. frame_seen w at ds)
  frame_lies at h [] from to a b k = one_lies (refused 6 at) from to a
  frame_lies at h (n ∷ ds) from to a b k =
      keyed_frame_lies at n (keyed_sections frame_keys [] ds) from to a
      (sections_lie frame_keys [] ds from k.0 to (datum_rises n from k.0 k.1) k.2)

  record_lies : LieRow record_seen
  record_lies at h (n ∷ f ∷ fs) from to a b k = when_lies (are_names (n ∷ f ∷ fs)) [] (wrong at) from to (omega (arith, a.0, a.1)) (one_lies (refused 6 at) from to a)
  record_lies at h [] from to a b k = one_lies (refused 6 at) from to a
  record_lies at h (n ∷ []) from to a b k = one_lies (refused 6 at) from to a

  type_row_lies : LieRow (λ at h ds. user_type_seen w at ds)
  type_row_lies at h ds from to a b k = user_type_lies w at ds from to a k

  host_type_lies : LieRow host_type_seen
  host_type_lies at h (n ∷ []) from to a b k = when_lies (is_some (name_in n)) [] (wrong at) from to (omega (arith, a.0, a.1)) (one_lies (refused 6 at) from to a)
  host_type_lies at h [] from to a b k = one_lies (refused 6 at) from to a
  host_type_lies at h (n ∷ d ∷ ds) from to a b k = one_lies (refused 6 at) from to a

  method_named_lies : (at name_at : ℕ) (x p : Option (List ℕ)) (e : Datum) (from middle next to : ℕ) → Within from at to → Within from name_at middle
      → Lies middle e next → next ≤ to → LieParts from (method_named_seen at name_at x p e) to
  method_named_lies at name_at (Some x) (Some p) e from middle next to a n h i = (middle, n, (to, (next, h, i), omega arith))
  method_named_lies at name_at (Some x) None e from middle next to a n h i = one_lies (refused 6 at) from to a
  method_named_lies at name_at None p e from middle next to a n h i = one_lies (refused 6 at) from to a

  method_lies : LieRow method_seen
  method_lies at h (n ∷ ps ∷ e ∷ []) from to a b k =
      method_named_lies at (offset n) (name_in n) (name_alone (parts_of ps)) e from k.0 k.2.2.0 to a (own_lies n from k.0 k.1)
      (datum_earlier e k.0 k.2.0 k.2.2.0 (datum_rises ps k.0 k.2.0 k.2.1) k.2.2.1) k.2.2.2
  method_lies at h [] from to a b k = one_lies (refused 6 at) from to a
  method_lies at h (n ∷ []) from to a b k = one_lies (refused 6 at) from to a
  method_lies at h (n ∷ ps ∷ []) from to a b k = one_lies (refused 6 at) from to a
  method_lies at h (n ∷ ps ∷ e ∷ d ∷ ds) from to a b k = one_lies (refused 6 at) from to a

  function_lies : LieRow function_seen
  function_lies at h (n ∷ ps ∷ e ∷ []) from to a b k =
      when_lies (is_some (name_in n) && is_name_list ps) (expressions (expression (variables_in ps) e ∷ []) ∷ []) (wrong at) from to
      (to, (k.2.2.0, datum_earlier e from k.2.0 k.2.2.0 (omega (arith, datum_rises n from k.0 k.1, datum_rises ps k.0 k.2.0 k.2.1)) k.2.2.1, k.2.2.2), omega arith)
      (one_lies (refused 6 at) from to a)
  function_lies at h [] from to a b k = one_lies (refused 6 at) from to a
  function_lies at h (n ∷ []) from to a b k = one_lies (refused 6 at) from to a
  function_lies at h (n ∷ ps ∷ []) from to a b k = one_lies (refused 6 at) from to a
  function_lies at h (n ∷ ps ∷ e ∷ d ∷ ds) from to a b k = one_lies (refused 6 at) from to a

  display_lies : LieRow display_seen
  display_lies at h (n ∷ ps ∷ body) from to a b k =
      when_lies (is_some (name_in n) && is_name_list ps) (shapes (forms_seen (variables_in ps) body) ∷ []) (wrong at) from to
      (parts_earlier (shapes (forms_seen (variables_in ps) body) ∷ []) from k.2.0 to (omega (arith, datum_rises n from k.0 k.1, datum_rises ps k.0 k.2.0 k.2.1))
      (to, forms_lie (variables_in ps) body k.2.0 to k.2.2, omega arith))
      (one_lies (refused 6 at) from to a)
  display_lies at h [] from to a b k = one_lies (refused 6 at) from to a
  display_lies at h (n ∷ []) from to a b k = one_lies (refused 6 at) from to a

  command_table_row_lies : LieRow (λ at h ds. command_table_seen at ds)
  command_table_row_lies at h ds from to a b k = command_table_lies at ds from to a k

  command_row_lies : LieRow (λ at h ds. command_seen w at ds)
  command_row_lies at h ds from to a b k = command_lies w at ds from to a k

  translator_row_lies : LieRow (λ at h ds. translator_seen w kind.Object at ds)
  translator_row_lies at h ds from to a b k = translator_lies w kind.Object at ds from to a k

  command_translator_row_lies : LieRow (λ at h ds. translator_seen w kind.Command at ds)
  command_translator_row_lies at h ds from to a b k = translator_lies w kind.Command at ds from to a k

  dialog_row_lies : LieRow (λ at h ds. dialog_seen w at ds)
  dialog_row_lies at h ds from to a b k = dialog_lies w at ds from to a k

  planned_row_lies : LieRow planned_seen
  planned_row_lies at h ds from to a b k = one_lies (planned h) from to b

  abbrev LieRows : List (List ℕ × Row) → Type 0
  LieRows [] = Unit {0}
  LieRows (r ∷ rs) = LieRow r.1 × LieRows rs

  chosen_lies : (row : Row) (b : Bool) (o : Option Row) → LieRow row → IfSome o LieRow → IfSome (if b then Some row else o) LieRow
  chosen_lies row true o h k = h
  chosen_lies row false o h k = k

  rows_lie : (x : List ℕ) (rs : List (List ℕ × Row)) → LieRows rs → IfSome (named x rs) LieRow
  rows_lie x [] h = tt
  rows_lie x (r ∷ rs) h = chosen_lies r.1 (bytes_eq x r.0) (named x rs) h.0 (rows_lie x rs h.1)

  row_lies : (o : Option Row) → IfSome o LieRow → LieRow (row_seen o)
  row_lies (Some row) g at h ds from to a b k = g at h ds from to a b k
  row_lies None g at h ds from to a b k = one_lies (refused 5 h) from to b

  word_lies : (x : List ℕ) → LieRow (row_seen (named x (rows w)))
  word_lies x =
      row_lies (named x (rows w))
      (rows_lie x (rows w) (
        record_lies,
        (
          type_row_lies,
          (
            host_type_lies,
            (
              method_lies,
              (
                method_lies,
                (
                  function_lies,
                  (
                    display_lies,
                    (
                      command_table_row_lies,
                      (command_row_lies, (translator_row_lies, (command_translator_row_lies, (dialog_row_lies, (frame_lies, (planned_row_lies, tt)))))),
                    ),
                  ),
                ),
              ),
            ),
          ),
        ),
      ))

  listed_declaration_lies : (at : ℕ) (ds : List Datum) (from to : ℕ) → Within from at to → LieList from ds to → LieParts from (listed_seen w at ds) to
  listed_declaration_lies at [] from to a k = one_lies (refused 6 at) from to a
  listed_declaration_lies at (word x h ∷ ds) from to a k =
      word_lies x at h ds from to a (k.1.0, omega (arith, k.1.1, list_rises ds k.0 to k.2))
      (list_earlier ds from k.0 to (omega (arith, k.1.0, k.1.1)) k.2)
  listed_declaration_lies at (number z h ∷ ds) from to a k = one_lies (refused 6 at) from to a
  listed_declaration_lies at (literal s h ∷ ds) from to a k = one_lies (refused 6 at) from to a
  listed_declaration_lies at (quoted s h name_at ∷ ds) from to a k = one_lies (refused 6 at) from to a
  listed_declaration_lies at (stray h ∷ ds) from to a k = one_lies (refused 6 at) from to a
  listed_declaration_lies at (list es h ∷ ds) from to a k = one_lies (refused 6 at) from to a

  pub declaration_lies : (d : Datum) (from to : ℕ) → Lies from d to → LieParts from (declaration_seen w d) to
  declaration_lies d from to h = listed_declaration_lies (offset d) (parts_of d) from to (own_lies d from to h) (inside d from to h)

  pub text_lies : (ds : List Datum) (from to : ℕ) → LieList from ds to → LieParts from (text_seen w ds) to
  text_lies [] from to h = h
  text_lies (d ∷ ds) from to h =
      parts_joined (declaration_seen w d) (text_seen w ds) from h.0 to (declaration_lies d from h.0 h.1) (text_lies ds h.0 to h.2)
