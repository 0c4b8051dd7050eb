-- What is read of the sections of a frame writes them.
use Rattle.std.proofs.Common.{◌≡◌, ℕ, ℤ, Bool, true, false, if◌then◌else◌, List, [], ◌∷◌, ◌++◌, refl, sym, ap, ◌∙◌, IfOk}
use Rattle.std.specs.Prelude.{Result, Ok, Err, Option, Some, None, is_some, codes}
use Rattle.std.specs.Option.{IfSome}
use Rattle.std.proofs.Math.Path.{subst}
use Rattle.cl_table.specs.Names.{with_first}
use Rattle.cl_forms.specs.Datum.{Datum, Datums, number, literal, word, quoted, stray, list, none, item, in_order, parts_of, offset}
use Rattle.cl_forms.specs.Keys.{Keyed, is_among, values_of, keyed_sections}
use Rattle.cl_forms.specs.Naming.{name_in}
use Rattle.cl_forms.specs.declared.keys.Key.{Key}
use Rattle.cl_forms.specs.declared.keys.Key.TheVariants as key
use Rattle.cl_words.specs.Signatures.{display_in}
use Rattle.cl_words.specs.declared.signatures.Signatures.{Signatures}
use Rattle.cl_expressions.specs.Load.{Load, Fault}
use Rattle.cl_application.specs.declared.declarations.SlotDecl.{SlotDecl}
use Rattle.cl_declare.specs.CommandTables.{table_or_global, note_tables}
use Rattle.cl_declare.specs.Frames.{frame_keys, number_in, size_of, size_in, is_slot, are_slots, place_of, takes_none, pane_of, pane_listed}
use Rattle.cl_declare.specs.Frames.{pane_before, all_panes, some_panes, shape_of, or_nothing, behind, frame_shape}
use Rattle.cl_declare.specs.Sections.{SlotTable, parse_slot, parse_slots, note_panes, parse_sections, frame_of, parse_shaped, parse_keyed, parse_frame}
use Rattle.cl_declare.specs.TypeShapes.{name_behind}
use Rattle.cl_declare.specs.declared.frames.FrameForm.{FrameForm}
use Rattle.cl_declare.specs.declared.frames.FrameShape.{FrameShape}
use Rattle.cl_declare.specs.declared.pane_forms.PaneForm.{PaneForm}
use Rattle.cl_declare.specs.declared.frames.Size.{Size}
use Rattle.cl_grammar.specs.Heads.{CallsNames}
use Rattle.cl_grammar.proofs.Endings.{Ends, gives, refuses, binds, ends_weaker}
use Rattle.cl_grammar.proofs.Spelled.{false_true, both_parts, name_is, some_same, nothing_found}
use Rattle.cl_grammar.proofs.Written.{expression_ends}
use Rattle.cl_text_grammar.specs.WritesFrames.{WritesSlots, no_slot, one_slot, with_slots, slots_of, WritesPane, a_pane, WritesPanes, no_pane}
use Rattle.cl_text_grammar.specs.WritesFrames.{one_pane, WritesSections, no_section, a_size, some_slots, its_panes, its_table}
use Rattle.cl_text_grammar.specs.WritesDeclarations.{of_frame, WritesDeclared, a_frame}
use Rattle.cl_text_grammar.proofs.TypesWritten.{type_ends}
use Rattle.cl_text_grammar.proofs.KeyWords.{key_word, IsSection, a_section, AreSections, no_more, one_more, StandApart, Keys, sections_stand, has_last, stood_before}
use Rattle.cl_text_grammar.proofs.KeyWords.{name_there}

-- of any value
anything : {A : Type 0} (r : Result A Fault) → IfOk r (λ x. Unit {0})
anything (Ok x) = tt
anything (Err fault) = tt

pub any_ends : {A : Type 0} (m : Load A) → Ends (λ x. Unit {0}) m
any_ends m = record { ends = λ u. anything (m u) }

both_same : (p q : PaneForm) (ps qs : List PaneForm) → ◌≡◌ {A = Option PaneForm} (Some p) (Some q) → ◌≡◌ {A = Option (List PaneForm)} (Some ps) (Some qs)
    → ◌≡◌ {A = Option (List PaneForm)} (Some (p ∷ ps)) (Some (q ∷ qs))
both_same p q ps qs e f = cc

-- ---- panes

module _ (w : Signatures) where
  -- the pane is made, and writes the datum
  record PaneMade (o : Option PaneForm) (d : Datum) : Type 0 where
    pane : PaneForm
    made : o ≡ Some pane
    written : WritesPane w pane d

  pane_taken : (n a b c d e : Datum) (at : ℕ) (x s : List ℕ) (i j k l : ℤ) (takes : Bool) → name_in n ≡ Some x → number_in a ≡ Some i
      → number_in b ≡ Some j → number_in c ≡ Some k → number_in d ≡ Some l → name_in e ≡ Some s → takes_none (display_in w s) ≡ takes
      → is_some {T = PaneForm} (if takes then Some (record { name = x; x = i; y = j; width = k; height = l; display = s; at = at }) else None) ≡ true
      → PaneMade (if takes then Some (record { name = x; x = i; y = j; width = k; height = l; display = s; at = at }) else None)
      (list (item n (item a (item b (item c (item d (item e none)))))) at)
  pane_taken n a b c d e at x s i j k l true f1 f2 f3 f4 f5 f6 f7 h = record { pane = _; made = refl; written = a_pane f1 f2 f3 f4 f5 f6 f7 }
  pane_taken n a b c d e at x s i j k l false f1 f2 f3 f4 f5 f6 f7 h = absurd (false_true h)

  pane_made : (n a b c d e : Datum) (at : ℕ) (x : Option (List ℕ)) (i j k l : Option ℤ) (s : Option (List ℕ)) → name_in n ≡ x → number_in a ≡ i
      → number_in b ≡ j → number_in c ≡ k → number_in d ≡ l → name_in e ≡ s → is_some (pane_of w at x (place_of i j k l) s) ≡ true
      → PaneMade (pane_of w at x (place_of i j k l) s) (list (item n (item a (item b (item c (item d (item e none)))))) at)
  pane_made n a b c d e at (Some x) (Some i) (Some j) (Some k) (Some l) (Some s) f1 f2 f3 f4 f5 f6 h =
      pane_taken n a b c d e at x s i j k l (takes_none (display_in w s)) f1 f2 f3 f4 f5 f6 refl h
  pane_made n a b c d e at (Some x) (Some i) (Some j) (Some k) (Some l) None f1 f2 f3 f4 f5 f6 h = absurd (false_true h)
  pane_made n a b c d e at (Some x) (Some i) (Some j) (Some k) None s f1 f2 f3 f4 f5 f6 h = absurd (false_true h)
  pane_made n a b c d e at (Some x) (Some i) (Some j) None l s f1 f2 f3 f4 f5 f6 h = absurd (false_true h)
  pane_made n a b c d e at (Some x) (Some i) None k l s f1 f2 f3 f4 f5 f6 h = absurd (false_true h)
  pane_made n a b c d e at (Some x) None j k l s f1 f2 f3 f4 f5 f6 h = absurd (false_true h)
  pane_made n a b c d e at None i j k l s f1 f2 f3 f4 f5 f6 h = absurd (false_true h)

  pane_written : (d : Datum) → is_some (pane_listed w (offset d) (parts_of d)) ≡ true → PaneMade (pane_listed w (offset d) (parts_of d)) d
  pane_written (list (item n (item a (item b (item c (item d (item e none)))))) at) l =
      pane_made n a b c d e at (name_in n) (number_in a) (number_in b) (number_in c) (number_in d) (name_in e) refl refl refl refl refl refl l
  pane_written (list none at) l = absurd (false_true l)
  pane_written (list (item n none) at) l = absurd (false_true l)
  pane_written (list (item n (item a none)) at) l = absurd (false_true l)
  pane_written (list (item n (item a (item b none))) at) l = absurd (false_true l)
  pane_written (list (item n (item a (item b (item c none)))) at) l = absurd (false_true l)
  pane_written (list (item n (item a (item b (item c (item d none))))) at) l = absurd (false_true l)
  pane_written (list (item n (item a (item b (item c (item d (item e (item f ds))))))) at) l = absurd (false_true l)
  pane_written (number z at) l = absurd (false_true l)
  pane_written (literal s at) l = absurd (false_true l)
  pane_written (word s at) l = absurd (false_true l)
  pane_written (quoted s at name_at) l = absurd (false_true l)
  pane_written (stray at) l = absurd (false_true l)

  -- the panes are made, and write the data
  record PanesMade (o : Option (List PaneForm)) (ds : List Datum) : Type 0 where
    panes : List PaneForm
    made : o ≡ Some panes
    written : WritesPanes w panes ds

  before_made : (o : Option PaneForm) (more : Option (List PaneForm)) (d : Datum) (ds : List Datum) → (is_some o ≡ true → PaneMade o d)
      → (is_some more ≡ true → PanesMade more ds) → is_some (pane_before o more) ≡ true → PanesMade (pane_before o more) (d ∷ ds)
  before_made (Some p) (Some ps) d ds one others l =
      let a : PaneMade (Some p) d = one refl in
      let b : PanesMade (Some ps) ds = others refl in
      record { panes = a.pane ∷ b.panes; made = both_same p a.pane ps b.panes a.made b.made; written = one_pane a.written b.written }
  before_made (Some p) None d ds one others l = absurd (false_true l)
  before_made None more d ds one others l = absurd (false_true l)

  panes_written : (ds : List Datum) → is_some (all_panes w ds) ≡ true → PanesMade (all_panes w ds) ds
  panes_written [] l = record { panes = []; made = refl; written = no_pane }
  panes_written (d ∷ ds) l = before_made (pane_listed w (offset d) (parts_of d)) (all_panes w ds) d ds (pane_written d) (panes_written ds) l

  -- ---- sections

  size_made : (a b : Datum) (i j : Option ℤ) (ss : Option (List SlotDecl)) (ps : Option (List PaneForm)) (c : Option (List ℕ)) (h at : ℕ) (ds : List Datum)
      → number_in a ≡ i → number_in b ≡ j → is_some (size_of i j) ≡ true → WritesSections w None ss ps c ds
      → WritesSections w (size_of i j) ss ps c (list (item (word (codes ":size") h) (item a (item b none))) at ∷ ds)
  size_made a b (Some i) (Some j) ss ps c h at ds e f l r = a_size e f r
  size_made a b (Some i) None ss ps c h at ds e f l r = absurd (false_true l)
  size_made a b None j ss ps c h at ds e f l r = absurd (false_true l)

  size_row : (es : Datums) (ss : Option (List SlotDecl)) (ps : Option (List PaneForm)) (c : Option (List ℕ)) (h at : ℕ) (ds : List Datum)
      → is_some (size_in (in_order es)) ≡ true → WritesSections w None ss ps c ds
      → WritesSections w (size_in (in_order es)) ss ps c (list (item (word (codes ":size") h) es) at ∷ ds)
  size_row (item a (item b none)) ss ps c h at ds l r = size_made a b (number_in a) (number_in b) ss ps c h at ds refl refl l r
  size_row none ss ps c h at ds l r = absurd (false_true l)
  size_row (item a none) ss ps c h at ds l r = absurd (false_true l)
  size_row (item a (item b (item d es))) ss ps c h at ds l r = absurd (false_true l)

  panes_row : (es : Datums) (z : Option Size) (ss : Option (List SlotDecl)) (c : Option (List ℕ)) (h at : ℕ) (ds : List Datum)
      → is_some (some_panes w (in_order es)) ≡ true → WritesSections w z ss None c ds
      → WritesSections w z ss (some_panes w (in_order es)) c (list (item (word (codes ":panes") h) es) at ∷ ds)
  panes_row none z ss c h at ds l r = absurd (false_true l)
  panes_row (item p es) z ss c h at ds l r =
      let all : PanesMade (all_panes w (p ∷ in_order es)) (p ∷ in_order es) = panes_written (p ∷ in_order es) l in
      subst (λ o. WritesSections w z ss o c (list (item (word (codes ":panes") h) (item p es)) at ∷ ds)) (sym all.made) (its_panes all.written r)

  table_row : (es : Datums) (z : Option Size) (ss : Option (List SlotDecl)) (ps : Option (List PaneForm)) (c : Option (List ℕ)) (h at : ℕ) (ds : List Datum)
      → name_behind (Some (in_order es)) ≡ Some c → WritesSections w z ss ps None ds
      → WritesSections w z ss ps c (list (item (word (codes ":command-table") h) es) at ∷ ds)
  table_row (item n none) z ss ps c h at ds e r =
      name_there (λ o. WritesSections w z ss ps o (list (item (word (codes ":command-table") h) (item n none)) at ∷ ds)) n (name_in n) c refl e λ x f. its_table f r
  table_row none z ss ps c h at ds e r = absurd (nothing_found e)
  table_row (item n (item d es)) z ss ps c h at ds e r = absurd (nothing_found e)

-- slots behind others, where there is a section of them
abbrev with_taken : SlotTable → Option (List SlotDecl) → SlotTable
with_taken slots None = slots
with_taken slots (Some ss) = with_slots slots ss

taken_alone : (o : Option (List SlotDecl)) → with_taken [] o ≡ slots_of o
taken_alone None = refl
taken_alone (Some ss) = refl

module _ (w : Signatures) (names : CallsNames w) where
  -- ---- slots

  -- one slot more, and what it writes
  record SlotRead (d : Datum) (slots more : SlotTable) : Type 0 where
    slot : SlotDecl
    added : more ≡ with_first (λ s. s.name) slots slot
    written : (ss : List SlotDecl) (ds : List Datum) → WritesSlots w ss ds → WritesSlots w (slot ∷ ss) (d ∷ ds)

  slot_ends : (d : Datum) (slots : SlotTable) → is_slot (parts_of d) ≡ true → Ends (SlotRead d slots) (parse_slot w (offset d) (parts_of d) slots)
  slot_ends (list (item n (item t (item e none))) at) slots l =
      binds (type_ends w [] t) λ s i. binds (expression_ends w names e []) λ v j.
      gives (record { slot = _; added = refl; written = λ ss ds k. one_slot (name_is n l) i j k })
  slot_ends (list none at) slots l = absurd (false_true l)
  slot_ends (list (item n none) at) slots l = absurd (false_true l)
  slot_ends (list (item n (item t none)) at) slots l = absurd (false_true l)
  slot_ends (list (item n (item t (item e (item f ds)))) at) slots l = absurd (false_true l)
  slot_ends (number z at) slots l = absurd (false_true l)
  slot_ends (literal s at) slots l = absurd (false_true l)
  slot_ends (word s at) slots l = absurd (false_true l)
  slot_ends (quoted s at name_at) slots l = absurd (false_true l)
  slot_ends (stray at) slots l = absurd (false_true l)

  record SlotsRead (ds : List Datum) (slots more : SlotTable) : Type 0 where
    all : List SlotDecl
    added : more ≡ with_slots slots all
    written : WritesSlots w all ds

  slots_end : (ds : List Datum) (slots : SlotTable) → are_slots ds ≡ true → Ends (SlotsRead ds slots) (parse_slots w ds slots)
  slots_end [] slots l = gives (record { all = []; added = refl; written = no_slot })
  slots_end (d ∷ ds) slots l =
      let parts : (is_slot (parts_of d) ≡ true) × (are_slots ds ≡ true) = both_parts (is_slot (parts_of d)) (are_slots ds) l in
      binds (slot_ends d slots parts.0) λ more i.
      ends_weaker
      (λ t r. record { all = i.slot ∷ r.all; added = r.added ∙ ap (λ z. with_slots z r.all) i.added; written = i.written r.all ds r.written })
      (slots_end ds more parts.1)

  -- ---- all sections

  -- each section has what its key asks for, and the command table, as far as it is there, is this
  record Fine (c : Option (List ℕ)) (ks : List Keyed) : Type 0 where
    size : IfSome (values_of key.Size ks) (λ vs. is_some (size_in vs) ≡ true)
    slots : IfSome (values_of key.Slots ks) (λ vs. are_slots vs ≡ true)
    panes : IfSome (values_of key.Panes ks) (λ vs. is_some (some_panes w vs) ≡ true)
    table : name_behind (values_of key.CommandTable ks) ≡ Some c

  -- the slots that are read of the sections, and what is written so
  record Read (c : Option (List ℕ)) (ks : List Keyed) (ds : List Datum) (slots more : SlotTable) : Type 0 where
    taken : Option (List SlotDecl)
    none_taken : values_of key.Slots ks ≡ None → taken ≡ None
    added : more ≡ with_taken slots taken
    written : WritesSections w (size_in (behind key.Size ks)) taken (some_panes w (behind key.Panes ks)) c ds

  -- whatever stood before, all sections are read
  abbrev AllRead : List Keyed → List Datum → Type 0
  AllRead ks ds = (c : Option (List ℕ)) (slots : SlotTable) → Fine c ks → Ends (Read c ks ds slots) (parse_sections w ks slots)

  gone : (P : List Datum → Type 0) (o : Option (List Datum)) → o ≡ None → IfSome o P
  gone P o e = subst (λ r. IfSome r P) (sym e) tt

  abbrev keyed : Key → ℕ → Datums → Keyed
  keyed k h es = record { key = k; at = h; values = in_order es }

  module _ (h at : ℕ) (es : Datums) (so_far ks : List Keyed) (ds : List Datum) (rest : AllRead ks ds) where
    abbrev SectionEnds : Key → Type 0
    SectionEnds k = StandApart so_far (keyed k h es ∷ ks) → AllRead (keyed k h es ∷ ks) (list (item (word (key_word k) h) es) at ∷ ds)

    size_ends : SectionEnds key.Size
    size_ends a c slots f =
        let no_other : values_of key.Size ks ≡ None =
        stood_before key.Size (so_far ++ keyed key.Size h es ∷ []) ks a.1 (has_last key.Size so_far (keyed key.Size h es) refl) in
        record {
          ends = (ends_weaker
              (λ t r. record {
                taken = r.taken;
                none_taken = r.none_taken;
                added = r.added;
                written = size_row w es r.taken (some_panes w (behind key.Panes ks)) c h at ds f.size
                    (subst (λ o. WritesSections w (size_in (or_nothing o)) r.taken (some_panes w (behind key.Panes ks)) c ds) no_other r.written);
              })
              (rest c slots (record { size = gone _ _ no_other; slots = f.slots; panes = f.panes; table = f.table }))).ends;
        }

    slots_section : SectionEnds key.Slots
    slots_section a c slots f =
        let no_other : values_of key.Slots ks ≡ None =
        stood_before key.Slots (so_far ++ keyed key.Slots h es ∷ []) ks a.1 (has_last key.Slots so_far (keyed key.Slots h es) refl) in
        binds (slots_end (in_order es) slots f.slots) λ more i.
        ends_weaker
        (λ t r. record {
          taken = Some i.all;
          none_taken = λ e. absurd (nothing_found (sym e));
          added = r.added ∙ (ap (with_taken more) (r.none_taken no_other) ∙ i.added);
          written = some_slots i.written
              (subst (λ o. WritesSections w (size_in (behind key.Size ks)) o (some_panes w (behind key.Panes ks)) c ds) (r.none_taken no_other) r.written);
        })
        (rest c more (record { size = f.size; slots = gone _ _ no_other; panes = f.panes; table = f.table }))

    panes_section : SectionEnds key.Panes
    panes_section a c slots f =
        let no_other : values_of key.Panes ks ≡ None =
        stood_before key.Panes (so_far ++ keyed key.Panes h es ∷ []) ks a.1 (has_last key.Panes so_far (keyed key.Panes h es) refl) in
        binds
        (binds {Q = λ s. s ≡ slots} (any_ends (note_panes w (in_order es))) λ u i. gives refl) λ s i.
        subst (λ z. Ends (Read c (keyed key.Panes h es ∷ ks) (list (item (word (codes ":panes") h) es) at ∷ ds) slots) (parse_sections w ks z)) (sym i)
        (ends_weaker
        (λ t r. record {
          taken = r.taken;
          none_taken = r.none_taken;
          added = r.added;
          written = panes_row w es (size_in (behind key.Size ks)) r.taken c h at ds f.panes
              (subst (λ o. WritesSections w (size_in (behind key.Size ks)) r.taken (some_panes w (or_nothing o)) c ds) no_other r.written);
        })
        (rest c slots (record { size = f.size; slots = f.slots; panes = gone _ _ no_other; table = f.table })))

    table_section : SectionEnds key.CommandTable
    table_section a c slots f =
        let no_other : values_of key.CommandTable ks ≡ None =
        stood_before key.CommandTable (so_far ++ keyed key.CommandTable h es ∷ []) ks a.1 (has_last key.CommandTable so_far (keyed key.CommandTable h es) refl) in
        binds
        (binds {Q = λ s. s ≡ slots} (any_ends (note_tables w (in_order es))) λ u i. gives refl) λ s i.
        subst (λ z. Ends (Read c (keyed key.CommandTable h es ∷ ks) (list (item (word (codes ":command-table") h) es) at ∷ ds) slots) (parse_sections w ks z)) (sym i)
        (ends_weaker
        (λ t r. record {
          taken = r.taken;
          none_taken = r.none_taken;
          added = r.added;
          written = table_row w es (size_in (behind key.Size ks)) r.taken (some_panes w (behind key.Panes ks)) c h at ds f.table r.written;
        })
        (rest None slots (record { size = f.size; slots = f.slots; panes = f.panes; table = ap name_behind no_other })))

    key_ends : (k : Key) → is_among frame_keys k ≡ true → SectionEnds k
    key_ends key.Size i a = size_ends a
    key_ends key.Slots i a = slots_section a
    key_ends key.Panes i a = panes_section a
    key_ends key.CommandTable i a = table_section a
    key_ends k i a = absurd (false_true i)

  section_ends : (d : Datum) (k : Keyed) (so_far ks : List Keyed) (ds : List Datum) → IsSection frame_keys k d → AllRead ks ds → StandApart so_far (k ∷ ks)
      → AllRead (k ∷ ks) (d ∷ ds)
  section_ends d k so_far ks ds (a_section {k = j} {h} {at} {ds = es} i) rest a = key_ends h at es so_far ks ds rest j i a

  nothing_read : AllRead [] []
  nothing_read c slots f =
      gives (record {
        taken = None;
        none_taken = λ e. refl;
        added = refl;
        written = subst (λ o. WritesSections w None None None o []) (some_same f.table) no_section;
      })

  sections_end : (so_far ks : List Keyed) (ds : List Datum) → AreSections frame_keys ks ds → StandApart so_far ks → AllRead ks ds
  sections_end so_far ks ds no_more a = nothing_read
  sections_end so_far ks ds (one_more {k} {ks = js} {d} {ds = es} i j) a = section_ends d k so_far js es i (sections_end (so_far ++ k ∷ []) js es j a.1) a

  -- ---- a frame

  record Shaped (n : Datum) (ks : List Keyed) (f : FrameShape) : Type 0 where
    name : name_in n ≡ Some f.name
    slots : are_slots (behind key.Slots ks) ≡ true
    size : size_in (behind key.Size ks) ≡ Some f.size
    panes : some_panes w (behind key.Panes ks) ≡ Some f.panes
    table : Option (List ℕ)
    found_table : name_behind (values_of key.CommandTable ks) ≡ Some table
    tabled : table_or_global table ≡ f.table

  shape_is : (n : Datum) (ks : List Keyed) (f : FrameShape) (x : Option (List ℕ)) (z : Option Size) (ps : Option (List PaneForm)) (c : Option (Option (List ℕ)))
      → name_in n ≡ x → are_slots (behind key.Slots ks) ≡ true → size_in (behind key.Size ks) ≡ z → some_panes w (behind key.Panes ks) ≡ ps
      → name_behind (values_of key.CommandTable ks) ≡ c → shape_of x z ps c ≡ Some f → Shaped n ks f
  shape_is n ks f (Some x) (Some z) (Some ps) (Some c) e1 e2 e3 e4 e5 e =
      subst (Shaped n ks) (some_same e) (record { name = e1; slots = e2; size = e3; panes = e4; table = c; found_table = e5; tabled = refl })
  shape_is n ks f (Some x) (Some z) (Some ps) None e1 e2 e3 e4 e5 e = absurd (nothing_found e)
  shape_is n ks f (Some x) (Some z) None c e1 e2 e3 e4 e5 e = absurd (nothing_found e)
  shape_is n ks f (Some x) None ps c e1 e2 e3 e4 e5 e = absurd (nothing_found e)
  shape_is n ks f None z ps c e1 e2 e3 e4 e5 e = absurd (nothing_found e)

  shaped : (n : Datum) (ks : List Keyed) (f : FrameShape) (b : Bool) → are_slots (behind key.Slots ks) ≡ b
      → (if b
      then shape_of (name_in n) (size_in (behind key.Size ks)) (some_panes w (behind key.Panes ks)) (name_behind (values_of key.CommandTable ks))
      else None) ≡ Some f → Shaped n ks f
  shaped n ks f true h e =
      shape_is n ks f (name_in n) (size_in (behind key.Size ks)) (some_panes w (behind key.Panes ks)) (name_behind (values_of key.CommandTable ks)) refl h refl
      refl refl e
  shaped n ks f false h e = absurd (nothing_found e)

  -- what holds behind a key holds of what was found there
  found_there : (P : List Datum → Bool) (o : Option (List Datum)) → P (or_nothing o) ≡ true → IfSome o (λ vs. P vs ≡ true)
  found_there P None e = tt
  found_there P (Some vs) e = e

  fine : (n : Datum) (ks : List Keyed) (f : FrameShape) (h : Shaped n ks f) → Fine h.table ks
  fine n ks f h = record {
    size = found_there (λ vs. is_some (size_in vs)) (values_of key.Size ks) (ap is_some h.size);
    slots = found_there are_slots (values_of key.Slots ks) h.slots;
    panes = found_there (λ vs. is_some (some_panes w vs)) (values_of key.Panes ks) (ap is_some h.panes);
    table = h.found_table;
  }

  -- what is read writes the head with the parts behind it
  abbrev FrameEnds : ℕ → ℕ → List Datum → Load FrameForm → Type 0
  FrameEnds h at ds m = Ends (λ d. WritesDeclared w at (of_frame d) (word (codes "define-application-frame") h ∷ ds)) m

  frame_writes : (h at : ℕ) (n : Datum) (ds : List Datum) (ks : List Keyed) (f : FrameShape) (slots : SlotTable) (i : Shaped n ks f) → Read i.table ks ds [] slots
      → WritesDeclared w at (of_frame (frame_of f slots at)) (word (codes "define-application-frame") h ∷ n ∷ ds)
  frame_writes h at n ds ks f slots i r =
      subst (λ t. WritesDeclared w at (of_frame (frame_of f t at)) (word (codes "define-application-frame") h ∷ n ∷ ds)) (sym (r.added ∙ taken_alone r.taken))
      (subst
      (λ c. WritesDeclared w at (of_frame (frame_of (record { name = f.name; size = f.size; panes = f.panes; table = c }) (slots_of r.taken) at))
      (word (codes "define-application-frame") h ∷ n ∷ ds)) i.tabled
      (a_frame i.name (subst (λ z. WritesSections w z r.taken (Some f.panes) i.table ds) i.size
      (subst (λ ps. WritesSections w (size_in (behind key.Size ks)) r.taken ps i.table ds) i.panes r.written))))

  shaped_ends : (h at : ℕ) (n : Datum) (ds : List Datum) (ks : List Keyed) (o : Option FrameShape) → Keys (AreSections frame_keys) [] ks ds → frame_shape w n ks ≡ o
      → FrameEnds h at (n ∷ ds) (parse_shaped w at ks o)
  shaped_ends h at n ds ks None s e = refuses
  shaped_ends h at n ds ks (Some f) s e =
      let i : Shaped n ks f = shaped n ks f (are_slots (behind key.Slots ks)) refl e in
      binds
      (sections_end [] ks ds (subst (λ js. AreSections frame_keys js ds) (sym s.whole) s.stand) (subst (StandApart []) (sym s.whole) s.apart) i.table []
      (fine n ks f i))
      λ slots r. gives (frame_writes h at n ds ks f slots i r)

  keyed_ends : (h at : ℕ) (n : Datum) (ds : List Datum) (o : Option (List Keyed)) → keyed_sections frame_keys [] ds ≡ o
      → FrameEnds h at (n ∷ ds) (parse_keyed w at n o)
  keyed_ends h at n ds None e = refuses
  keyed_ends h at n ds (Some ks) e = shaped_ends h at n ds ks (frame_shape w n ks) (sections_stand frame_keys [] ks ds e) refl

  pub frame_ends : (h at : ℕ) (ds : List Datum) → FrameEnds h at ds (parse_frame w at ds)
  frame_ends h at [] = refuses
  frame_ends h at (n ∷ ds) = keyed_ends h at n ds (keyed_sections frame_keys [] ds) refl
