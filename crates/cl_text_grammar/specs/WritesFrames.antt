-- How a frame is written behind its name: its sections in any order, each once at most.
use Rattle.std.specs.Prelude.{◌≡◌, ℕ, ℤ, true, List, [], ◌∷◌, Option, Some, None, codes}
use Rattle.cl_table.specs.Names.{with_first}
use Rattle.cl_syntax.specs.ExprTree.{ExprTree}
use Rattle.cl_syntax.specs.TypeSpecTree.{TypeSpecTree}
use Rattle.cl_forms.specs.Datum.{Datum, Datums, word, list, none, item, in_order, offset}
use Rattle.cl_forms.specs.Naming.{name_in}
use Rattle.cl_words.specs.Signatures.{display_in}
use Rattle.cl_words.specs.declared.signatures.Signatures.{Signatures}
use Rattle.cl_application.specs.declared.declarations.SlotDecl.{SlotDecl}
use Rattle.cl_declare.specs.Frames.{number_in, takes_none}
use Rattle.cl_declare.specs.Sections.{SlotTable}
use Rattle.cl_declare.specs.declared.pane_forms.PaneForm.{PaneForm}
use Rattle.cl_declare.specs.declared.frames.Size.{Size}
use Rattle.cl_grammar.specs.Writes.{Writes}
use Rattle.cl_text_grammar.specs.WritesTypes.{WritesType}

-- slots write data, one each
pub data WritesSlots (w : Signatures) : List SlotDecl → List Datum → Type 0 where
  no_slot : WritesSlots w [] []
  -- (NAME TYPE E)
  one_slot : {x : List ℕ} {s : TypeSpecTree} {v : ExprTree} {others : List SlotDecl} {n t e : Datum} {at : ℕ} {ds : List Datum} → name_in n ≡ Some x
      → WritesType w [] s t → Writes v e → WritesSlots w others ds
      → WritesSlots w (record { name = x; spec = s; opening = v; opening_at = offset e; at = at } ∷ others) (list (item n (item t (item e none))) at ∷ ds)

-- slots behind others: of two of one name the first counts
abbrev pub with_slots : SlotTable → List SlotDecl → SlotTable
with_slots table [] = table
with_slots table (s ∷ ss) = with_slots (with_first (λ d. d.name) table s) ss

-- the slots of a frame, which may have no section of them
abbrev pub slots_of : Option (List SlotDecl) → SlotTable
slots_of None = []
slots_of (Some ss) = with_slots [] ss

-- a pane writes a datum
pub data WritesPane (w : Signatures) : PaneForm → Datum → Type 0 where
  -- (NAME X Y WIDTH HEIGHT DISPLAY): a display that is declared takes no parameters
  a_pane : {x s : List ℕ} {i j k l : ℤ} {n a b c d e : Datum} {at : ℕ} → name_in n ≡ Some x → number_in a ≡ Some i → number_in b ≡ Some j
      → number_in c ≡ Some k → number_in d ≡ Some l → name_in e ≡ Some s → takes_none (display_in w s) ≡ true
      → WritesPane w (record { name = x; x = i; y = j; width = k; height = l; display = s; at = at })
      (list (item n (item a (item b (item c (item d (item e none)))))) at)

-- panes write data, one each
pub data WritesPanes (w : Signatures) : List PaneForm → List Datum → Type 0 where
  no_pane : WritesPanes w [] []
  one_pane : {p : PaneForm} {ps : List PaneForm} {d : Datum} {ds : List Datum} → WritesPane w p d → WritesPanes w ps ds
      → WritesPanes w (p ∷ ps) (d ∷ ds)

-- a size, slots, panes and the command table, as far as they are there, write the sections of a frame
pub data WritesSections (w : Signatures) : Option Size → Option (List SlotDecl) → Option (List PaneForm) → Option (List ℕ) → List Datum → Type 0 where
  no_section : WritesSections w None None None None []
  -- (:size WIDTH HEIGHT)
  a_size : {i j : ℤ} {ss : Option (List SlotDecl)} {ps : Option (List PaneForm)} {c : Option (List ℕ)} {a b : Datum} {ds : List Datum} {key_at at : ℕ}
      → number_in a ≡ Some i → number_in b ≡ Some j → WritesSections w None ss ps c ds
      → WritesSections w (Some (record { width = i; height = j })) ss ps c (list (item (word (codes ":size") key_at) (item a (item b none))) at ∷ ds)
  -- (:slots SLOT ...)
  some_slots : {z : Option Size} {ss : List SlotDecl} {ps : Option (List PaneForm)} {c : Option (List ℕ)} {es : Datums} {ds : List Datum} {key_at at : ℕ}
      → WritesSlots w ss (in_order es) → WritesSections w z None ps c ds → WritesSections w z (Some ss) ps c (list (item (word (codes ":slots") key_at) es) at ∷ ds)
  -- (:panes PANE ...): at least one
  its_panes : {z : Option Size} {ss : Option (List SlotDecl)} {ps : List PaneForm} {c : Option (List ℕ)} {a : Datum} {es : Datums} {ds : List Datum}
      {key_at at : ℕ} → WritesPanes w ps (a ∷ in_order es) → WritesSections w z ss None c ds
      → WritesSections w z ss (Some ps) c (list (item (word (codes ":panes") key_at) (item a es)) at ∷ ds)
  -- (:command-table TABLE)
  its_table : {z : Option Size} {ss : Option (List SlotDecl)} {ps : Option (List PaneForm)} {c : List ℕ} {n : Datum} {ds : List Datum} {key_at at : ℕ}
      → name_in n ≡ Some c → WritesSections w z ss ps None ds
      → WritesSections w z ss ps (Some c) (list (item (word (codes ":command-table") key_at) (item n none)) at ∷ ds)
