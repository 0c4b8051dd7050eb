-- The data of a text stand in order: they lie in it one behind another. So its first fault is that of least offset.
use Rattle.std.proofs.Common.{◌≡◌, ◌≤◌, ◌<◌, ◌+◌, inl, inr, ℕ, List, [], ◌∷◌, All, arith}
use Rattle.std.specs.Prelude.{Err}
use Rattle.std.proofs.lemmas.List.Elements.{All-nil, All-cons, All-weaker}
use Rattle.cl_forms.specs.Datum.{Datum, Datums, number, literal, word, quoted, stray, list, none, item, datums_of}
use Rattle.cl_forms.specs.Outer.{outers_of}
use Rattle.cl_forms.specs.Tree.{Tree, trees_of}
use Rattle.cl_grammar.specs.Lies.{Lies, LieAll, LieInText}
use Rattle.cl_grammar.proofs.Lying.{datum_rises}
use Rattle.cl_grammar.proofs.TextLies.{text_lies}
use Rattle.cl_words.specs.declared.signatures.Signatures.{Signatures}
use Rattle.cl_expressions.specs.Load.{Notes}
use Rattle.cl_declare.specs.Declarations.{parse_declarations}
use Rattle.cl_load.specs.Application.{AreForms, data_of}
use Rattle.cl_faults.specs.Faults.{StandsIn, StandsAmong, IsBefore, AreInOrder, IsLeastFault}
use Rattle.cl_faults.proofs.FirstFault.{first_fault_has_least_offset}

-- the offset is from the one on, below the other
abbrev Within : ℕ → ℕ → ℕ → Type 0
Within from o to = (from ≤ o) × (o < to)

all_rise : (ds : Datums) (from to : ℕ) → LieAll from ds to → from ≤ to
all_rise none from to h = h
all_rise (item d ds) from to h = omega (arith, datum_rises d from h.0 h.1, all_rise ds h.0 to h.2)

mutual
  stands_within : (d : Datum) (from to : ℕ) → Lies from d to → (o : ℕ) → StandsIn o d → Within from o to
  stands_within (number z at) from to h o s = (omega (arith, h.0, s), omega (arith, h.1, s))
  stands_within (literal t at) from to h o s = (omega (arith, h.0, s), omega (arith, h.1, s))
  stands_within (word t at) from to h o s = (omega (arith, h.0, s), omega (arith, h.1, s))
  stands_within (stray at) from to h o s = (omega (arith, h.0, s), omega (arith, h.1, s))
  stands_within (quoted t at name_at) from to h o (inl s) = (omega (arith, h.0, s), omega (arith, h.1, h.2, s))
  stands_within (quoted t at name_at) from to h o (inr s) = (omega (arith, h.0, h.1, s), omega (arith, h.2, s))
  stands_within (list ds at) from to h o (inl s) = (omega (arith, h.0, s), omega (arith, h.1, s))
  stands_within (list ds at) from to h o (inr s) =
      let place : Within (at + 1) o to = among_within ds (at + 1) to h.2 o s in (omega (arith, h.0, place.0), place.1)

  among_within : (ds : Datums) (from to : ℕ) → LieAll from ds to → (o : ℕ) → StandsAmong o ds → Within from o to
  among_within none from to h o s = absurd s
  among_within (item d ds) from to h o (inl s) =
      let place : Within from o h.0 = stands_within d from h.0 h.1 o s in (place.0, omega (arith, place.1, all_rise ds h.0 to h.2))
  among_within (item d ds) from to h o (inr s) =
      let place : Within h.0 o to = among_within ds h.0 to h.2 o s in (omega (arith, place.0, datum_rises d from h.0 h.1), place.1)

-- each offset that stands in the datum is from this one on
abbrev IsFrom : ℕ → Datum → Type 0
IsFrom from d = (o : ℕ) → StandsIn o d → from ≤ o

all_from : (from to : ℕ) (ds : List Datum) → LieAll from (datums_of ds) to → (before : ℕ) → before ≤ from → All (IsFrom before) ds
all_from from to [] h before l = All-nil (IsFrom before)
all_from from to (d ∷ ds) h before l =
    All-cons (IsFrom before) d ds
    (λ o s. let place : Within from o h.0 = stands_within d from h.0 h.1 o s in omega (arith, l, place.0))
    (all_from h.0 to ds h.2 before (omega (arith, l, datum_rises d from h.0 h.1)))

lie_in_order : (from to : ℕ) (ds : List Datum) → LieAll from (datums_of ds) to → AreInOrder ds
lie_in_order from to [] h = tt
lie_in_order from to (d ∷ ds) h = (
  All-weaker (IsFrom h.0) (IsBefore d)
      (λ e f o p s t. let place : Within from o h.0 = stands_within d from h.0 h.1 o s in omega (arith, place.1, f p t)) ds
      (all_from h.0 to ds h.2 h.0 (omega arith)),
  lie_in_order h.0 to ds h.2,
)

pub data_stand_in_order : (bytes : List ℕ) (forms : List Tree) → AreForms bytes forms → AreInOrder (data_of forms)
data_stand_in_order bytes forms a =
    let lies : LieInText (datums_of (data_of forms)) = text_lies bytes a.tokens (trees_of forms) a.read a.spelled in
    lie_in_order 0 lies.end (data_of forms) lies.lie

pub first_fault_of_a_text_has_least_offset : (bytes : List ℕ) (forms : List Tree) (w : Signatures) (notes : Notes) (n o : ℕ)
    → AreForms bytes forms → parse_declarations w (outers_of (data_of forms)) notes ≡ Err (n, o) → IsLeastFault w (data_of forms) n o
first_fault_of_a_text_has_least_offset bytes forms w notes n o a e =
    first_fault_has_least_offset w (data_of forms) notes n o (data_stand_in_order bytes forms a) e
