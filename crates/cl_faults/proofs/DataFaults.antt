-- What holds of each offset that stands in the data of a row.
use Rattle.std.proofs.Common.{inl, inr, ℕ, List, [], ◌∷◌}
use Rattle.cl_forms.specs.Datum.{Datum, Datums, number, literal, word, quoted, stray, list, none, item, in_order, parts_of, datums_of}
use Rattle.cl_faults.proofs.ExpressionFaults.{Covers, CoversAll}

-- P holds of each offset that stands in one of the data
abbrev pub CoversEach : (ℕ → Type 0) → List Datum → Type 0
CoversEach P [] = Unit {0}
CoversEach P (d ∷ ds) = Covers P d × CoversEach P ds

module _ {P : ℕ → Type 0} where
  pub covers_order : (ds : Datums) → CoversAll P ds → CoversEach P (in_order ds)
  covers_order none c = tt
  covers_order (item d ds) c = (λ o s. c o (inl s), covers_order ds (λ o s. c o (inr s)))

  pub covers_parts : (d : Datum) → Covers P d → CoversEach P (parts_of d)
  covers_parts (number z at) c = tt
  covers_parts (literal s at) c = tt
  covers_parts (word s at) c = tt
  covers_parts (quoted s at name_at) c = tt
  covers_parts (stray at) c = tt
  covers_parts (list ds at) c = covers_order ds (λ o s. c o (inr s))

pub covers_datums : (P : ℕ → Type 0) (ds : List Datum) → CoversEach P ds → CoversAll P (datums_of ds)
covers_datums P [] c o s = absurd s
covers_datums P (d ∷ ds) c o (inl s) = c.0 o s
covers_datums P (d ∷ ds) c o (inr s) = covers_datums P ds c.1 o s
