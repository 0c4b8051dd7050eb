-- Where the fault of a form may stand, the offsets of its data, and which fault of the forms of a text is the first.
use Rattle.std.specs.Prelude.{◌≡◌, ◌≤◌, ◌<◌, ◌⊎◌, ℕ, List, [], ◌∷◌, All, Contains, Err}
use Rattle.cl_forms.specs.Datum.{Datum, Datums, number, literal, word, quoted, stray, list, none, item}
use Rattle.cl_forms.specs.Outer.{outer_in}
use Rattle.cl_expressions.specs.Load.{Notes}
use Rattle.cl_words.specs.declared.signatures.Signatures.{Signatures}
use Rattle.cl_declare.specs.Declarations.{parse_declaration}
use Rattle.cl_declare.specs.declared.declarations.Declarations.{Declarations}

abbrev mutual
  -- the offset is that of the datum, or of one of its parts at any depth
  pub StandsIn : ℕ → Datum → Type 0
  StandsIn o (number z at) = o ≡ at
  StandsIn o (literal s at) = o ≡ at
  StandsIn o (word s at) = o ≡ at
  StandsIn o (quoted s at name_at) = (o ≡ at) ⊎ (o ≡ name_at)
  StandsIn o (stray at) = o ≡ at
  StandsIn o (list ds at) = (o ≡ at) ⊎ StandsAmong o ds

  -- it is that of one of the data, or of a part of one
  pub StandsAmong : ℕ → Datums → Type 0
  StandsAmong o none = ⊥
  StandsAmong o (item d ds) = StandsIn o d ⊎ StandsAmong o ds

-- each offset that stands in the one is below each that stands in the other
abbrev pub IsBefore : Datum → Datum → Type 0
IsBefore d e = (o p : ℕ) → StandsIn o d → StandsIn p e → o < p

-- each datum is before all later ones
abbrev pub AreInOrder : List Datum → Type 0
AreInOrder [] = Unit {0}
AreInOrder (d ∷ ds) = All (IsBefore d) ds × AreInOrder ds

-- the form has this fault, whatever was read before
abbrev pub HasFault : Signatures → Datum → (number at : ℕ) → Type 0
HasFault w d n o = (s : Declarations) (notes : Notes) → parse_declaration w (outer_in d) s notes ≡ Err (n, o)

-- one of the forms has this fault whatever was read before, and no form has, behind any reading, one of a smaller offset
pub record IsLeastFault (w : Signatures) (ds : List Datum) (number at : ℕ) : Type 0 where
  pub form : Datum
  pub stands : Contains ds form
  pub has : HasFault w form number at
  pub least : (d : Datum) (s : Declarations) (notes : Notes) (m p : ℕ) → Contains ds d
      → parse_declaration w (outer_in d) s notes ≡ Err (m, p) → at ≤ p
