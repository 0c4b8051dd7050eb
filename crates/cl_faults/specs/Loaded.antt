-- A text that loads: no form in it is to blame, and each of its names is declared. So each call names a function or a display that is
-- declared, with as many parts as it has parameters, and each slot, record and variable is one that is declared or in sight.
use Rattle.std.specs.Prelude.{◌≡◌, ◌≤◌, ℕ, List, None}
use Rattle.cl_forms.specs.Datum.{Datum}
use Rattle.cl_forms.specs.Outer.{outers_of}
use Rattle.cl_forms.specs.Tree.{Tree}
use Rattle.cl_words.specs.Signatures.{signatures_of}
use Rattle.cl_phases.specs.Limits.{first_past}
use Rattle.cl_phases.specs.Twice.{first_twice}
use Rattle.cl_declaration_grammar.specs.Texts.{TextBlames, TextUnnamed}
use Rattle.cl_load.specs.Application.{AreForms, data_of}

-- in the data, a form is blamed with this number at this offset, by what they declare themselves
abbrev pub DataBlame : List Datum → (number at : ℕ) → Type 0
DataBlame ds = TextBlames (signatures_of (outers_of ds)) ds

-- in the data, a name at this offset is not declared by them
abbrev pub DataUnnamed : List Datum → (at : ℕ) → Type 0
DataUnnamed ds = TextUnnamed (signatures_of (outers_of ds)) ds

-- nothing in the text is to blame, and each name is declared
pub record IsDeclared (bytes : List ℕ) : Type 0 where
  pub forms : List Tree
  pub read : AreForms bytes forms
  pub blameless : (number at : ℕ) → DataBlame (data_of forms) number at → ⊥
  pub named : (at : ℕ) → DataUnnamed (data_of forms) at → ⊥

-- the first name that is not declared, in data in which nothing is to blame, past a limit or declared twice
pub record IsFirstUnnamed (ds : List Datum) (at : ℕ) : Type 0 where
  pub blameless : (number p : ℕ) → DataBlame ds number p → ⊥
  pub bounded : first_past ds ≡ None
  pub once : first_twice (outers_of ds) ≡ None
  pub unnamed : DataUnnamed ds at
  pub least : (p : ℕ) → DataUnnamed ds p → at ≤ p
