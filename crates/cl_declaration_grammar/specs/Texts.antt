-- Which form of a text is to blame, and which of its names are not declared.
use Rattle.std.specs.Prelude.{ℕ, List, [], ◌∷◌, ◌++◌}
use Rattle.cl_forms.specs.Datum.{Datum}
use Rattle.cl_words.specs.declared.signatures.Signatures.{Signatures}
use Rattle.cl_declaration_grammar.specs.Parts.{Part, SomeOf, PartBlames, PartUnnamed}
use Rattle.cl_declaration_grammar.specs.Declarations.{declaration_seen}

-- what is looked at of the data of a text
abbrev pub text_seen : Signatures → List Datum → List Part
text_seen w [] = []
text_seen w (d ∷ ds) = declaration_seen w d ++ text_seen w ds

-- in the text a form is blamed with this number at this offset
abbrev pub TextBlames : Signatures → List Datum → ℕ → ℕ → Type 0
TextBlames w ds n o = SomeOf (PartBlames w n o) (text_seen w ds)

-- in the text a name at this offset is not declared
abbrev pub TextUnnamed : Signatures → List Datum → ℕ → Type 0
TextUnnamed w ds o = SomeOf (PartUnnamed w o) (text_seen w ds)
