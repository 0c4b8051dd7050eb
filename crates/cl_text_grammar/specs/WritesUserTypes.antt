-- How a user type is written behind its parameters: its keys in any order, each once at most.
use Rattle.std.specs.Prelude.{◌≡◌, ℕ, true, List, [], ◌∷◌, length, Option, Some, None, codes}
use Rattle.cl_syntax.specs.TypeSpecTree.{TypeSpecTree}
use Rattle.cl_forms.specs.Datum.{Datum, literal, word}
use Rattle.cl_forms.specs.Naming.{name_in}
use Rattle.cl_words.specs.Signatures.{function_in}
use Rattle.cl_words.specs.declared.signatures.Signatures.{Signatures}
use Rattle.cl_expressions.specs.Scopes.{Names}
use Rattle.cl_declare.specs.TypeShapes.{takes_value_and}
use Rattle.cl_text_grammar.specs.WritesTypes.{WritesType}

-- what a type with these parameters inherits from, its predicate and its description, as far as they are there, write its keys
pub data WritesTypeKeys (w : Signatures) (ps : Names) : Option TypeSpecTree → Option (List ℕ) → Option (List ℕ) → List Datum → Type 0 where
  no_key : WritesTypeKeys w ps None None None []
  -- :inherit-from TYPE: the parameters may stand in it
  a_supertype : {s : TypeSpecTree} {f t : Option (List ℕ)} {d : Datum} {ds : List Datum} {key_at : ℕ} → WritesType w ps s d → WritesTypeKeys w ps None f t ds
      → WritesTypeKeys w ps (Some s) f t (word (codes ":inherit-from") key_at ∷ d ∷ ds)
  -- :satisfies FUNCTION: one that is declared takes the value and an argument for each parameter
  a_predicate : {i : Option TypeSpecTree} {x : List ℕ} {t : Option (List ℕ)} {n : Datum} {ds : List Datum} {key_at : ℕ} → name_in n ≡ Some x
      → takes_value_and (function_in w x) (length ps) ≡ true → WritesTypeKeys w ps i None t ds
      → WritesTypeKeys w ps i (Some x) t (word (codes ":satisfies") key_at ∷ n ∷ ds)
  -- :description TEXT
  a_description : {i : Option TypeSpecTree} {f : Option (List ℕ)} {s : List ℕ} {ds : List Datum} {key_at text_at : ℕ} → WritesTypeKeys w ps i f None ds
      → WritesTypeKeys w ps i f (Some s) (word (codes ":description") key_at ∷ literal s text_at ∷ ds)
