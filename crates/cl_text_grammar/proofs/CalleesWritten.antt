-- What is read of the parts of a record, a function or a display writes them.
use Rattle.std.proofs.Common.{◌≡◌, ℕ, true, List, [], ◌∷◌, refl}
use Rattle.std.specs.Prelude.{◌&&◌, is_some, codes}
use Rattle.std.proofs.Math.Path.{subst}
use Rattle.cl_syntax.specs.ShapeTree.{shape_trees_of}
use Rattle.cl_forms.specs.Datum.{Datum, word, in_order, datums_of}
use Rattle.cl_forms.specs.Naming.{name_in, are_names}
use Rattle.cl_words.specs.declared.signatures.Signatures.{Signatures}
use Rattle.cl_declare.specs.Names.{is_name_list, variables_in}
use Rattle.cl_declare.specs.Callees.{parse_record, parse_function, parse_display}
use Rattle.cl_grammar.specs.Heads.{CallsNames}
use Rattle.cl_grammar.proofs.Endings.{Ends, gives, refuses, chooses, binds}
use Rattle.cl_grammar.proofs.Spelled.{both_parts, name_is}
use Rattle.cl_grammar.proofs.Written.{expression_ends}
use Rattle.cl_text_grammar.specs.Displays.{CallsDisplays}
use Rattle.cl_text_grammar.specs.WritesShapes.{WritesShapes}
use Rattle.cl_text_grammar.specs.WritesDeclarations.{of_record, of_function, of_display, WritesDeclared, a_record, a_function, a_display}
use Rattle.cl_text_grammar.proofs.NamesWritten.{names_written, name_list_written}
use Rattle.cl_text_grammar.proofs.ShapesWritten.{shapes_end}

pub shown : (ds : List Datum) → in_order (datums_of ds) ≡ ds
shown [] = refl
shown (d ∷ ds) = λ i. d ∷ shown ds i

module _ (w : Signatures) where
  pub record_ends : (h at : ℕ) (ds : List Datum) → Ends (λ d. WritesDeclared w at (of_record d) (word (codes "define-record") h ∷ ds)) (parse_record at ds)
  record_ends h at [] = refuses
  record_ends h at (n ∷ []) = refuses
  record_ends h at (n ∷ f ∷ fs) =
      chooses (are_names (n ∷ f ∷ fs))
      (λ e. let parts : (is_some (name_in n) ≡ true) × (are_names (f ∷ fs) ≡ true) = both_parts (is_some (name_in n)) (are_names (f ∷ fs)) e in
      gives (a_record (name_is n parts.0) (names_written (f ∷ fs) parts.1))) (λ e. refuses)

module _ (w : Signatures) (names : CallsNames w) where
  pub function_ends : (h at : ℕ) (ds : List Datum) → Ends (λ d. WritesDeclared w at (of_function d) (word (codes "define-function") h ∷ ds)) (parse_function w at ds)
  function_ends h at (n ∷ ps ∷ e ∷ []) =
      chooses (is_some (name_in n) && is_name_list ps)
      (λ f. let parts : (is_some (name_in n) ≡ true) × (is_name_list ps ≡ true) = both_parts (is_some (name_in n)) (is_name_list ps) f in
      binds (expression_ends w names e (variables_in ps)) λ t i. gives (a_function (name_is n parts.0) (name_list_written ps parts.1) i)) (λ f. refuses)
  function_ends h at [] = refuses
  function_ends h at (n ∷ []) = refuses
  function_ends h at (n ∷ ps ∷ []) = refuses
  function_ends h at (n ∷ ps ∷ e ∷ f ∷ more) = refuses

  pub display_ends : CallsDisplays w → (h at : ℕ) (ds : List Datum)
      → Ends (λ d. WritesDeclared w at (of_display d) (word (codes "define-display") h ∷ ds)) (parse_display w at ds)
  display_ends displays h at [] = refuses
  display_ends displays h at (n ∷ []) = refuses
  display_ends displays h at (n ∷ ps ∷ body) =
      chooses (is_some (name_in n) && is_name_list ps)
      (λ f. let parts : (is_some (name_in n) ≡ true) × (is_name_list ps ≡ true) = both_parts (is_some (name_in n)) (is_name_list ps) f in
      binds (shapes_end w names displays (datums_of body) (variables_in ps)) λ fs i.
      gives (a_display (name_is n parts.0) (name_list_written ps parts.1) (subst (WritesShapes w (shape_trees_of fs)) (shown body) i))) (λ f. refuses)
