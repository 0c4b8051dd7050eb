-- What is read of a host type, or of a method of a type, writes it.
use Rattle.std.proofs.Common.{◌≡◌, ℕ, List, [], ◌∷◌, refl}
use Rattle.std.specs.Prelude.{Option, Some, None, is_some, codes}
use Rattle.cl_forms.specs.Datum.{Datum, number, literal, word, quoted, stray, list, none, item, parts_of, offset}
use Rattle.cl_forms.specs.Naming.{name_in}
use Rattle.cl_words.specs.Signatures.{type_in}
use Rattle.cl_words.specs.declared.signatures.Signatures.{Signatures}
use Rattle.cl_expressions.specs.Load.{Load}
use Rattle.cl_expressions.specs.Scopes.{in_sight}
use Rattle.cl_application.specs.declared.declarations.MethodDecl.{MethodDecl}
use Rattle.cl_declare.specs.Methods.{may_have_methods, parse_named_method, parse_method}
use Rattle.cl_declare.specs.TypeShapes.{name_alone}
use Rattle.cl_declare.specs.Types.{parse_host_type}
use Rattle.cl_grammar.specs.Heads.{CallsNames}
use Rattle.cl_grammar.proofs.Endings.{Ends, gives, refuses, chooses, notes_then, binds}
use Rattle.cl_grammar.proofs.Spelled.{nothing_found, name_is}
use Rattle.cl_grammar.proofs.Written.{expression_ends}
use Rattle.cl_text_grammar.specs.WritesNames.{no_name, one_name, WritesNameList, a_name_list}
use Rattle.cl_text_grammar.specs.WritesDeclarations.{WritesMethod, a_method, of_host_type, WritesDeclared, a_host_type}

pub host_type_ends : (w : Signatures) (h at : ℕ) (ds : List Datum)
    → Ends (λ d. WritesDeclared w at (of_host_type d) (word (codes "define-host-type") h ∷ ds)) (parse_host_type at ds)
host_type_ends w h at (n ∷ []) = chooses (is_some (name_in n)) (λ e. gives (a_host_type (name_is n e))) (λ e. refuses)
host_type_ends w h at [] = refuses
host_type_ends w h at (n ∷ d ∷ ds) = refuses

-- a list of one name
pub alone_written : (d : Datum) (x : List ℕ) → name_alone (parts_of d) ≡ Some x → WritesNameList (x ∷ []) d
alone_written (list (item n none) at) x e = a_name_list (one_name e no_name)
alone_written (list none at) x e = absurd (nothing_found e)
alone_written (list (item n (item d ds)) at) x e = absurd (nothing_found e)
alone_written (number z at) x e = absurd (nothing_found e)
alone_written (literal s at) x e = absurd (nothing_found e)
alone_written (word s at) x e = absurd (nothing_found e)
alone_written (quoted s at name_at) x e = absurd (nothing_found e)
alone_written (stray at) x e = absurd (nothing_found e)

module _ (w : Signatures) (names : CallsNames w) where
  -- what is read writes the parts behind the head
  abbrev MethodEnds : ℕ → List Datum → Load MethodDecl → Type 0
  MethodEnds at ds m = Ends (λ d. WritesMethod at d ds) m

  named_ends : (at name_at : ℕ) (n ps e : Datum) (x p : Option (List ℕ)) → name_in n ≡ x → name_alone (parts_of ps) ≡ p
      → MethodEnds at (n ∷ ps ∷ e ∷ []) (parse_named_method w at name_at x p e)
  named_ends at name_at n ps e (Some x) (Some p) f g =
      notes_then (may_have_methods (type_in w x)) name_at
      (binds (expression_ends w names e (in_sight (p ∷ []) [])) λ t i. gives (a_method f (alone_written ps p g) i))
  named_ends at name_at n ps e (Some x) None f g = refuses
  named_ends at name_at n ps e None p f g = refuses

  pub method_ends : (at : ℕ) (ds : List Datum) → MethodEnds at ds (parse_method w at ds)
  method_ends at (n ∷ ps ∷ e ∷ []) = named_ends at (offset n) n ps e (name_in n) (name_alone (parts_of ps)) refl refl
  method_ends at [] = refuses
  method_ends at (n ∷ []) = refuses
  method_ends at (n ∷ ps ∷ []) = refuses
  method_ends at (n ∷ ps ∷ e ∷ f ∷ more) = refuses
