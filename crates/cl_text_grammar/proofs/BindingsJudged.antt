-- Parts of forms answer as expressions, as bindings and as one binding.
use Rattle.std.proofs.Common.{◌≡◌, ℕ, false, List, refl}
use Rattle.std.specs.Prelude.{Err, Option, Some, None, is_some}
use Rattle.cl_syntax.specs.declared.expressions.Binding.{Binding}
use Rattle.cl_forms.specs.Datum.{Datum, number, literal, word, quoted, stray, list, none, item, parts_of}
use Rattle.cl_forms.specs.Naming.{name_in}
use Rattle.cl_words.specs.declared.signatures.Signatures.{Signatures}
use Rattle.cl_expressions.specs.Load.{Load, Notes, ◌>>=◌, give, refuse}
use Rattle.cl_expressions.specs.Scopes.{Names}
use Rattle.cl_expressions.specs.Expressions.{parse_expression, is_binding, parse_bindings, parse_binding}
use Rattle.cl_grammar.proofs.Judged.{expression_judged, bindings_judged}
use Rattle.cl_grammar.proofs.Rows.{JudgedPart}

-- where the datum is no binding, reading it as one fails at the form
unnamed_refused : (at : ℕ) (o : Option (List ℕ)) (f : List ℕ → Load Binding) → is_some o ≡ false → (u : Notes)
    → (elim o [ None ↦ refuse 6 at | Some x ↦ give x ] >>= f) u ≡ Err (6, at)
unnamed_refused at None f e u = refl
unnamed_refused at (Some x) f e u = cc

module _ (w : Signatures) where
  pub no_binding : (d : Datum) (at : ℕ) (env : Names) → is_binding (parts_of d) ≡ false → (u : Notes) → parse_binding w d at env u ≡ Err (6, at)
  no_binding (list (item n (item e none)) list_at) at env h u =
      unnamed_refused at (name_in n) (λ x. parse_expression w e env >>= λ t. give (record { name = x; value = t })) h u
  no_binding (list none list_at) at env h u = refl
  no_binding (list (item n none) list_at) at env h u = refl
  no_binding (list (item n (item e (item d ds))) list_at) at env h u = refl
  no_binding (number z d_at) at env h u = refl
  no_binding (literal s d_at) at env h u = refl
  no_binding (word s d_at) at env h u = refl
  no_binding (quoted s d_at name_at) at env h u = refl
  no_binding (stray d_at) at env h u = refl

  pub part_judged : (d : Datum) → JudgedPart w (record { shape = d; expr = parse_expression w d; bound = parse_bindings w d })
  part_judged d = record { expr = λ env. expression_judged w d env; bound = λ at env h. bindings_judged w d at env h }
