-- What is read of a part as an expression, a binding or bindings writes it.
use Rattle.std.proofs.Common.{◌≡◌, ℕ, List}
use Rattle.std.specs.Prelude.{Some}
use Rattle.cl_syntax.specs.ExprTree.{ExprTree}
use Rattle.cl_syntax.specs.declared.expressions.Binding.{Binding}
use Rattle.cl_forms.specs.Datum.{Datum, Datums, number, literal, word, quoted, stray, list, none, item}
use Rattle.cl_forms.specs.Naming.{name_in}
use Rattle.cl_words.specs.declared.signatures.Signatures.{Signatures}
use Rattle.cl_expressions.specs.Scopes.{Names}
use Rattle.cl_expressions.specs.Expressions.{parse_expression, subs, parse_binding_parts, parse_bindings, parse_binding}
use Rattle.cl_grammar.specs.Heads.{CallsNames}
use Rattle.cl_grammar.specs.Writes.{Writes}
use Rattle.cl_grammar.proofs.Endings.{Ends, gives, refuses, binds, asks_name}
use Rattle.cl_grammar.proofs.Written.{WrittenPart, expression_ends, bindings_written}

-- the datum is `(NAME E)`
pub data WritesBinding : Binding → Datum → Type 0 where
  a_binding : {x : List ℕ} {t : ExprTree} {n e : Datum} {at : ℕ} → name_in n ≡ Some x → Writes t e
      → WritesBinding (record { name = x; value = t }) (list (item n (item e none)) at)

module _ (w : Signatures) (names : CallsNames w) where
  parts_written : (ds : Datums) (at : ℕ) (env : Names) (list_at : ℕ) → Ends (λ b. WritesBinding b (list ds list_at)) (parse_binding_parts at (subs w ds) env)
  parts_written (item n (item e none)) at env list_at = asks_name at n λ x i. binds (expression_ends w names e env) λ t j. gives (a_binding i j)
  parts_written none at env list_at = refuses
  parts_written (item n none) at env list_at = refuses
  parts_written (item n (item e (item d ds))) at env list_at = refuses

  pub binding_ends : (d : Datum) (at : ℕ) (env : Names) → Ends (λ b. WritesBinding b d) (parse_binding w d at env)
  binding_ends (list ds list_at) at env = parts_written ds at env list_at
  binding_ends (number z d_at) at env = refuses
  binding_ends (literal s d_at) at env = refuses
  binding_ends (word s d_at) at env = refuses
  binding_ends (quoted s d_at name_at) at env = refuses
  binding_ends (stray d_at) at env = refuses

  pub part_written : (d : Datum) → WrittenPart (record { shape = d; expr = parse_expression w d; bound = parse_bindings w d })
  part_written d = record { expr = λ env. expression_ends w names d env; bound = λ at env. bindings_written w names d at env }
