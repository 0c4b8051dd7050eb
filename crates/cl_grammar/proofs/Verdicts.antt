-- What the readings of data that lie in order come to.
use Rattle.std.proofs.Common.{◌≡◌, ◌↔◌, ℕ, refl, sym, ap, arith}
use Rattle.std.specs.Prelude.{Result, Ok, Err}
use Rattle.std.proofs.Math.Path.{subst}
use Rattle.cl_syntax.specs.ExprTree.{ExprTree}
use Rattle.cl_forms.specs.Datum.{Datum}
use Rattle.cl_words.specs.declared.signatures.Signatures.{Signatures}
use Rattle.cl_expressions.specs.Load.{Notes, Fault}
use Rattle.cl_expressions.specs.Scopes.{Names}
use Rattle.cl_expressions.specs.Expressions.{parse_expression}
use Rattle.cl_grammar.specs.Lies.{Lies}
use Rattle.cl_grammar.specs.Blames.{Blames, IsLeastBlame}
use Rattle.cl_grammar.specs.Unnamed.{Unnamed, IsNoted}
use Rattle.cl_grammar.proofs.Bounds.{one_number}
use Rattle.cl_grammar.proofs.Judging.{Any, Verdict, only_verdict}
use Rattle.cl_grammar.proofs.Judged.{expression_judged}

module _ (w : Signatures) (d : Datum) (env : Names) (from to : ℕ) (lie : Lies from d to) (u : Notes) where
  judgement : (r : Result (ExprTree × Notes) Fault) → parse_expression w d env u ≡ r → Verdict (Blames w env d) (Unnamed w env d) Any u r
  judgement r e =
      subst (Verdict (Blames w env d) (Unnamed w env d) Any u) e
      (only_verdict w env d Any u (parse_expression w d env u) ((expression_judged w d env).judged from to (to, lie, omega arith) u))

  pub blamed_refused : (n o : ℕ) → Blames w env d n o → (x : ExprTree × Notes) → parse_expression w d env u ≡ Ok x → ⊥
  blamed_refused n o b x e = (judgement (Ok x) e).1 n o b

  pub least_noted : (t : ExprTree) (v : Notes) → parse_expression w d env u ≡ Ok (t, v) → IsNoted (Unnamed w env d) u.unknown v.unknown
  least_noted t v e = (judgement (Ok (t, v)) e).2

  refused_blamed : (n o : ℕ) → parse_expression w d env u ≡ Err (n, o) → IsLeastBlame w env d n o
  refused_blamed n o e =
      let h : Verdict {A = ExprTree} (Blames w env d) (Unnamed w env d) Any u (Err (n, o)) = judgement (Err (n, o)) e in
      record { blamed = h.0; least = h.1 }

  same_fault : (n o m p : ℕ) → IsLeastBlame w env d n o → IsLeastBlame w env d m p → ◌≡◌ {A = Fault} (m, p) (n, o)
  same_fault n o m p h k =
      let e : p ≡ o = omega (arith, h.least m p k.blamed, k.least n o h.blamed) in
      let f : m ≡ n = sym (one_number h.blamed m from to lie (subst (λ q. Blames w env d m q) e k.blamed)) in
      λ i. (f i, e i)

  least_refused : (n o : ℕ) (r : Result (ExprTree × Notes) Fault) → parse_expression w d env u ≡ r → IsLeastBlame w env d n o → r ≡ Err (n, o)
  least_refused n o (Ok x) e h = absurd (blamed_refused n o h.blamed x e)
  least_refused n o (Err (m, p)) e h = ap Err (same_fault n o m p h (refused_blamed m p e))

  pub refused_so : (n o : ℕ) → (parse_expression w d env u ≡ Err (n, o)) ↔ IsLeastBlame w env d n o
  refused_so n o = (refused_blamed n o, λ h. least_refused n o (parse_expression w d env u) refl h)
