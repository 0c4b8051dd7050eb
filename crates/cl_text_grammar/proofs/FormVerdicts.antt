-- A form is refused exactly where something in it is to blame, with the number and the offset of the first; and where it is read, the
-- first of its names that are not declared is noted.
use Rattle.std.proofs.Common.{◌≡◌, ◌↔◌, ℕ, List, refl, sym, ap, arith}
use Rattle.std.specs.Prelude.{Result, Ok, Err}
use Rattle.std.proofs.Math.Path.{subst}
use Rattle.cl_syntax.specs.ShapeTree.{ShapeTree}
use Rattle.cl_syntax.specs.ActTree.{ActTree}
use Rattle.cl_forms.specs.Datum.{Datum}
use Rattle.cl_words.specs.declared.signatures.Signatures.{Signatures}
use Rattle.cl_expressions.specs.Load.{Load, Notes, Fault}
use Rattle.cl_expressions.specs.Scopes.{Names}
use Rattle.cl_bodies.specs.DisplayForms.{parse_shape}
use Rattle.cl_bodies.specs.Statements.{parse_act}
use Rattle.cl_grammar.specs.Lies.{Lies}
use Rattle.cl_grammar.specs.Unnamed.{IsNoted}
use Rattle.cl_grammar.proofs.Judging.{Any, Verdict}
use Rattle.cl_text_grammar.specs.FormSights.{FormSight, shape_seen, act_seen}
use Rattle.cl_text_grammar.specs.FormBlames.{FormBlames, ShapeBlames, ActBlames, IsFirst}
use Rattle.cl_text_grammar.specs.FormUnnamed.{FormUnnamed, ShapeUnnamed, ActUnnamed}
use Rattle.cl_text_grammar.proofs.FormsLie.{LieSights, shapes_lie, acts_lie}
use Rattle.cl_text_grammar.proofs.FormBounds.{form_number}
use Rattle.cl_text_grammar.proofs.FormJudging.{FormJudged}
use Rattle.cl_text_grammar.proofs.ShapesJudged.{shape_judged}
use Rattle.cl_text_grammar.proofs.ActsJudged.{act_judged}

module _ {A : Type 0} (seen : Names → List Datum → FormSight) (w : Signatures) (lies : LieSights seen) (env : Names) (d : Datum) (from to : ℕ)
    (lie : Lies from d to) (m : Load A) (h : FormJudged seen w lies env d m) (u : Notes) where
  judgement : (r : Result (A × Notes) Fault) → m u ≡ r → Verdict (FormBlames seen w env d) (FormUnnamed seen w env d) Any u r
  judgement r e = subst (Verdict (FormBlames seen w env d) (FormUnnamed seen w env d) Any u) e (h.judged from to lie u)

  refused_first : (n o : ℕ) → m u ≡ Err (n, o) → IsFirst (FormBlames seen w env d) n o
  refused_first n o e =
      let j : Verdict {A = A} (FormBlames seen w env d) (FormUnnamed seen w env d) Any u (Err (n, o)) = judgement (Err (n, o)) e in
      record { blamed = j.0; least = j.1 }

  blamed_refused : (n o : ℕ) → FormBlames seen w env d n o → (x : A × Notes) → m u ≡ Ok x → ⊥
  blamed_refused n o b x e = (judgement (Ok x) e).1 n o b

  least_noted : (x : A) (v : Notes) → m u ≡ Ok (x, v) → IsNoted (FormUnnamed seen w env d) u.unknown v.unknown
  least_noted x v e = (judgement (Ok (x, v)) e).2

  same_fault : (n o k p : ℕ) → IsFirst (FormBlames seen w env d) n o → IsFirst (FormBlames seen w env d) k p → ◌≡◌ {A = Fault} (k, p) (n, o)
  same_fault n o k p i j =
      let e : p ≡ o = omega (arith, i.least k p j.blamed, j.least n o i.blamed) in
      let f : k ≡ n = sym (form_number seen w lies i.blamed k from to lie (subst (λ q. FormBlames seen w env d k q) e j.blamed)) in
      λ t. (f t, e t)

  first_refused : (n o : ℕ) (r : Result (A × Notes) Fault) → m u ≡ r → IsFirst (FormBlames seen w env d) n o → r ≡ Err (n, o)
  first_refused n o (Ok x) e i = absurd (blamed_refused n o i.blamed x e)
  first_refused n o (Err (k, p)) e i = ap Err (same_fault n o k p i (refused_first k p e))

  told : (n o : ℕ) → (m u ≡ Err (n, o)) ↔ IsFirst (FormBlames seen w env d) n o
  told n o = (refused_first n o, λ i. first_refused n o (m u) refl i)

module _ (w : Signatures) (d : Datum) (env : Names) (from to : ℕ) (u : Notes) where
  pub shape_told : (n o : ℕ) → Lies from d to → (parse_shape w d env u ≡ Err (n, o)) ↔ IsFirst (ShapeBlames w env d) n o
  shape_told n o lie = told (shape_seen w) w (shapes_lie w) env d from to lie (parse_shape w d env) (shape_judged w d env) u n o

  pub shape_refused : (v : Notes) (f : ShapeTree) (n o : ℕ) → Lies from d to → ShapeBlames w env d n o → parse_shape w d env u ≡ Ok (f, v) → ⊥
  shape_refused v f n o lie b e =
      blamed_refused (shape_seen w) w (shapes_lie w) env d from to lie (parse_shape w d env) (shape_judged w d env) u n o b (f, v) e

  pub shape_noted : (v : Notes) (f : ShapeTree) → Lies from d to → parse_shape w d env u ≡ Ok (f, v) → IsNoted (ShapeUnnamed w env d) u.unknown v.unknown
  shape_noted v f lie e = least_noted (shape_seen w) w (shapes_lie w) env d from to lie (parse_shape w d env) (shape_judged w d env) u f v e

  pub act_told : (n o : ℕ) → Lies from d to → (parse_act w d env u ≡ Err (n, o)) ↔ IsFirst (ActBlames w env d) n o
  act_told n o lie = told act_seen w acts_lie env d from to lie (parse_act w d env) (act_judged w d env) u n o

  pub act_refused : (v : Notes) (s : ActTree) (n o : ℕ) → Lies from d to → ActBlames w env d n o → parse_act w d env u ≡ Ok (s, v) → ⊥
  act_refused v s n o lie b e = blamed_refused act_seen w acts_lie env d from to lie (parse_act w d env) (act_judged w d env) u n o b (s, v) e

  pub act_noted : (v : Notes) (s : ActTree) → Lies from d to → parse_act w d env u ≡ Ok (s, v) → IsNoted (ActUnnamed w env d) u.unknown v.unknown
  act_noted v s lie e = least_noted act_seen w acts_lie env d from to lie (parse_act w d env) (act_judged w d env) u s v e
