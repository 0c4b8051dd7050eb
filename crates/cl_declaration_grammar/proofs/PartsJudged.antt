-- The readings of names, expressions and bodies answer to the part that they are.
use Rattle.std.proofs.Common.{◌≡◌, ℕ, ◌⊎◌, inl, inr, Bool, true, false, if◌then◌else◌, List, [], ◌∷◌, refl, sym, ◌∙◌}
use Rattle.std.specs.Prelude.{Result, Option, Some, None, is_some}
use Rattle.std.proofs.Math.Path.{subst}
use Rattle.cl_forms.specs.Datum.{Datum, datums_of, in_order}
use Rattle.cl_forms.proofs.Data.{data_in_order}
use Rattle.cl_words.specs.Signatures.{command_in, display_in, function_in, pane_in, table_in, type_in}
use Rattle.cl_words.specs.declared.signatures.Signatures.{Signatures}
use Rattle.cl_expressions.specs.Load.{Load, Notes, Fault, refuse, noted}
use Rattle.cl_expressions.specs.Scopes.{Names}
use Rattle.cl_expressions.specs.Expressions.{parse_expression}
use Rattle.cl_bodies.specs.DisplayForms.{parse_shapes}
use Rattle.cl_bodies.specs.Specifiers.{parse_type}
use Rattle.cl_bodies.specs.Statements.{parse_acts}
use Rattle.cl_declare.specs.Methods.{may_have_methods}
use Rattle.cl_grammar.specs.Sights.{expression}
use Rattle.cl_grammar.proofs.Judging.{Any, Verdict, noted_none, noted_one, verdict_same}
use Rattle.cl_grammar.proofs.Judged.{expression_judged}
use Rattle.cl_text_grammar.specs.Types.{type_seen}
use Rattle.cl_text_grammar.specs.FormSights.{forms_seen}
use Rattle.cl_text_grammar.proofs.ActsJudged.{acts_judged}
use Rattle.cl_text_grammar.proofs.ShapesJudged.{shapes_judged}
use Rattle.cl_text_grammar.proofs.TypesJudged.{type_judged}
use Rattle.cl_declaration_grammar.specs.Parts.{Part, specifier, method_name, function_name, display_name, table_name, command_name, pane_name, expressions, shapes}
use Rattle.cl_declaration_grammar.specs.Parts.{acts, wrong, PartBlames, PartUnnamed}
use Rattle.cl_declaration_grammar.proofs.PartsLie.{LiePart}
use Rattle.cl_declaration_grammar.proofs.Judging.{Judges, Blamed, Missing, refused_first}

-- one part, or nothing behind it
only : {A : Type 0} → A ⊎ ⊥ → A
only (inl a) = a
only (inr e) = absurd e

module _ (w : Signatures) where
  only_verdict : {A : Type 0} (p : Part) (Q : A → Type 0) (u : Notes) (r : Result (A × Notes) Fault)
      → Verdict (λ n o. PartBlames w n o p) (λ o. PartUnnamed w o p) Q u r → Verdict (Blamed w (p ∷ [])) (Missing w (p ∷ [])) Q u r
  only_verdict p Q u r h =
      verdict_same (λ n o. PartBlames w n o p) (Blamed w (p ∷ [])) (λ o. PartUnnamed w o p) (Missing w (p ∷ [])) Q
      (λ n o b. inl b) (λ n o b. only b) (λ o b. inl b) (λ o b. only b) u r h

  -- a reading that answers to a part wherever that lies
  pub part_judged : {A : Type 0} (p : Part) (Q : A → Type 0) (m : Load A)
      → ((from to : ℕ) → LiePart from p to → (u : Notes) → Verdict (λ n o. PartBlames w n o p) (λ o. PartUnnamed w o p) Q u (m u)) → Judges w (p ∷ []) Q m
  part_judged p Q m h = record { judged = λ from to lie u. only_verdict p Q u (m u) (h from lie.0 lie.1 u) }

  pub expression_part : (d : Datum) (env : Names) → Judges w (expressions (expression env d ∷ []) ∷ []) Any (parse_expression w d env)
  expression_part d env =
      part_judged (expressions (expression env d ∷ [])) Any (parse_expression w d env) λ from to lie u.
      (expression_judged w d env).judged from to lie u

  pub type_part : (ps : Names) (d : Datum) → Judges w (specifier (type_seen w ps d) ∷ []) Any (parse_type w ps d)
  type_part ps d = part_judged (specifier (type_seen w ps d)) Any (parse_type w ps d) λ from to lie u. (type_judged w ps d).judged from to lie u

  -- ---- wrong forms

  pub chosen : {A : Type 0} (b : Bool) {ps qs : List Part} {m n : Load A} → Judges w ps Any m → Judges w qs Any n
      → Judges w (if b then ps else qs) Any (if b then m else n)
  chosen true h k = h
  chosen false h k = k

  -- a wrong form
  pub is_wrong : {A : Type 0} (at : ℕ) → Judges w {A = A} (wrong at) Any (refuse 6 at)
  is_wrong at = refused_first w 6 at []

  -- ---- names

  none_some : {A : Type 0} {x : A} → ◌≡◌ {A = Option A} (Some x) None → ⊥
  none_some e = cc

  display_known : (o : Option (Option ℕ)) (x : List ℕ) (at : ℕ) → display_in w x ≡ o → (u : Notes)
      → Verdict {A = Unit {0}} (λ n o. PartBlames w n o (display_name x at)) (λ o. PartUnnamed w o (display_name x at)) Any u (noted (is_some o) at u)
  display_known None x at e u = (tt, λ n o b. b, noted_one (λ o. PartUnnamed w o (display_name x at)) u.unknown at (e, refl) (λ o b. b.1))
  display_known (Some count) x at e u =
      (tt, λ n o b. b, noted_none (λ o. PartUnnamed w o (display_name x at)) u.unknown (λ o b. none_some (sym e ∙ b.0)))

  pub display_name_judged : (x : List ℕ) (at : ℕ) → Judges w (display_name x at ∷ []) Any (noted (is_some (display_in w x)) at)
  display_name_judged x at =
      part_judged (display_name x at) Any (noted (is_some (display_in w x)) at) λ from to lie u. display_known (display_in w x) x at refl u

  function_known : (o : Option (Option ℕ)) (x : List ℕ) (at : ℕ) → function_in w x ≡ o → (u : Notes)
      → Verdict {A = Unit {0}} (λ n o. PartBlames w n o (function_name x at)) (λ o. PartUnnamed w o (function_name x at)) Any u (noted (is_some o) at u)
  function_known None x at e u = (tt, λ n o b. b, noted_one (λ o. PartUnnamed w o (function_name x at)) u.unknown at (e, refl) (λ o b. b.1))
  function_known (Some count) x at e u =
      (tt, λ n o b. b, noted_none (λ o. PartUnnamed w o (function_name x at)) u.unknown (λ o b. none_some (sym e ∙ b.0)))

  pub function_name_judged : (x : List ℕ) (at : ℕ) → Judges w (function_name x at ∷ []) Any (noted (is_some (function_in w x)) at)
  function_name_judged x at =
      part_judged (function_name x at) Any (noted (is_some (function_in w x)) at) λ from to lie u. function_known (function_in w x) x at refl u

  true_false : ◌≡◌ {A = Bool} true false → ⊥
  true_false e = cc

  method_known : (b : Bool) (x : List ℕ) (at : ℕ) → may_have_methods (type_in w x) ≡ b → (u : Notes)
      → Verdict {A = Unit {0}} (λ n o. PartBlames w n o (method_name x at)) (λ o. PartUnnamed w o (method_name x at)) Any u (noted b at u)
  method_known false x at e u = (tt, λ n o b. b, noted_one (λ o. PartUnnamed w o (method_name x at)) u.unknown at (e, refl) (λ o b. b.1))
  method_known true x at e u =
      (tt, λ n o b. b, noted_none (λ o. PartUnnamed w o (method_name x at)) u.unknown (λ o b. true_false (sym e ∙ b.0)))

  pub method_name_judged : (x : List ℕ) (at : ℕ) → Judges w (method_name x at ∷ []) Any (noted (may_have_methods (type_in w x)) at)
  method_name_judged x at =
      part_judged (method_name x at) Any (noted (may_have_methods (type_in w x)) at) λ from to lie u. method_known (may_have_methods (type_in w x)) x at refl u

  table_known : (b : Bool) (x : List ℕ) (at : ℕ) → table_in w x ≡ b → (u : Notes)
      → Verdict {A = Unit {0}} (λ n o. PartBlames w n o (table_name x at)) (λ o. PartUnnamed w o (table_name x at)) Any u (noted b at u)
  table_known false x at e u = (tt, λ n o b. b, noted_one (λ o. PartUnnamed w o (table_name x at)) u.unknown at (e, refl) (λ o b. b.1))
  table_known true x at e u = (tt, λ n o b. b, noted_none (λ o. PartUnnamed w o (table_name x at)) u.unknown (λ o b. true_false (sym e ∙ b.0)))

  pub table_name_judged : (x : List ℕ) (at : ℕ) → Judges w (table_name x at ∷ []) Any (noted (table_in w x) at)
  table_name_judged x at = part_judged (table_name x at) Any (noted (table_in w x) at) λ from to lie u. table_known (table_in w x) x at refl u

  command_known : (b : Bool) (x : List ℕ) (at : ℕ) → command_in w x ≡ b → (u : Notes)
      → Verdict {A = Unit {0}} (λ n o. PartBlames w n o (command_name x at)) (λ o. PartUnnamed w o (command_name x at)) Any u (noted b at u)
  command_known false x at e u = (tt, λ n o b. b, noted_one (λ o. PartUnnamed w o (command_name x at)) u.unknown at (e, refl) (λ o b. b.1))
  command_known true x at e u = (tt, λ n o b. b, noted_none (λ o. PartUnnamed w o (command_name x at)) u.unknown (λ o b. true_false (sym e ∙ b.0)))

  pub command_name_judged : (x : List ℕ) (at : ℕ) → Judges w (command_name x at ∷ []) Any (noted (command_in w x) at)
  command_name_judged x at = part_judged (command_name x at) Any (noted (command_in w x) at) λ from to lie u. command_known (command_in w x) x at refl u

  pane_known : (b : Bool) (x : List ℕ) (at : ℕ) → pane_in w x ≡ b → (u : Notes)
      → Verdict {A = Unit {0}} (λ n o. PartBlames w n o (pane_name x at)) (λ o. PartUnnamed w o (pane_name x at)) Any u (noted b at u)
  pane_known false x at e u = (tt, λ n o b. b, noted_one (λ o. PartUnnamed w o (pane_name x at)) u.unknown at (e, refl) (λ o b. b.1))
  pane_known true x at e u = (tt, λ n o b. b, noted_none (λ o. PartUnnamed w o (pane_name x at)) u.unknown (λ o b. true_false (sym e ∙ b.0)))

  pub pane_name_judged : (x : List ℕ) (at : ℕ) → Judges w (pane_name x at ∷ []) Any (noted (pane_in w x) at)
  pane_name_judged x at = part_judged (pane_name x at) Any (noted (pane_in w x) at) λ from to lie u. pane_known (pane_in w x) x at refl u

  -- ---- bodies

  pub shapes_part : (ds : List Datum) (env : Names) → Judges w (shapes (forms_seen env ds) ∷ []) Any (parse_shapes w (datums_of ds) env)
  shapes_part ds env =
      subst (λ es. Judges w (shapes (forms_seen env es) ∷ []) Any (parse_shapes w (datums_of ds) env)) (data_in_order ds)
      (part_judged (shapes (forms_seen env (in_order (datums_of ds)))) Any (parse_shapes w (datums_of ds) env) λ from to lie u.
      (shapes_judged w (datums_of ds) env).judged from to lie u)

  pub acts_part : (ds : List Datum) (env : Names) → Judges w (acts (forms_seen env ds) ∷ []) Any (parse_acts w (datums_of ds) env)
  acts_part ds env =
      subst (λ es. Judges w (acts (forms_seen env es) ∷ []) Any (parse_acts w (datums_of ds) env)) (data_in_order ds)
      (part_judged (acts (forms_seen env (in_order (datums_of ds)))) Any (parse_acts w (datums_of ds) env) λ from to lie u.
      (acts_judged w (datums_of ds) env).judged from to lie u)
