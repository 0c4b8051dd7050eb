-- What the readings of bodies that lie in order come to: of display forms, and of statements.
use Rattle.std.proofs.Common.{◌≡◌, ℕ, List}
use Rattle.cl_forms.specs.Datum.{Datum, Datums, in_order}
use Rattle.cl_words.specs.declared.signatures.Signatures.{Signatures}
use Rattle.cl_expressions.specs.Load.{Notes}
use Rattle.cl_expressions.specs.Scopes.{Names}
use Rattle.cl_bodies.specs.DisplayForms.{parse_shapes}
use Rattle.cl_bodies.specs.Statements.{parse_acts}
use Rattle.cl_grammar.specs.Lies.{LieAll}
use Rattle.cl_grammar.proofs.Bounds.{Within}
use Rattle.cl_grammar.proofs.Judging.{Any, Verdict}
use Rattle.cl_grammar.proofs.Lying.{list_lies}
use Rattle.cl_text_grammar.specs.FormSights.{FormSight, forms_seen, shape_seen, act_seen}
use Rattle.cl_text_grammar.specs.FormBlames.{FormBlamesAny}
use Rattle.cl_text_grammar.specs.FormUnnamed.{FormUnnamedAny}
use Rattle.cl_text_grammar.proofs.ActsJudged.{acts_judged}
use Rattle.cl_text_grammar.proofs.FormBounds.{any_within, any_unnamed_within, any_number}
use Rattle.cl_text_grammar.proofs.FormsLie.{LieForms, LieSights, forms_lie, shapes_lie, acts_lie}
use Rattle.cl_text_grammar.proofs.ShapesJudged.{shapes_judged}

-- in the forms of a body, which sees these variables, a form is blamed
abbrev pub BodyBlames : (Names → List Datum → FormSight) → Signatures → Names → Datums → ℕ → ℕ → Type 0
BodyBlames seen w env ds = FormBlamesAny seen w (forms_seen env (in_order ds))

-- in the forms of a body, which sees these variables, a name is not declared
abbrev pub BodyUnnamed : (Names → List Datum → FormSight) → Signatures → Names → Datums → ℕ → Type 0
BodyUnnamed seen w env ds = FormUnnamedAny seen w (forms_seen env (in_order ds))

pub body_lies : (env : Names) (ds : Datums) (from to : ℕ) → LieAll from ds to → LieForms from (forms_seen env (in_order ds)) to
body_lies env ds from to lie = forms_lie env (in_order ds) from to (list_lies ds from to lie)

-- ---- any language of forms

module _ (seen : Names → List Datum → FormSight) (w : Signatures) (lies : LieSights seen) (env : Names) (ds : Datums) (from to : ℕ)
    (lie : LieAll from ds to) where
  body_blamed_within : (n o : ℕ) → BodyBlames seen w env ds n o → Within from o to
  body_blamed_within n o b = any_within seen w lies b from to (body_lies env ds from to lie)

  body_unnamed_within : (o : ℕ) → BodyUnnamed seen w env ds o → Within from o to
  body_unnamed_within o b = any_unnamed_within seen w lies b from to (body_lies env ds from to lie)

  body_number : (n m o : ℕ) → BodyBlames seen w env ds n o → BodyBlames seen w env ds m o → n ≡ m
  body_number n m o a b = any_number seen w lies a m from to (body_lies env ds from to lie) b

-- ---- bodies of display forms and of statements

module _ (w : Signatures) (ds : Datums) (env : Names) (from to : ℕ) (lie : LieAll from ds to) where
  pub shapes_verdict : (u : Notes) → Verdict (BodyBlames (shape_seen w) w env ds) (BodyUnnamed (shape_seen w) w env ds) Any u (parse_shapes w ds env u)
  shapes_verdict u = (shapes_judged w ds env).judged from to (body_lies env ds from to lie) u

  pub shapes_blamed_within : (n o : ℕ) → BodyBlames (shape_seen w) w env ds n o → Within from o to
  shapes_blamed_within n o b = body_blamed_within (shape_seen w) w (shapes_lie w) env ds from to lie n o b

  pub shapes_unnamed_within : (o : ℕ) → BodyUnnamed (shape_seen w) w env ds o → Within from o to
  shapes_unnamed_within o b = body_unnamed_within (shape_seen w) w (shapes_lie w) env ds from to lie o b

  pub shapes_number : (n m o : ℕ) → BodyBlames (shape_seen w) w env ds n o → BodyBlames (shape_seen w) w env ds m o → n ≡ m
  shapes_number n m o a b = body_number (shape_seen w) w (shapes_lie w) env ds from to lie n m o a b

  pub acts_verdict : (u : Notes) → Verdict (BodyBlames act_seen w env ds) (BodyUnnamed act_seen w env ds) Any u (parse_acts w ds env u)
  acts_verdict u = (acts_judged w ds env).judged from to (body_lies env ds from to lie) u

  pub acts_blamed_within : (n o : ℕ) → BodyBlames act_seen w env ds n o → Within from o to
  acts_blamed_within n o b = body_blamed_within act_seen w acts_lie env ds from to lie n o b

  pub acts_unnamed_within : (o : ℕ) → BodyUnnamed act_seen w env ds o → Within from o to
  acts_unnamed_within o b = body_unnamed_within act_seen w acts_lie env ds from to lie o b

  pub acts_number : (n m o : ℕ) → BodyBlames act_seen w env ds n o → BodyBlames act_seen w env ds m o → n ≡ m
  acts_number n m o a b = body_number act_seen w acts_lie env ds from to lie n m o a b
