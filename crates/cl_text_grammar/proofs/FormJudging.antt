-- Readings of forms against what is to blame and what is not declared: a reading gives a value where nothing is blamed, with the first
-- name that is not declared noted, and fails where something is blamed, at the least offset.
use Rattle.std.proofs.Common.{◌≡◌, ℕ, ◌+◌, false, List, [], ◌∷◌, refl, sym, arith}
use Rattle.std.specs.Prelude.{Result, Err}
use Rattle.std.proofs.Math.Path.{subst}
use Rattle.cl_forms.specs.Datum.{Datum, Datums, list, in_order, offset}
use Rattle.cl_words.specs.declared.signatures.Signatures.{Signatures}
use Rattle.cl_expressions.specs.Load.{Load, Notes, Fault, ◌>>=◌, give, refuse}
use Rattle.cl_expressions.specs.Scopes.{Names}
use Rattle.cl_declare.specs.Names.{is_list}
use Rattle.cl_grammar.specs.Lies.{Lies}
use Rattle.cl_grammar.specs.Sights.{Seen}
use Rattle.cl_grammar.specs.Blames.{BlamesAny}
use Rattle.cl_grammar.specs.Unnamed.{UnnamedAny}
use Rattle.cl_grammar.proofs.Bounds.{Within, before_within, blames_any_within, unnamed_any_within}
use Rattle.cl_grammar.proofs.Judging.{Any, Judges, Joins, Verdict, both_judged, given_judged, verdict_same, noted_none}
use Rattle.cl_grammar.proofs.Lying.{LieSeen, list_lies}
use Rattle.cl_text_grammar.specs.Types.{TypePart, TypeBlames, TypeUnnamed}
use Rattle.cl_text_grammar.specs.FormSights.{NameSpace, FormSeen, expressions, specifier, name_among, form, FormSight, Misshapen, UnknownHead, PlannedHead, Sees}
use Rattle.cl_text_grammar.specs.FormBlames.{FormBlames, FormBlamesAny, an_atom, a_misshapen_form, an_unknown_head, a_planned_head, in_a_part}
use Rattle.cl_text_grammar.specs.FormBlames.{in_expressions, in_a_type, in_the_form, in_a_later}
use Rattle.cl_text_grammar.specs.FormUnnamed.{FormUnnamed, FormUnnamedAny}
use Rattle.cl_text_grammar.specs.FormUnnamed as unnamed
use Rattle.cl_text_grammar.proofs.TypePartsLie.{LieType, type_within, type_missing_within}
use Rattle.cl_text_grammar.proofs.TypeJudging.{TypeJudges}
use Rattle.cl_text_grammar.proofs.NameJudging.{NoneBlamed, NameUnnamed, NameJudges}
use Rattle.cl_text_grammar.proofs.FormsLie.{LieForms, LieFormSight, LieSights}
use Rattle.cl_text_grammar.proofs.FormBounds.{none_blamed, none_unnamed, expressions_blamed, expressions_unnamed, type_blamed, type_unnamed, name_blamed}
use Rattle.cl_text_grammar.proofs.FormBounds.{name_unnamed, first_form_blamed, first_form_unnamed, atom_blamed, SightBlames, form_blamed, SightUnnamed, form_unnamed, form_within}
use Rattle.cl_text_grammar.proofs.FormBounds.{any_within, form_unnamed_within, any_unnamed_within}

module _ (seen : Names → List Datum → FormSight) (w : Signatures) (lies : LieSights seen) where
  -- what a reading of these parts comes to, where they lie in order
  pub record FormJudges {A : Type 0} (ps : List FormSeen) (Q : A → Type 0) (m : Load A) : Type 0 where
    pub judged : (from to : ℕ) → LieForms from ps to → (u : Notes) → Verdict (FormBlamesAny seen w ps) (FormUnnamedAny seen w ps) Q u (m u)

  -- what a reading of a form comes to, where it lies in order
  pub record FormJudged {A : Type 0} (env : Names) (d : Datum) (m : Load A) : Type 0 where
    pub judged : (from to : ℕ) → Lies from d to → (u : Notes) → Verdict (FormBlames seen w env d) (FormUnnamed seen w env d) Any u (m u)

  -- ---- parts

  expressions_join : (qs : List Seen) (ps : List FormSeen) (from middle to : ℕ) → LieSeen from qs middle → LieForms middle ps to
      → Joins (BlamesAny w qs) (FormBlamesAny seen w ps) (FormBlamesAny seen w (expressions qs ∷ ps)) (UnnamedAny w qs) (FormUnnamedAny seen w ps)
      (FormUnnamedAny seen w (expressions qs ∷ ps))
  expressions_join qs ps from middle to l r = record {
    blames_first = λ n o b. in_expressions b;
    blames_second = λ n o b. in_a_later b;
    blames_either = expressions_blamed seen w qs ps;
    blames_rise = λ n o m p a b. before_within from middle to (blames_any_within a from middle l) (any_within seen w lies b middle to r);
    unnamed_first = λ o b. unnamed.in_expressions b;
    unnamed_second = λ o b. unnamed.in_a_later b;
    unnamed_either = expressions_unnamed seen w qs ps;
    unnamed_rise = λ o p a b. before_within from middle to (unnamed_any_within a from middle l) (any_unnamed_within seen w lies b middle to r);
  }

  type_join : (ts : List TypePart) (ps : List FormSeen) (from middle to : ℕ) → LieType from ts middle → LieForms middle ps to
      → Joins (TypeBlames ts) (FormBlamesAny seen w ps) (FormBlamesAny seen w (specifier ts ∷ ps)) (TypeUnnamed w ts) (FormUnnamedAny seen w ps)
      (FormUnnamedAny seen w (specifier ts ∷ ps))
  type_join ts ps from middle to l r = record {
    blames_first = λ n o b. in_a_type b;
    blames_second = λ n o b. in_a_later b;
    blames_either = type_blamed seen w ts ps;
    blames_rise = λ n o m p a b. before_within from middle to (type_within ts n o from middle l a) (any_within seen w lies b middle to r);
    unnamed_first = λ o b. unnamed.in_a_type b;
    unnamed_second = λ o b. unnamed.in_a_later b;
    unnamed_either = type_unnamed seen w ts ps;
    unnamed_rise = λ o p a b. before_within from middle to (type_missing_within w ts o from middle l a) (any_unnamed_within seen w lies b middle to r);
  }

  name_join : (k : NameSpace) (x : List ℕ) (at : ℕ) (ps : List FormSeen) (from to : ℕ) → LieForms from (name_among k x at ∷ ps) to
      → Joins NoneBlamed (FormBlamesAny seen w ps) (FormBlamesAny seen w (name_among k x at ∷ ps)) (NameUnnamed w k x at) (FormUnnamedAny seen w ps)
      (FormUnnamedAny seen w (name_among k x at ∷ ps))
  name_join k x at ps from to l = record {
    blames_first = λ n o b. absurd b;
    blames_second = λ n o b. in_a_later b;
    blames_either = name_blamed seen w k x at ps;
    blames_rise = λ n o m p a b. absurd a;
    unnamed_first = λ o b. subst (FormUnnamedAny seen w (name_among k x at ∷ ps)) (sym b.1) (unnamed.a_name b.0);
    unnamed_second = λ o b. unnamed.in_a_later b;
    unnamed_either = name_unnamed seen w k x at ps;
    unnamed_rise = λ o p a b.
        let later : Within (at + 1) p to = any_unnamed_within seen w lies b (at + 1) to l.1 in omega (arith, a.1, later.0);
  }

  form_join : (env : Names) (d : Datum) (ps : List FormSeen) (from middle to : ℕ) → Lies from d middle → LieForms middle ps to
      → Joins (FormBlames seen w env d) (FormBlamesAny seen w ps) (FormBlamesAny seen w (form env d ∷ ps)) (FormUnnamed seen w env d)
      (FormUnnamedAny seen w ps) (FormUnnamedAny seen w (form env d ∷ ps))
  form_join env d ps from middle to l r = record {
    blames_first = λ n o b. in_the_form b;
    blames_second = λ n o b. in_a_later b;
    blames_either = first_form_blamed seen w env d ps;
    blames_rise = λ n o m p a b. before_within from middle to (form_within seen w lies a from middle l) (any_within seen w lies b middle to r);
    unnamed_first = λ o b. unnamed.in_the_form b;
    unnamed_second = λ o b. unnamed.in_a_later b;
    unnamed_either = first_form_unnamed seen w env d ps;
    unnamed_rise = λ o p a b.
        before_within from middle to (form_unnamed_within seen w lies a from middle l) (any_unnamed_within seen w lies b middle to r);
  }

  -- expressions, and then the other parts
  pub then_expressions : {A E : Type 0} (P : A → Type 0) (Q : E → Type 0) (qs : List Seen) (ps : List FormSeen) (m : Load A) (f : A → Load E)
      → Judges w qs P m → ((x : A) → P x → FormJudges ps Q (f x)) → FormJudges (expressions qs ∷ ps) Q (m >>= f)
  then_expressions P Q qs ps m f h g = record {
    judged = λ from to lie u.
        both_judged (expressions_join qs ps from lie.0 to lie.1 lie.2) P Q f (λ x i v. (g x i).judged lie.0 to lie.2 v) u (m u)
        (h.judged from lie.0 lie.1 u);
  }

  -- a type, and then the other parts
  pub then_type : {A E : Type 0} (P : A → Type 0) (Q : E → Type 0) (ts : List TypePart) (ps : List FormSeen) (m : Load A) (f : A → Load E)
      → TypeJudges w ts P m → ((x : A) → P x → FormJudges ps Q (f x)) → FormJudges (specifier ts ∷ ps) Q (m >>= f)
  then_type P Q ts ps m f h g = record {
    judged = λ from to lie u.
        both_judged (type_join ts ps from lie.0 to lie.1 lie.2) P Q f (λ x i v. (g x i).judged lie.0 to lie.2 v) u (m u)
        (h.judged from lie.0 lie.1 u);
  }

  -- the name of a command or of a dialog, and then the other parts
  pub then_name : {A E : Type 0} (P : A → Type 0) (Q : E → Type 0) (k : NameSpace) (x : List ℕ) (at : ℕ) (ps : List FormSeen) (m : Load A) (f : A → Load E)
      → NameJudges w k x at P m → ((y : A) → P y → FormJudges ps Q (f y)) → FormJudges (name_among k x at ∷ ps) Q (m >>= f)
  then_name P Q k x at ps m f h g = record {
    judged = λ from to lie u.
        both_judged (name_join k x at ps from to lie) P Q f (λ y i v. (g y i).judged (at + 1) to lie.1 v) u (m u) (h.judged u);
  }

  -- a form, and then the other parts
  pub then_form : {A E : Type 0} (Q : E → Type 0) (env : Names) (d : Datum) (ps : List FormSeen) (m : Load A) (f : A → Load E)
      → FormJudged env d m → ((x : A) → FormJudges ps Q (f x)) → FormJudges (form env d ∷ ps) Q (m >>= f)
  then_form Q env d ps m f h g = record {
    judged = λ from to lie u.
        both_judged (form_join env d ps from lie.0 to lie.1 lie.2) Any Q f (λ x i v. (g x).judged lie.0 to lie.2 v) u (m u)
        (h.judged from lie.0 lie.1 u);
  }

  pub ended : {A : Type 0} (x : A) → FormJudges [] Any (give x)
  ended x = record { judged = λ from to lie u. (tt, none_blamed seen w, noted_none (FormUnnamedAny seen w []) u.unknown (none_unnamed seen w)) }

  pub then_given : {A E : Type 0} (P : A → Type 0) (ps : List FormSeen) (m : Load A) (g : A → E) → FormJudges ps P m
      → FormJudges ps Any (m >>= λ x. give (g x))
  then_given P ps m g h = record {
    judged = λ from to lie u.
        given_judged (FormBlamesAny seen w ps) (FormUnnamedAny seen w ps) P Any g (λ x i. tt) u (m u) (h.judged from to lie u);
  }

  -- ---- a form

  -- the reading answers to what the form sees
  abbrev pub Answers : {A : Type 0} → ℕ → FormSight → Load A → Type 0
  Answers at Misshapen m = (u : Notes) → m u ≡ Err (6, at)
  Answers at (UnknownHead k) m = (u : Notes) → m u ≡ Err (5, k)
  Answers at (PlannedHead k) m = (u : Notes) → m u ≡ Err (0, k)
  Answers at (Sees ps) m = FormJudges ps Any m

  module _ {A : Type 0} (env : Names) (ds : Datums) (at : ℕ) (m : Load A) where
    abbrev Own : Notes → Result (A × Notes) Fault → Type 0
    Own u r = Verdict (FormBlames seen w env (list ds at)) (FormUnnamed seen w env (list ds at)) Any u r

    -- where the form has this sight, that is all it is blamed for
    sight_blames : (s : FormSight) → seen env (in_order ds) ≡ s → (n o : ℕ) → FormBlames seen w env (list ds at) n o → SightBlames seen w s at n o
    sight_blames s e n o b = subst (λ r. SightBlames seen w r at n o) e (form_blamed seen w b)

    sight_judged : (s : FormSight) → seen env (in_order ds) ≡ s → Answers at s m → (to : ℕ) → LieFormSight (at + 1) s to → (u : Notes) → Own u (m u)
    sight_judged Misshapen e h to lie u = subst (Own u) (sym (h u)) (a_misshapen_form e, λ n o b. omega (arith, (sight_blames Misshapen e n o b).1))
    sight_judged (UnknownHead k) e h to lie u =
        subst (Own u) (sym (h u)) (an_unknown_head e, λ n o b. omega (arith, (sight_blames (UnknownHead k) e n o b).1))
    sight_judged (PlannedHead k) e h to lie u =
        subst (Own u) (sym (h u)) (a_planned_head e, λ n o b. omega (arith, (sight_blames (PlannedHead k) e n o b).1))
    sight_judged (Sees ps) e h to lie u =
        verdict_same (FormBlamesAny seen w ps) (FormBlames seen w env (list ds at)) (FormUnnamedAny seen w ps) (FormUnnamed seen w env (list ds at)) Any
        (λ n o b. in_a_part e b) (λ n o b. sight_blames (Sees ps) e n o b) (λ o b. unnamed.in_a_part e b)
        (λ o b. subst (λ s. SightUnnamed seen w s o) e (form_unnamed seen w b)) u (m u) (h.judged (at + 1) to lie u)

    pub list_judged : Answers at (seen env (in_order ds)) m → FormJudged env (list ds at) m
    list_judged h = record {
      judged = λ from to lie u.
          sight_judged (seen env (in_order ds)) refl h to (lies env (in_order ds) (at + 1) to (list_lies ds (at + 1) to lie.2)) u;
    }

  pub atom_judged : {A : Type 0} (env : Names) (d : Datum) → is_list d ≡ false → FormJudged {A = A} env d (refuse 6 (offset d))
  atom_judged env d e = record {
    judged = λ from to lie u. (an_atom e, λ n o b. omega (arith, (atom_blamed seen w env d e n o b).1));
  }
