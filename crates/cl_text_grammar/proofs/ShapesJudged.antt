-- What the readings of display forms come to: a lemma for each row that statements do not have.
use Rattle.std.proofs.Common.{◌≡◌, ℕ, Bool, true, false, if◌then◌else◌, List, [], ◌∷◌, length, refl, sym}
use Rattle.std.specs.Prelude.{Option, Some, None, is_some, ◌==◌}
use Rattle.std.proofs.Math.Path.{subst}
use Rattle.cl_syntax.specs.ExprTree.{ExprTree, expr_trees_of}
use Rattle.cl_syntax.specs.ShapeTree.{ShapeTree}
use Rattle.cl_syntax.specs.ShapeTree as shape
use Rattle.cl_syntax.specs.TypeSpecTree.{TypeSpecTree}
use Rattle.cl_syntax.specs.declared.figures.Figure.{Figure}
use Rattle.cl_table.specs.Names.{named}
use Rattle.cl_forms.specs.Datum.{Datum, Datums, number, literal, word, quoted, stray, list, in_order, parts_of}
use Rattle.cl_forms.specs.Keys.{Keyed}
use Rattle.cl_forms.specs.Naming.{fits}
use Rattle.cl_words.specs.Heads.{figure_count}
use Rattle.cl_words.specs.Signatures.{display_in}
use Rattle.cl_words.specs.declared.heads.Head.{Head}
use Rattle.cl_words.specs.declared.heads.Head.TheVariants as head
use Rattle.cl_words.specs.declared.heads.Planned.TheVariants as planned
use Rattle.cl_words.specs.declared.heads.Setting.{Setting}
use Rattle.cl_words.specs.declared.heads.Setting.TheVariants as setting
use Rattle.cl_words.specs.declared.heads.Writing.{Writing}
use Rattle.cl_words.specs.declared.heads.Writing.TheVariants as writing
use Rattle.cl_words.specs.declared.signatures.Signatures.{Signatures}
use Rattle.cl_expressions.specs.Load.{Load, ◌>>=◌, give, refuse}
use Rattle.cl_expressions.specs.Scopes.{Names}
use Rattle.cl_expressions.specs.Expressions.{Sub, parse_each, parse_expression}
use Rattle.cl_bodies.specs.declared.own.Own.{Own}
use Rattle.cl_bodies.specs.declared.own.Own.TheVariants.{Whole, Before}
use Rattle.cl_bodies.specs.declared.display_forms.Context.{Context}
use Rattle.cl_bodies.specs.declared.display_forms.Context.TheVariants as context
use Rattle.cl_bodies.specs.declared.display_forms.Opening.{Opening}
use Rattle.cl_bodies.specs.declared.display_forms.Opening.TheVariants as opening
use Rattle.cl_bodies.specs.DisplayForms.{parse_call_counted, parse_own, display_forms, parse_shape, parse_shapes}
use Rattle.cl_bodies.specs.Presentations.{single_box_in, parse_boxed, parse_presented}
use Rattle.cl_bodies.specs.Specifiers.{parse_type}
use Rattle.cl_bodies.specs.Updates.{update_keys_in, update_of, parse_update_keyed, parse_update_list}
use Rattle.cl_grammar.specs.Sights.{expression, all_seen}
use Rattle.cl_grammar.proofs.Judged.{expression_judged}
use Rattle.cl_grammar.proofs.Judging.{Any, Judges, then_given}
use Rattle.cl_grammar.proofs.Rows.{JudgedParts, length_shapes, each_judged}
use Rattle.cl_grammar.proofs.Written.{shapes}
use Rattle.cl_text_grammar.specs.Types.{type_seen}
use Rattle.cl_text_grammar.specs.UpdateSights.{keys_seen}
use Rattle.cl_text_grammar.specs.FormSights.{FormSeen, expressions, specifier, FormSight, Misshapen, Sees, forms_seen, presented_seen, updated_seen, call_seen}
use Rattle.cl_text_grammar.specs.FormSights.{shape_rows, shape_row_seen, shape_seen}
use Rattle.cl_text_grammar.proofs.TypeJudging.{given_so}
use Rattle.cl_text_grammar.proofs.TypesJudged.{type_judged}
use Rattle.cl_text_grammar.proofs.UpdatesJudged.{update_keys_judged}
use Rattle.cl_text_grammar.proofs.FormsLie.{shapes_lie}
use Rattle.cl_text_grammar.proofs.FormStands.{setting_seen, writing_seen, shape_under, shape_stands, shape_called}
use Rattle.cl_text_grammar.proofs.FormJudging.{FormJudged, FormJudges, Answers, then_expressions}
use Rattle.cl_text_grammar.proofs.FormJudging as judging
use Rattle.cl_text_grammar.proofs.FormsJudged.{in_front, typed_in_front, at_once, one_behind, RestIs, OwnSees, OwnAnswers, IsOwn, SightRules, form_judged, data_judged}

module _ (w : Signatures) where
  -- what is read of a display form's own, up to its body, answers to what it sees
  abbrev OwnReads : Names → List Datum → ℕ → FormSight → Load (Own ShapeTree Opening Context) → Type 0
  OwnReads env ds at s m = OwnAnswers w env ds at s m

  abbrev OwnTells : Names → List Sub → ℕ → FormSight → Load (Own ShapeTree Opening Context) → Type 0
  OwnTells env ps at s m = OwnReads env (shapes ps) at s m

  drawn : (b : Bool) (at : ℕ) (ps : List Sub) (env : Names) (g : List ExprTree → ShapeTree) → JudgedParts w ps
      → OwnTells env ps at (if b then Sees (expressions (all_seen env (shapes ps)) ∷ []) else Misshapen)
      ((if b then (parse_each ps env >>= λ ts. give (g ts)) else refuse 6 at) >>= λ s. give (Whole s))
  drawn true at ps env g k = in_front (then_given (λ s. Whole s) (then_given {Q = Any} g (each_judged ps env k) λ ts i. tt) λ s i. refl)
  drawn false at ps env g k = λ u. refl

  figure_row : (f : Figure) (h at : ℕ) (ps : List Sub) (env : Names) (c : Context) → JudgedParts w ps
      → OwnTells env ps at (shape_under w (head.Figure f) h env (shapes ps)) (parse_own w c (head.Figure f) h at ps env)
  figure_row f h at ps env c k =
      subst
      (λ n. OwnTells env ps at (shape_under w (head.Figure f) h env (shapes ps))
      ((if figure_count f == n then (parse_each ps env >>= λ ts. give (shape.Draw f (expr_trees_of ts))) else refuse 6 at) >>= λ s. give (Whole s)))
      (sym (length_shapes ps)) (drawn (figure_count f == length (shapes ps)) at ps env (λ ts. shape.Draw f (expr_trees_of ts)) k)

  -- what is read of an object and of its type answers to what is seen of them
  object_row : {A : Type 0} (e s : Datum) (ds : List Datum) (rest : List FormSeen) (env : Names) (m : Load ExprTree) (g : ExprTree → TypeSpecTree → A)
      (o : A → Own ShapeTree Opening Context) → Judges w (expression env e ∷ []) Any m → ((t : ExprTree) (spec : TypeSpecTree) → RestIs env ds rest (o (g t spec)))
      → OwnSees w env ds (expressions (expression env e ∷ []) ∷ specifier (type_seen w [] s) ∷ rest)
      ((m >>= λ t. parse_type w [] s >>= λ spec. give (g t spec)) >>= λ x. give (o x))
  object_row e s ds rest env m g o h i =
      subst (OwnSees w env ds (expressions (expression env e ∷ []) ∷ specifier (type_seen w [] s) ∷ rest))
      (one_behind m (λ t. parse_type w [] s >>= λ spec. give (g t spec)) (λ x. give (o x)))
      (typed_in_front {m = m} {f = λ t. (parse_type w [] s >>= λ spec. give (g t spec)) >>= λ x. give (o x)} h λ t.
      given_so w (λ x. RestIs env ds rest (o x)) (RestIs env ds rest) o
      (given_so w Any (λ x. RestIs env ds rest (o x)) (g t) (type_judged w [] s) (λ spec j. i t spec)) (λ x j. j))

  boxed_row : (o : Option Bool) (at : ℕ) (d e s : Datum) (ds : List Datum) (env : Names) (c : Context)
      → OwnReads env (d ∷ ds) at
      (if is_some o then Sees (expressions (expression env e ∷ []) ∷ specifier (type_seen w [] s) ∷ forms_seen env ds) else Misshapen)
      (parse_boxed w at e s o env >>= λ p. give (Before (opening.Presentation p) 1 c))
  boxed_row None at d e s ds env c = λ u. refl
  boxed_row (Some b) at d e s ds env c =
      object_row e s (d ∷ ds) (forms_seen env ds) env (parse_expression w e env) (λ t spec. record { object = t; spec = spec; single_box = b })
      (λ p. Before (opening.Presentation p) 1 c) (expression_judged w e env) (λ t spec. refl)

  presented_row : (parts : List Datum) (at : ℕ) (d : Datum) (ds : List Datum) (env : Names) (c : Context)
      → OwnReads env (d ∷ ds) at (presented_seen w env parts ds) (parse_presented w at parts env >>= λ p. give (Before (opening.Presentation p) 1 c))
  presented_row (e ∷ s ∷ keys) at d ds env c = boxed_row (single_box_in keys) at d e s ds env c
  presented_row [] at d ds env c = λ u. refl
  presented_row (e ∷ []) at d ds env c = λ u. refl

  keyed_row : (o : Option (List Keyed)) (keys : Datums) (list_at at : ℕ) (ds : List Datum) (env : Names) (c : Context) → update_keys_in (in_order keys) ≡ o
      → OwnReads env (list keys list_at ∷ ds) at
      (if is_some o then Sees (expressions (keys_seen env (in_order keys)) ∷ forms_seen env ds) else Misshapen)
      (parse_update_keyed w at o env >>= λ u. give (Before (opening.Update u) 1 c))
  keyed_row None keys list_at at ds env c e = λ u. refl
  keyed_row (Some ks) keys list_at at ds env c e =
      in_front (then_given (λ u. Before (opening.Update u) 1 c)
      (then_given {Q = Any} (λ s. update_of at s) (update_keys_judged w env ks (in_order keys) e) λ s i. tt) λ u i. refl)

  updated_row : (d : Datum) (at : ℕ) (ds : List Datum) (env : Names) (c : Context)
      → OwnReads env (d ∷ ds) at (updated_seen env d ds) (parse_update_list w at d env >>= λ u. give (Before (opening.Update u) 1 c))
  updated_row (list keys list_at) at ds env c = keyed_row (update_keys_in (in_order keys)) keys list_at at ds env c refl
  updated_row (number z d_at) at ds env c = λ u. refl
  updated_row (literal s d_at) at ds env c = λ u. refl
  updated_row (word s d_at) at ds env c = λ u. refl
  updated_row (quoted s d_at name_at) at ds env c = λ u. refl
  updated_row (stray d_at) at ds env c = λ u. refl

  setting_row : (s : Setting) (h at : ℕ) (ps : List Sub) (env : Names) (c : Context) → JudgedParts w ps
      → OwnTells env ps at (setting_seen w s h env (shapes ps)) (parse_own w c (head.Setting s) h at ps env)
  setting_row setting.Indent h at [] env c k = λ u. refl
  setting_row setting.Indent h at (a ∷ ps) env c k = in_front (then_given (λ t. Before (opening.Indent t) 1 c) (k.0.expr env) λ t i. refl)
  setting_row setting.Ink h at [] env c k = λ u. refl
  setting_row setting.Ink h at (a ∷ ps) env c k = in_front (then_given (λ t. Before (opening.Ink t) 1 c) (k.0.expr env) λ t i. refl)
  setting_row setting.Room h at ps env c k = at_once {own = Before opening.Room 0 c} refl
  setting_row setting.Presentation h at [] env c k = λ u. refl
  setting_row setting.Presentation h at (a ∷ ps) env c k = presented_row (parts_of a.shape) at a.shape (shapes ps) env c
  setting_row setting.Update h at [] env c k = λ u. refl
  setting_row setting.Update h at (a ∷ ps) env c k = updated_row a.shape at (shapes ps) env c

  writing_row : (v : Writing) (h at : ℕ) (ps : List Sub) (env : Names) (c : Context) → JudgedParts w ps
      → OwnTells env ps at (writing_seen w v h env (shapes ps)) (parse_own w c (head.Writing v) h at ps env)
  writing_row writing.WriteText h at (a ∷ []) env c k =
      in_front (then_given (λ s. Whole s) (then_given {Q = Any} (λ t. shape.WriteText t) (k.0.expr env) λ t i. tt) λ s i. refl)
  writing_row writing.WriteText h at [] env c k = λ u. refl
  writing_row writing.WriteText h at (a ∷ b ∷ ps) env c k = λ u. refl
  writing_row writing.Newline h at [] env c k = at_once {own = Whole shape.Newline} refl
  writing_row writing.Newline h at (a ∷ ps) env c k = λ u. refl
  writing_row writing.Present h at (a ∷ b ∷ []) env c k =
      object_row a.shape b.shape (a.shape ∷ b.shape ∷ []) [] env (a.expr env) (λ t spec. shape.Present t spec) (λ s. Whole s) (k.0.expr env) (λ t spec. refl)
  writing_row writing.Present h at [] env c k = λ u. refl
  writing_row writing.Present h at (a ∷ []) env c k = λ u. refl
  writing_row writing.Present h at (a ∷ b ∷ d ∷ ps) env c k = λ u. refl

  own_row : (c : Context) (j : Head) → IsOwn j → (h at : ℕ) (ps : List Sub) (env : Names) → JudgedParts w ps
      → OwnTells env ps at (shape_under w j h env (shapes ps)) (parse_own w c j h at ps env)
  own_row c (head.Figure f) i h at ps env k = figure_row f h at ps env c k
  own_row c (head.Setting s) i h at ps env k = setting_row s h at ps env c k
  own_row c (head.Writing v) i h at ps env k = writing_row v h at ps env c k
  own_row c (head.Planned planned.Display) i h at ps env k = λ u. refl
  own_row c (head.Planned planned.Part) i h at ps env k = λ u. refl
  own_row c (head.Special s) i h at ps env k = λ u. refl
  own_row c (head.Operator o) i h at ps env k = λ u. refl
  own_row c (head.Change o) i h at ps env k = λ u. refl
  own_row c head.If i h at ps env k = absurd i
  own_row c head.Let i h at ps env k = absurd i
  own_row c (head.Control o) i h at ps env k = absurd i

  abbrev row : List ℕ → ℕ → Names → List Datum → FormSight
  row x = shape_row_seen w (named x (shape_rows w)) x

  abbrev Tells : ℕ → FormSight → Load ShapeTree → Type 0
  Tells at s m = Answers (shape_seen w) w (shapes_lie w) at s m

  counted : (b : Bool) (at : ℕ) (ps : List Sub) (env : Names) (g : List ExprTree → ShapeTree) → JudgedParts w ps
      → Tells at (if b then Sees (expressions (all_seen env (shapes ps)) ∷ []) else Misshapen)
      (if b then (parse_each ps env >>= λ ts. give (g ts)) else refuse 6 at)
  counted true at ps env g k =
      then_expressions (shape_seen w) w (shapes_lie w) Any Any (all_seen env (shapes ps)) [] (parse_each ps env) _ (each_judged ps env k) λ ts i.
      judging.ended (shape_seen w) w (shapes_lie w) (g ts)
  counted false at ps env g k = λ u. refl

  call_row : (o : Option (Option ℕ)) (x : List ℕ) (h at : ℕ) (ps : List Sub) (env : Names) → JudgedParts w ps
      → Tells at (call_seen o h env (shapes ps)) (parse_call_counted o x h at ps env)
  call_row None x h at ps env k = λ u. refl
  call_row (Some count) x h at ps env k =
      subst
      (λ n. Tells at (call_seen (Some count) h env (shapes ps))
      (if fits count n then (parse_each ps env >>= λ ts. give (shape.Call x (expr_trees_of ts))) else refuse 6 at))
      (sym (length_shapes ps)) (counted (fits count (length (shapes ps))) at ps env (λ ts. shape.Call x (expr_trees_of ts)) k)

  rules : SightRules display_forms w row (shape_under w) (shapes_lie w)
  rules = record {
    stands = λ x k e h env ds. shape_stands w x k e h env ds;
    an_if = λ h env ds. refl;
    a_let = λ h env ds. refl;
    a_control = λ c h env ds. refl;
    an_own = own_row;
    a_call = λ x h at ps env e k.
        subst (λ s. Tells at s (parse_call_counted (display_in w x) x h at ps env)) (sym (shape_called w x e h env (shapes ps)))
        (call_row (display_in w x) x h at ps env k);
  }

  pub shape_judged : (d : Datum) (env : Names) → FormJudged (shape_seen w) w (shapes_lie w) env d (parse_shape w d env)
  shape_judged d env = form_judged display_forms w row (shape_under w) (shapes_lie w) rules context.Display d env

  pub shapes_judged : (ds : Datums) (env : Names)
      → FormJudges (shape_seen w) w (shapes_lie w) (forms_seen env (in_order ds)) Any (parse_shapes w ds env)
  shapes_judged ds env = data_judged display_forms w row (shape_under w) (shapes_lie w) rules context.Display ds env
