-- What the readings of forms come to, in any language of forms whose own rows answer to what they see.
use Rattle.std.proofs.Common.{◌≡◌, ℕ, Bool, true, false, if◌then◌else◌, List, [], ◌∷◌, drop, refl, sym, ap, ◌∙◌}
use Rattle.std.specs.Prelude.{Result, Ok, Err, Option, Some, None}
use Rattle.std.proofs.Math.Path.{subst}
use Rattle.cl_syntax.specs.ExprTree.{ExprTree}
use Rattle.cl_forms.specs.Datum.{Datum, Datums, number, literal, word, quoted, stray, list, none, item, in_order, parts_of}
use Rattle.cl_words.specs.Heads.{head_named}
use Rattle.cl_words.specs.declared.heads.Head.{Head}
use Rattle.cl_words.specs.declared.heads.Head.TheVariants as head
use Rattle.cl_words.specs.declared.heads.Control.{Control}
use Rattle.cl_words.specs.declared.heads.Control.TheVariants as control
use Rattle.cl_words.specs.declared.signatures.Signatures.{Signatures}
use Rattle.cl_expressions.specs.Load.{Load, Notes, Fault, after, ◌>>=◌, give, refuse}
use Rattle.cl_expressions.specs.Scopes.{Names}
use Rattle.cl_expressions.specs.Expressions.{Sub, parse_binding, is_binding, is_binding_list}
use Rattle.cl_bodies.specs.declared.own.Own.{Own}
use Rattle.cl_bodies.specs.declared.own.Own.TheVariants.{Whole, Before}
use Rattle.cl_bodies.specs.Bodies.{Language, Part, subs_of, parse_each, parse_if, parse_when, parse_let, parse_dolist, parse_dolist_body}
use Rattle.cl_bodies.specs.Bodies.{parse_control, finished, parse_own, parse_head, parse_headed, parse_listed, parse_form, parts_in, parse_body}
use Rattle.cl_grammar.specs.Sights.{Seen, names_behind, value_seen, names_bound, values_seen}
use Rattle.cl_grammar.proofs.Judged.{binding_judged}
use Rattle.cl_grammar.proofs.Judging.{Any, Judges}
use Rattle.cl_grammar.proofs.Rows.{JudgedPart, JudgedParts}
use Rattle.cl_grammar.proofs.Written.{shapes}
use Rattle.cl_text_grammar.specs.Types.{TypePart}
use Rattle.cl_text_grammar.specs.FormSights.{NameSpace, FormSeen, expressions, specifier, name_among, FormSight, Misshapen, UnknownHead, PlannedHead, Sees, Row, forms_seen}
use Rattle.cl_text_grammar.specs.FormSights.{if_seen, when_seen, let_seen, dolist_seen, headed_seen}
use Rattle.cl_text_grammar.proofs.FormParts.{EachPart, stand, parts_behind, stand_behind, stand_all}
use Rattle.cl_text_grammar.proofs.BindingsJudged.{no_binding, part_judged}
use Rattle.cl_text_grammar.proofs.FormsLie.{LieSights}
use Rattle.cl_text_grammar.proofs.TypeJudging.{TypeJudges}
use Rattle.cl_text_grammar.proofs.NameJudging.{NameJudges}
use Rattle.cl_text_grammar.proofs.FormJudging.{FormJudges, FormJudged, then_expressions, then_type, then_name, then_form, ended, then_given}
use Rattle.cl_text_grammar.proofs.FormJudging.{Answers, list_judged, atom_judged}
use Rattle.cl_text_grammar.proofs.FormStands.{control_seen}

-- of three readings one behind another, the first two may be taken together
behind_taken : {A B E : Type 0} (r : Result (A × Notes) Fault) (f : A → Load B) (g : B → Load E) → after r (λ x. f x >>= g) ≡ after (after r f) g
behind_taken (Ok x) f g = refl
behind_taken (Err fault) f g = refl

pub one_behind : {A B E : Type 0} (m : Load A) (f : A → Load B) (g : B → Load E) → (m >>= λ x. f x >>= g) ≡ ((m >>= f) >>= g)
one_behind m f g = λ i u. behind_taken (m u) f g i

-- the forms that are left behind what was read of a form of the language's own
abbrev pub RestIs : {F O C : Type 0} → Names → List Datum → List FormSeen → Own F O C → Type 0
RestIs env ds rest (Whole f) = rest ≡ []
RestIs env ds rest (Before o count c) = rest ≡ forms_seen env (drop count ds)

-- what is read of a form of the language's own, up to its body, answers to the parts that it sees
pub data OwnSees {F O C : Type 0} (w : Signatures) (env : Names) (ds : List Datum) : List FormSeen → Load (Own F O C) → Type 0 where
  in_front : {qs : List Seen} {rest : List FormSeen} {m : Load (Own F O C)} → Judges w qs (RestIs env ds rest) m → OwnSees w env ds (expressions qs ∷ rest) m
  typed_in_front : {qs : List Seen} {ts : List TypePart} {rest : List FormSeen} {m : Load ExprTree} {f : ExprTree → Load (Own F O C)} → Judges w qs Any m
      → ((t : ExprTree) → TypeJudges w ts (RestIs env ds rest) (f t)) → OwnSees w env ds (expressions qs ∷ specifier ts ∷ rest) (m >>= f)
  name_in_front : {k : NameSpace} {x : List ℕ} {at : ℕ} {rest : List FormSeen} {m : Load (Own F O C)} → NameJudges w k x at (RestIs env ds rest) m
      → OwnSees w env ds (name_among k x at ∷ rest) m
  at_once : {ps : List FormSeen} {own : Own F O C} → RestIs env ds ps own → OwnSees w env ds ps (give own)

abbrev pub OwnAnswers : {F O C : Type 0} → Signatures → Names → List Datum → ℕ → FormSight → Load (Own F O C) → Type 0
OwnAnswers w env ds at Misshapen m = (u : Notes) → m u ≡ Err (6, at)
OwnAnswers w env ds at (UnknownHead k) m = (u : Notes) → m u ≡ Err (5, k)
OwnAnswers w env ds at (PlannedHead k) m = (u : Notes) → m u ≡ Err (0, k)
OwnAnswers w env ds at (Sees ps) m = OwnSees w env ds ps m

-- a head that is the language's own
abbrev pub IsOwn : Head → Type 0
IsOwn head.If = ⊥
IsOwn head.Let = ⊥
IsOwn (head.Control c) = ⊥
IsOwn (head.Special s) = Unit {0}
IsOwn (head.Operator o) = Unit {0}
IsOwn (head.Figure f) = Unit {0}
IsOwn (head.Setting s) = Unit {0}
IsOwn (head.Writing v) = Unit {0}
IsOwn (head.Change c) = Unit {0}
IsOwn (head.Planned p) = Unit {0}

-- what the words of a language see, and what it reads of its own forms
pub record SightRules {F O C : Type 0} (l : Language F O C) (w : Signatures) (row : List ℕ → Row) (under : Head → Row) (lies : LieSights (headed_seen row)) : Type 0 where
  pub stands : (x : List ℕ) (k : Head) → head_named x ≡ Some k → (h : ℕ) (env : Names) (ds : List Datum) → row x h env ds ≡ under k h env ds
  pub an_if : (h : ℕ) (env : Names) (ds : List Datum) → under head.If h env ds ≡ if_seen h env ds
  pub a_let : (h : ℕ) (env : Names) (ds : List Datum) → under head.Let h env ds ≡ let_seen h env ds
  pub a_control : (c : Control) (h : ℕ) (env : Names) (ds : List Datum) → under (head.Control c) h env ds ≡ control_seen c h env ds
  pub an_own : (c : C) (k : Head) → IsOwn k → (h at : ℕ) (ps : List Sub) (env : Names) → JudgedParts w ps
      → OwnAnswers w env (shapes ps) at (under k h env (shapes ps)) (l.own w c k h at ps env)
  pub a_call : (x : List ℕ) (h at : ℕ) (ps : List Sub) (env : Names) → head_named x ≡ None → JudgedParts w ps
      → Answers (headed_seen row) w lies at (row x h env (shapes ps)) (l.call w x h at ps env)

module _ {F O C : Type 0} (l : Language F O C) (w : Signatures) (row : List ℕ → Row) (under : Head → Row) (lies : LieSights (headed_seen row))
    (rules : SightRules l w row under lies) where
  abbrev seen : Names → List Datum → FormSight
  seen = headed_seen row

  abbrev Tells : {A : Type 0} → ℕ → FormSight → Load A → Type 0
  Tells at s m = Answers seen w lies at s m

  abbrev Goes : {A : Type 0} → List FormSeen → Load A → Type 0
  Goes ps m = FormJudges seen w lies ps Any m

  -- a part answers as an expression and as a form
  record FormPart (p : Part F C) : Type 0 where
    sub : JudgedPart w p.sub
    form : (c : C) (env : Names) → FormJudged seen w lies env p.sub.shape (p.form c env)

  abbrev FormParts : List (Part F C) → Type 0
  FormParts ps = EachPart FormPart ps

  subs_judged : (ps : List (Part F C)) → FormParts ps → JudgedParts w (subs_of ps)
  subs_judged [] k = tt
  subs_judged (p ∷ ps) k = (k.0.sub, subs_judged ps k.1)

  each_judged : (c : C) (ps : List (Part F C)) (env : Names) → FormParts ps → Goes (forms_seen env (stand ps)) (parse_each c ps env)
  each_judged c [] env k = ended seen w lies []
  each_judged c (p ∷ ps) env k =
      then_form seen w lies Any env p.sub.shape (forms_seen env (stand ps)) (p.form c env) _ (k.0.form c env) λ f.
      then_given seen w lies Any (forms_seen env (stand ps)) (parse_each c ps env) (λ fs. f ∷ fs) (each_judged c ps env k.1)

  body_judged : (c : C) (ps : List (Part F C)) (env : Names) (g : List F → F) → FormParts ps
      → Goes (forms_seen env (stand ps)) (parse_each c ps env >>= λ fs. give (g fs))
  body_judged c ps env g k = then_given seen w lies Any (forms_seen env (stand ps)) (parse_each c ps env) g (each_judged c ps env k)

  -- ---- rows of all languages

  if_row : (c : C) (h at : ℕ) (ps : List (Part F C)) (env : Names) → FormParts ps → Tells at (if_seen h env (stand ps)) (parse_if l c at ps env)
  if_row c h at (a ∷ b ∷ d ∷ []) env k =
      then_expressions seen w lies Any Any _ _ (a.sub.expr env) _ (k.0.sub.expr env) λ t i.
      then_form seen w lies Any env b.sub.shape _ (b.form c env) _ (k.1.0.form c env) λ f.
      then_form seen w lies Any env d.sub.shape _ (d.form c env) _ (k.1.1.0.form c env) λ g. ended seen w lies _
  if_row c h at [] env k = λ u. refl
  if_row c h at (a ∷ []) env k = λ u. refl
  if_row c h at (a ∷ b ∷ []) env k = λ u. refl
  if_row c h at (a ∷ b ∷ d ∷ e ∷ ps) env k = λ u. refl

  when_row : (c : C) (h at : ℕ) (ps : List (Part F C)) (env : Names) → FormParts ps → Tells at (when_seen h env (stand ps)) (parse_when l c at ps env)
  when_row c h at [] env k = λ u. refl
  when_row c h at (a ∷ ps) env k =
      then_expressions seen w lies Any Any _ _ (a.sub.expr env) _ (k.0.sub.expr env) λ t i. body_judged c ps env (l.when t) k.1

  let_bound : (c : C) (at : ℕ) (a : Part F C) (ps : List (Part F C)) (env : Names) (b : Bool) → is_binding_list a.sub.shape ≡ b → FormPart a → FormParts ps
      → Tells at
      (if b then Sees (expressions (values_seen env (parts_of a.sub.shape)) ∷ forms_seen (names_bound env (parts_of a.sub.shape)) (stand ps)) else Misshapen)
      (if b then (a.sub.bound at env >>= λ r. parse_each c ps r.1 >>= λ fs. give (l.bind r.0 fs)) else refuse 6 at)
  let_bound c at a ps env true e k j =
      then_expressions seen w lies (λ r. r.1 ≡ names_bound env (parts_of a.sub.shape)) Any _ _ (a.sub.bound at env) _ (k.sub.bound at env e) λ r i.
      subst (λ names. Goes (forms_seen names (stand ps)) (parse_each c ps r.1 >>= λ fs. give (l.bind r.0 fs))) i (body_judged c ps r.1 (l.bind r.0) j)
  let_bound c at a ps env false e k j = λ u. refl

  let_row : (c : C) (h at : ℕ) (ps : List (Part F C)) (env : Names) → FormParts ps → Tells at (let_seen h env (stand ps)) (parse_let l c at ps env)
  let_row c h at [] env k = λ u. refl
  let_row c h at (a ∷ ps) env k = let_bound c at a ps env (is_binding_list a.sub.shape) refl k.0 k.1

  dolist_bound : (c : C) (at : ℕ) (d : Datum) (ps : List (Part F C)) (env : Names) (b : Bool) → is_binding (parts_of d) ≡ b → FormParts ps
      → Tells at (if b then Sees (expressions (value_seen env (parts_of d)) ∷ forms_seen (names_behind env (parts_of d)) (stand ps)) else Misshapen)
      (parse_binding w d at env >>= λ b. parse_dolist_body l c b.name b.value ps env)
  dolist_bound c at d ps env true e k =
      then_expressions seen w lies (λ b. b.name ∷ env ≡ names_behind env (parts_of d)) Any _ _ (parse_binding w d at env) _ (binding_judged w d at env e) λ b i.
      subst (λ names. Goes (forms_seen names (stand ps)) (parse_dolist_body l c b.name b.value ps env)) i
      (body_judged c ps (b.name ∷ env) (l.each b.name b.value) k)
  dolist_bound c at d ps env false e k = λ u. ap (λ r. after r (λ b. parse_dolist_body l c b.name b.value ps env)) (no_binding w d at env e u)

  dolist_row : (c : C) (h at : ℕ) (ps : List (Part F C)) (env : Names) → FormParts ps → Tells at (dolist_seen h env (stand ps)) (parse_dolist l w c at ps env)
  dolist_row c h at [] env k = λ u. refl
  dolist_row c h at (a ∷ ps) env k = dolist_bound c at a.sub.shape ps env (is_binding (parts_of a.sub.shape)) refl k.1

  control_row : (c : C) (o : Control) (h at : ℕ) (ps : List (Part F C)) (env : Names) → FormParts ps
      → Tells at (control_seen o h env (stand ps)) (parse_control l w c o at ps env)
  control_row c control.When h at ps env k = when_row c h at ps env k
  control_row c control.Dolist h at ps env k = dolist_row c h at ps env k
  control_row c control.Progn h at ps env k = body_judged c ps env l.sequence k

  -- ---- forms of the language's own

  finished_judged : (own : Own F O C) (rest : List FormSeen) (ps : List (Part F C)) (env : Names) → RestIs env (stand ps) rest own → FormParts ps
      → Goes rest (finished l own ps env)
  finished_judged (Whole f) rest ps env i k = subst (λ r. Goes r (give f)) (sym i) (ended seen w lies f)
  finished_judged (Before o count c) rest ps env i k =
      subst (λ r. Goes r (finished l (Before o count c) ps env)) (ap (forms_seen env) (stand_behind count ps) ∙ sym i)
      (body_judged c (drop count ps) env (l.closed o) (parts_behind FormPart count ps k))

  sees_row : (seen_parts : List FormSeen) (m : Load (Own F O C)) (ps : List (Part F C)) (env : Names) → OwnSees w env (stand ps) seen_parts m → FormParts ps
      → Goes seen_parts (m >>= λ own. finished l own ps env)
  sees_row seen_parts m ps env (in_front {qs} {rest} {m = n} h) k =
      then_expressions seen w lies (RestIs env (stand ps) rest) Any qs rest n (λ own. finished l own ps env) h λ own i. finished_judged own rest ps env i k
  sees_row seen_parts m ps env (typed_in_front {qs} {ts} {rest} {m = n} {f} h g) k =
      subst (Goes (expressions qs ∷ specifier ts ∷ rest)) (one_behind n f (λ own. finished l own ps env))
      (then_expressions seen w lies Any Any qs (specifier ts ∷ rest) n (λ t. f t >>= λ own. finished l own ps env) h λ t i.
      then_type seen w lies (RestIs env (stand ps) rest) Any ts rest (f t) (λ own. finished l own ps env) (g t) λ own j.
      finished_judged own rest ps env j k)
  sees_row seen_parts m ps env (name_in_front {k = space} {x} {at} {rest} {m = n} h) k =
      then_name seen w lies (RestIs env (stand ps) rest) Any space x at rest n (λ own. finished l own ps env) h λ own i. finished_judged own rest ps env i k
  sees_row seen_parts m ps env (at_once {ps = parts} {own} i) k = record { judged = (finished_judged own parts ps env i k).judged }

  own_row : (s : FormSight) (m : Load (Own F O C)) (at : ℕ) (ps : List (Part F C)) (env : Names) → OwnAnswers w env (stand ps) at s m → FormParts ps
      → Tells at s (m >>= λ own. finished l own ps env)
  own_row Misshapen m at ps env h k = λ u. ap (λ r. after r (λ own. finished l own ps env)) (h u)
  own_row (UnknownHead j) m at ps env h k = λ u. ap (λ r. after r (λ own. finished l own ps env)) (h u)
  own_row (PlannedHead j) m at ps env h k = λ u. ap (λ r. after r (λ own. finished l own ps env)) (h u)
  own_row (Sees parts) m at ps env h k = sees_row parts m ps env h k

  -- ---- forms by their heads

  own_head : (c : C) (j : Head) → IsOwn j → (h at : ℕ) (ps : List (Part F C)) (env : Names) → FormParts ps
      → Tells at (under j h env (stand ps)) (parse_own l w c j h at ps env)
  own_head c j i h at ps env k =
      own_row (under j h env (stand ps)) (l.own w c j h at (subs_of ps) env) at ps env (rules.an_own c j i h at (subs_of ps) env (subs_judged ps k)) k

  under_row : (c : C) (j : Head) (x : List ℕ) (h at : ℕ) (ps : List (Part F C)) (env : Names) → FormParts ps
      → Tells at (under j h env (stand ps)) (parse_head l w c (Some j) x h at ps env)
  under_row c head.If x h at ps env k = subst (λ s. Tells at s (parse_if l c at ps env)) (sym (rules.an_if h env (stand ps))) (if_row c h at ps env k)
  under_row c head.Let x h at ps env k = subst (λ s. Tells at s (parse_let l c at ps env)) (sym (rules.a_let h env (stand ps))) (let_row c h at ps env k)
  under_row c (head.Control o) x h at ps env k =
      subst (λ s. Tells at s (parse_control l w c o at ps env)) (sym (rules.a_control o h env (stand ps))) (control_row c o h at ps env k)
  under_row c (head.Special s) x h at ps env k = own_head c (head.Special s) tt h at ps env k
  under_row c (head.Operator o) x h at ps env k = own_head c (head.Operator o) tt h at ps env k
  under_row c (head.Figure f) x h at ps env k = own_head c (head.Figure f) tt h at ps env k
  under_row c (head.Setting s) x h at ps env k = own_head c (head.Setting s) tt h at ps env k
  under_row c (head.Writing v) x h at ps env k = own_head c (head.Writing v) tt h at ps env k
  under_row c (head.Change o) x h at ps env k = own_head c (head.Change o) tt h at ps env k
  under_row c (head.Planned p) x h at ps env k = own_head c (head.Planned p) tt h at ps env k

  head_row : (c : C) (o : Option Head) (x : List ℕ) (h at : ℕ) (ps : List (Part F C)) (env : Names) → head_named x ≡ o → FormParts ps
      → Tells at (row x h env (stand ps)) (parse_head l w c o x h at ps env)
  head_row c (Some j) x h at ps env e k =
      subst (λ s. Tells at s (parse_head l w c (Some j) x h at ps env)) (sym (rules.stands x j e h env (stand ps))) (under_row c j x h at ps env k)
  head_row c None x h at ps env e k = rules.a_call x h at (subs_of ps) env e (subs_judged ps k)

  headed_row : (c : C) (d : Datum) (at : ℕ) (ps : List (Part F C)) (env : Names) → FormParts ps
      → Tells at (seen env (d ∷ stand ps)) (parse_headed l w c d at ps env)
  headed_row c (word x h) at ps env k = head_row c (head_named x) x h at ps env refl k
  headed_row c (number z h) at ps env k = λ u. refl
  headed_row c (literal s h) at ps env k = λ u. refl
  headed_row c (quoted s h name_at) at ps env k = λ u. refl
  headed_row c (stray h) at ps env k = λ u. refl
  headed_row c (list ds h) at ps env k = λ u. refl

  listed_row : (c : C) (at : ℕ) (ps : List (Part F C)) (env : Names) → FormParts ps → Tells at (seen env (stand ps)) (parse_listed l w c at ps env)
  listed_row c at [] env k = λ u. refl
  listed_row c at (p ∷ ps) env k = headed_row c p.sub.shape at ps env k.1

  mutual
    pub form_judged : (c : C) (d : Datum) (env : Names) → FormJudged seen w lies env d (parse_form l w c d env)
    form_judged c (list ds at) env =
        list_judged seen w lies env ds at (parse_form l w c (list ds at) env)
        (subst (λ es. Tells at (seen env es) (parse_form l w c (list ds at) env)) (stand_all l w ds) (listed_row c at (parts_in l w ds) env (parts_go ds)))
    form_judged c (number z at) env = atom_judged seen w lies env (number z at) refl
    form_judged c (literal s at) env = atom_judged seen w lies env (literal s at) refl
    form_judged c (quoted s at name_at) env = atom_judged seen w lies env (quoted s at name_at) refl
    form_judged c (word x at) env = atom_judged seen w lies env (word x at) refl
    form_judged c (stray at) env = atom_judged seen w lies env (stray at) refl

    parts_go : (ds : Datums) → FormParts (parts_in l w ds)
    parts_go none = tt
    parts_go (item d ds) = (record { sub = part_judged w d; form = λ c env. form_judged c d env }, parts_go ds)

  pub data_judged : (c : C) (ds : Datums) (env : Names) → Goes (forms_seen env (in_order ds)) (parse_body l w c ds env)
  data_judged c ds env =
      subst (λ es. Goes (forms_seen env es) (parse_body l w c ds env)) (stand_all l w ds) (each_judged c (parts_in l w ds) env (parts_go ds))
