-- What is read of a datum as a form writes it, in any language of forms whose rows do.
use Rattle.std.proofs.Common.{◌≡◌, ℕ, List, [], ◌∷◌, drop, refl, sym}
use Rattle.std.specs.Prelude.{Option, Some, None, codes}
use Rattle.std.proofs.Math.Path.{subst}
use Rattle.cl_syntax.specs.Expr.{bindings_of}
use Rattle.cl_syntax.specs.ExprTree.{ExprTree}
use Rattle.cl_syntax.specs.declared.expressions.Binding.{Binding}
use Rattle.cl_forms.specs.Datum.{Datum, Datums, number, literal, word, quoted, stray, list, none, item, in_order}
use Rattle.cl_words.specs.Heads.{head_named}
use Rattle.cl_words.specs.declared.heads.Head.{Head}
use Rattle.cl_words.specs.declared.heads.Head.TheVariants as head
use Rattle.cl_words.specs.declared.heads.Control.{Control}
use Rattle.cl_words.specs.declared.heads.Control.TheVariants as control
use Rattle.cl_words.specs.declared.signatures.Signatures.{Signatures}
use Rattle.cl_expressions.specs.Load.{Load}
use Rattle.cl_expressions.specs.Scopes.{Names}
use Rattle.cl_expressions.specs.Expressions.{Sub, is_binding_list}
use Rattle.cl_bodies.specs.declared.own.Own.{Own}
use Rattle.cl_bodies.specs.declared.own.Own.TheVariants.{Whole, Before}
use Rattle.cl_bodies.specs.Bodies.{Language, Part, subs_of, parse_each, parse_if, parse_when, parse_let, parse_dolist, parse_progn, parse_control}
use Rattle.cl_bodies.specs.Bodies.{finished, parse_own, parse_head, parse_headed, parse_listed, parse_form, parts_in, parse_body}
use Rattle.cl_grammar.specs.Heads.{CallsNames}
use Rattle.cl_grammar.specs.Writes.{Writes, WritesBindings}
use Rattle.cl_grammar.proofs.Endings.{Ends, gives, refuses, chooses, binds, ends_weaker}
use Rattle.cl_grammar.proofs.Written.{shapes, WritesList, WrittenPart, WrittenParts}
use Rattle.cl_text_grammar.proofs.FormParts.{EachPart, stand, parts_behind, stand_behind, stand_all}
use Rattle.cl_text_grammar.proofs.FormWords.{control_word, Spells, head_spells}
use Rattle.cl_text_grammar.proofs.Bindings.{WritesBinding, binding_ends, part_written}

-- a form of the language's own writes the head with the parts behind it, whatever its body is
abbrev pub OwnWrites : {F O C : Type 0} → Language F O C → (F → List Datum → Type 0) → (List F → List Datum → Type 0) → Datum → List Datum → Own F O C → Type 0
OwnWrites l W B h ds (Whole f) = W f (h ∷ ds)
OwnWrites {F} l W B h ds (Before o count c) = (fs : List F) → B fs (drop count ds) → W (l.closed o fs) (h ∷ ds)

-- the rows of a language, of which V says what a form writes, W which parts of a list at an offset, and B what a body does
pub record Rules {F O C : Type 0} (l : Language F O C) (w : Signatures) (V : F → Datum → Type 0) (W : ℕ → F → List Datum → Type 0)
    (B : List F → List Datum → Type 0) : Type 0 where
  pub a_form : (f : F) (ds : Datums) (at : ℕ) → W at f (in_order ds) → V f (list ds at)
  pub no_more : B [] []
  pub one_more : (f : F) (fs : List F) (d : Datum) (ds : List Datum) → V f d → B fs ds → B (f ∷ fs) (d ∷ ds)
  pub an_if : (at : ℕ) (t : ExprTree) (f g : F) (a b c : Datum) (h : ℕ) → Writes t a → V f b → V g c
      → W at (l.choice t f g) (word (codes "if") h ∷ a ∷ b ∷ c ∷ [])
  pub a_when : (at : ℕ) (t : ExprTree) (fs : List F) (a : Datum) (ds : List Datum) (h : ℕ) → Writes t a → B fs ds
      → W at (l.when t fs) (word (codes "when") h ∷ a ∷ ds)
  pub a_let : (at : ℕ) (bs : List Binding) (fs : List F) (es : Datums) (ds : List Datum) (list_at h : ℕ) → WritesBindings (bindings_of bs) (in_order es) → B fs ds
      → W at (l.bind bs fs) (word (codes "let") h ∷ list es list_at ∷ ds)
  pub a_dolist : (at : ℕ) (b : Binding) (fs : List F) (a : Datum) (ds : List Datum) (h : ℕ) → WritesBinding b a → B fs ds
      → W at (l.each b.name b.value fs) (word (codes "dolist") h ∷ a ∷ ds)
  pub a_progn : (at : ℕ) (fs : List F) (ds : List Datum) (h : ℕ) → B fs ds → W at (l.sequence fs) (word (codes "progn") h ∷ ds)
  pub an_own : (c : C) (k : Head) (x : List ℕ) (h at : ℕ) (ps : List Sub) (env : Names) → Spells x k → WrittenParts ps
      → Ends (OwnWrites l (W at) B (word x h) (shapes ps)) (l.own w c k h at ps env)
  pub a_call : (x : List ℕ) (h at : ℕ) (ps : List Sub) (env : Names) → head_named x ≡ None → WrittenParts ps
      → Ends (λ f. W at f (word x h ∷ shapes ps)) (l.call w x h at ps env)

module _ {F O C : Type 0} (l : Language F O C) (w : Signatures) (names : CallsNames w) (V : F → Datum → Type 0) (W : ℕ → F → List Datum → Type 0)
    (B : List F → List Datum → Type 0) (rules : Rules l w V W B) where
  -- what is read of a part writes it
  record FormPart (p : Part F C) : Type 0 where
    sub : WrittenPart p.sub
    form : (c : C) (env : Names) → Ends (λ f. V f p.sub.shape) (p.form c env)

  abbrev FormParts : List (Part F C) → Type 0
  FormParts ps = EachPart FormPart ps

  subs_written : (ps : List (Part F C)) → FormParts ps → WrittenParts (subs_of ps)
  subs_written [] k = tt
  subs_written (p ∷ ps) k = (k.0.sub, subs_written ps k.1)

  each_ends : (c : C) (ps : List (Part F C)) (env : Names) → FormParts ps → Ends (λ fs. B fs (stand ps)) (parse_each c ps env)
  each_ends c [] env k = gives rules.no_more
  each_ends c (p ∷ ps) env k =
      binds (k.0.form c env) λ f i. binds (each_ends c ps env k.1) λ fs j. gives (rules.one_more f fs p.sub.shape (stand ps) i j)

  -- what is read writes the head with the parts behind it
  abbrev RowEnds : List ℕ → ℕ → ℕ → List (Part F C) → F → Type 0
  RowEnds x h at ps f = W at f (word x h ∷ stand ps)

  if_ends : (c : C) (h at : ℕ) (ps : List (Part F C)) (env : Names) → FormParts ps → Ends (RowEnds (codes "if") h at ps) (parse_if l c at ps env)
  if_ends c h at (a ∷ b ∷ d ∷ []) env k =
      binds (k.0.sub.expr env) λ t i. binds (k.1.0.form c env) λ f j. binds (k.1.1.0.form c env) λ g m.
      gives (rules.an_if at t f g a.sub.shape b.sub.shape d.sub.shape h i j m)
  if_ends c h at [] env k = refuses
  if_ends c h at (a ∷ []) env k = refuses
  if_ends c h at (a ∷ b ∷ []) env k = refuses
  if_ends c h at (a ∷ b ∷ d ∷ e ∷ ps) env k = refuses

  when_ends : (c : C) (h at : ℕ) (ps : List (Part F C)) (env : Names) → FormParts ps → Ends (RowEnds (codes "when") h at ps) (parse_when l c at ps env)
  when_ends c h at [] env k = refuses
  when_ends c h at (a ∷ ps) env k =
      binds (k.0.sub.expr env) λ t i. binds (each_ends c ps env k.1) λ fs j. gives (rules.a_when at t fs a.sub.shape (stand ps) h i j)

  bound_ends : (at : ℕ) (bs : List Binding) (fs : List F) (d : Datum) (ds : List Datum) (h : ℕ) → WritesList bs d → B fs ds
      → W at (l.bind bs fs) (word (codes "let") h ∷ d ∷ ds)
  bound_ends at bs fs (list es list_at) ds h i j = rules.a_let at bs fs es ds list_at h i j
  bound_ends at bs fs (number z d_at) ds h i j = absurd i
  bound_ends at bs fs (literal s d_at) ds h i j = absurd i
  bound_ends at bs fs (word s d_at) ds h i j = absurd i
  bound_ends at bs fs (quoted s d_at name_at) ds h i j = absurd i
  bound_ends at bs fs (stray d_at) ds h i j = absurd i

  let_ends : (c : C) (h at : ℕ) (ps : List (Part F C)) (env : Names) → FormParts ps → Ends (RowEnds (codes "let") h at ps) (parse_let l c at ps env)
  let_ends c h at [] env k = refuses
  let_ends c h at (a ∷ ps) env k =
      chooses (is_binding_list a.sub.shape)
      (λ e. binds (k.0.sub.bound at env) λ r i. binds (each_ends c ps r.1 k.1) λ fs j. gives (bound_ends at r.0 fs a.sub.shape (stand ps) h i j)) (λ e. refuses)

  dolist_ends : (c : C) (h at : ℕ) (ps : List (Part F C)) (env : Names) → FormParts ps → Ends (RowEnds (codes "dolist") h at ps) (parse_dolist l w c at ps env)
  dolist_ends c h at [] env k = refuses
  dolist_ends c h at (a ∷ ps) env k =
      binds (binding_ends w names a.sub.shape at env) λ b i. binds (each_ends c ps (b.name ∷ env) k.1) λ fs j.
      gives (rules.a_dolist at b fs a.sub.shape (stand ps) h i j)

  progn_ends : (c : C) (h at : ℕ) (ps : List (Part F C)) (env : Names) → FormParts ps → Ends (RowEnds (codes "progn") h at ps) (parse_progn l c ps env)
  progn_ends c h at ps env k = binds (each_ends c ps env k) λ fs j. gives (rules.a_progn at fs (stand ps) h j)

  control_ends : (c : C) (o : Control) (h at : ℕ) (ps : List (Part F C)) (env : Names) → FormParts ps
      → Ends (RowEnds (control_word o) h at ps) (parse_control l w c o at ps env)
  control_ends c control.When h at ps env k = when_ends c h at ps env k
  control_ends c control.Dolist h at ps env k = dolist_ends c h at ps env k
  control_ends c control.Progn h at ps env k = progn_ends c h at ps env k

  -- ---- forms of the language's own

  finished_ends : (at : ℕ) (h : Datum) (ps : List (Part F C)) (env : Names) (own : Own F O C) → FormParts ps → OwnWrites l (W at) B h (stand ps) own
      → Ends (λ f. W at f (h ∷ stand ps)) (finished l own ps env)
  finished_ends at h ps env (Whole f) k i = gives i
  finished_ends at h ps env (Before o count c) k i =
      binds (each_ends c (drop count ps) env (parts_behind FormPart count ps k)) λ fs j. gives (i fs (subst (B fs) (stand_behind count ps) j))

  own_ends : (c : C) (o : Head) (x : List ℕ) (h at : ℕ) (ps : List (Part F C)) (env : Names) → Spells x o → FormParts ps
      → Ends (RowEnds x h at ps) (parse_own l w c o h at ps env)
  own_ends c o x h at ps env e k =
      binds (rules.an_own c o x h at (subs_of ps) env e (subs_written ps k)) λ own i. finished_ends at (word x h) ps env own k i

  -- ---- forms by their heads

  spelled_so : (y x : List ℕ) (h at : ℕ) (ps : List (Part F C)) (m : Load F) → x ≡ y → Ends (RowEnds y h at ps) m → Ends (RowEnds x h at ps) m
  spelled_so y x h at ps m e i = subst (λ z. Ends (RowEnds z h at ps) m) (sym e) i

  under_ends : (c : C) (o : Head) (x : List ℕ) (h at : ℕ) (ps : List (Part F C)) (env : Names) → Spells x o → FormParts ps
      → Ends (RowEnds x h at ps) (parse_head l w c (Some o) x h at ps env)
  under_ends c head.If x h at ps env e k = spelled_so (codes "if") x h at ps (parse_if l c at ps env) e (if_ends c h at ps env k)
  under_ends c head.Let x h at ps env e k = spelled_so (codes "let") x h at ps (parse_let l c at ps env) e (let_ends c h at ps env k)
  under_ends c (head.Control o) x h at ps env e k =
      spelled_so (control_word o) x h at ps (parse_control l w c o at ps env) e (control_ends c o h at ps env k)
  under_ends c (head.Special s) x h at ps env e k = own_ends c (head.Special s) x h at ps env e k
  under_ends c (head.Operator o) x h at ps env e k = own_ends c (head.Operator o) x h at ps env e k
  under_ends c (head.Figure f) x h at ps env e k = own_ends c (head.Figure f) x h at ps env e k
  under_ends c (head.Setting s) x h at ps env e k = own_ends c (head.Setting s) x h at ps env e k
  under_ends c (head.Writing v) x h at ps env e k = own_ends c (head.Writing v) x h at ps env e k
  under_ends c (head.Change o) x h at ps env e k = own_ends c (head.Change o) x h at ps env e k
  under_ends c (head.Planned p) x h at ps env e k = own_ends c (head.Planned p) x h at ps env e k

  head_ends : (c : C) (o : Option Head) (x : List ℕ) (h at : ℕ) (ps : List (Part F C)) (env : Names) → head_named x ≡ o → FormParts ps
      → Ends (RowEnds x h at ps) (parse_head l w c o x h at ps env)
  head_ends c (Some o) x h at ps env e k = under_ends c o x h at ps env (head_spells x o e) k
  head_ends c None x h at ps env e k = rules.a_call x h at (subs_of ps) env e (subs_written ps k)

  headed_ends : (c : C) (d : Datum) (at : ℕ) (ps : List (Part F C)) (env : Names) → FormParts ps
      → Ends (λ f. W at f (d ∷ stand ps)) (parse_headed l w c d at ps env)
  headed_ends c (word x h) at ps env k = head_ends c (head_named x) x h at ps env refl k
  headed_ends c (number z h) at ps env k = refuses
  headed_ends c (literal s h) at ps env k = refuses
  headed_ends c (quoted s h name_at) at ps env k = refuses
  headed_ends c (stray h) at ps env k = refuses
  headed_ends c (list ds h) at ps env k = refuses

  listed_ends : (c : C) (at : ℕ) (ps : List (Part F C)) (env : Names) → FormParts ps → Ends (λ f. W at f (stand ps)) (parse_listed l w c at ps env)
  listed_ends c at [] env k = refuses
  listed_ends c at (p ∷ ps) env k = headed_ends c p.sub.shape at ps env k.1

  mutual
    pub form_ends : (c : C) (d : Datum) (env : Names) → Ends (λ f. V f d) (parse_form l w c d env)
    form_ends c (list ds at) env =
        ends_weaker (λ f i. rules.a_form f ds at (subst (W at f) (stand_all l w ds) i)) (listed_ends c at (parts_in l w ds) env (parts_end ds))
    form_ends c (number z at) env = refuses
    form_ends c (literal s at) env = refuses
    form_ends c (quoted s at name_at) env = refuses
    form_ends c (word x at) env = refuses
    form_ends c (stray at) env = refuses

    parts_end : (ds : Datums) → FormParts (parts_in l w ds)
    parts_end none = tt
    parts_end (item d ds) = (record { sub = part_written w names d; form = λ c env. form_ends c d env }, parts_end ds)

  pub body_ends : (c : C) (ds : Datums) (env : Names) → Ends (λ fs. B fs (in_order ds)) (parse_body l w c ds env)
  body_ends c ds env = ends_weaker (λ fs i. subst (B fs) (stand_all l w ds) i) (each_ends c (parts_in l w ds) env (parts_end ds))
