-- What the readings of statements come to: a lemma for each row that display forms do not have.
use Rattle.std.proofs.Common.{ℕ, Bool, true, false, if◌then◌else◌, List, [], ◌∷◌, refl, sym}
use Rattle.std.specs.Prelude.{Option, Some, None, codes}
use Rattle.std.specs.Str.{bytes_eq}
use Rattle.std.proofs.Math.Path.{subst}
use Rattle.cl_syntax.specs.ActTree.{ActTree}
use Rattle.cl_syntax.specs.ActTree as act
use Rattle.cl_table.specs.Names.{named}
use Rattle.cl_forms.specs.Datum.{Datum, Datums, in_order, offset, parts_of}
use Rattle.cl_forms.specs.Naming.{name_in, symbol_of}
use Rattle.cl_words.specs.Signatures.{slot_in}
use Rattle.cl_words.specs.declared.heads.Head.{Head}
use Rattle.cl_words.specs.declared.heads.Head.TheVariants as head
use Rattle.cl_words.specs.declared.heads.Change.{Change}
use Rattle.cl_words.specs.declared.heads.Change.TheVariants as change
use Rattle.cl_words.specs.declared.signatures.Signatures.{Signatures}
use Rattle.cl_expressions.specs.Load.{Load, ◌>>=◌, give, refuse, noted}
use Rattle.cl_expressions.specs.Scopes.{Names}
use Rattle.cl_expressions.specs.Expressions.{Sub}
use Rattle.cl_bodies.specs.declared.own.Own.{Own}
use Rattle.cl_bodies.specs.declared.own.Own.TheVariants.{Whole}
use Rattle.cl_bodies.specs.Statements.{parse_place, parse_own, statements, parse_act, parse_acts}
use Rattle.cl_grammar.specs.Sights.{expression, slot_name}
use Rattle.cl_grammar.proofs.Judging.{Any, Judges, then_part, then_given, slot_judged}
use Rattle.cl_grammar.proofs.Rows.{JudgedPart, JudgedParts}
use Rattle.cl_grammar.proofs.Written.{shapes}
use Rattle.cl_text_grammar.specs.FormSights.{NameSpace, commands, dialogs, expressions, name_among, FormSight, Misshapen, Sees, forms_seen, place_seen}
use Rattle.cl_text_grammar.specs.FormSights.{act_rows, act_row_seen, act_seen}
use Rattle.cl_text_grammar.specs.FormUnnamed.{is_declared}
use Rattle.cl_text_grammar.proofs.FormsLie.{acts_lie}
use Rattle.cl_text_grammar.proofs.FormStands.{change_seen, act_under, act_stands, act_called}
use Rattle.cl_text_grammar.proofs.FormJudging.{FormJudged, FormJudges, Answers}
use Rattle.cl_text_grammar.proofs.NameJudging.{name_judged}
use Rattle.cl_text_grammar.proofs.NameJudging as names
use Rattle.cl_text_grammar.proofs.FormsJudged.{RestIs, in_front, name_in_front, OwnAnswers, IsOwn, SightRules, form_judged, data_judged}

module _ (w : Signatures) where
  -- what is read of a statement's own answers to what it sees
  abbrev OwnTells : Names → List Datum → ℕ → FormSight → Load (Own ActTree (Unit {0}) (Unit {0})) → Type 0
  OwnTells env ds at s m = OwnAnswers w env ds at s m

  place_known : (x : List ℕ) (at : ℕ) → Judges w (slot_name x at ∷ []) Any (noted (slot_in w x) at >>= λ u. give x)
  place_known x at = then_given (λ u. x) (slot_judged w x at) λ u i. tt

  place_named : (o : Option (List ℕ)) (n : Datum) (b : Sub) (es : List Datum) (at : ℕ) (env : Names) → JudgedPart w b
      → OwnTells env es at (elim o [ None ↦ Misshapen | Some x ↦ Sees (expressions (slot_name x (offset n) ∷ expression env b.shape ∷ []) ∷ []) ])
      (((elim o [ None ↦ refuse 6 at | Some x ↦ give x ] >>= λ x. noted (slot_in w x) (offset n) >>= λ u. give x) >>= λ x. b.expr env >>= λ t. give (act.Setf x t))
      >>= λ s. give (Whole s))
  place_named None n b es at env k = λ u. refl
  place_named (Some x) n b es at env k =
      in_front (record {
        judged = (then_given (λ s. Whole s)
            (then_part (place_known x (offset n)) λ y i. then_given {Q = Any} (λ t. act.Setf y t) (k.expr env) λ t j. tt) λ s i. refl).judged;
      })

  place_chosen : (b : Bool) (n : Datum) (e : Sub) (es : List Datum) (at : ℕ) (env : Names) → JudgedPart w e
      → OwnTells env es at
      (if b then elim (name_in n) [ None ↦ Misshapen | Some x ↦ Sees (expressions (slot_name x (offset n) ∷ expression env e.shape ∷ []) ∷ []) ] else Misshapen)
      (((if b
      then (elim (name_in n) [ None ↦ refuse 6 at | Some x ↦ give x ] >>= λ x. noted (slot_in w x) (offset n) >>= λ u. give x)
      else refuse 6 at) >>= λ x. e.expr env >>= λ t. give (act.Setf x t)) >>= λ s. give (Whole s))
  place_chosen true n e es at env k = place_named (name_in n) n e es at env k
  place_chosen false n e es at env k = λ u. refl

  place_row : (ds : List Datum) (e : Sub) (es : List Datum) (at : ℕ) (env : Names) → JudgedPart w e
      → OwnTells env es at (place_seen ds env e.shape) ((parse_place w at ds >>= λ x. e.expr env >>= λ t. give (act.Setf x t)) >>= λ s. give (Whole s))
  place_row (s ∷ n ∷ []) e es at env k = place_chosen (bytes_eq (symbol_of s) (codes "slot")) n e es at env k
  place_row [] e es at env k = λ u. refl
  place_row (s ∷ []) e es at env k = λ u. refl
  place_row (s ∷ n ∷ d ∷ ds) e es at env k = λ u. refl

  -- a statement of a name alone
  name_row : (k : NameSpace) (o : Option (List ℕ)) (n : Datum) (f : List ℕ → ActTree) (es : List Datum) (at : ℕ) (env : Names)
      → OwnTells env es at (elim o [ None ↦ Misshapen | Some x ↦ Sees (name_among k x (offset n) ∷ []) ])
      (((elim o [ None ↦ refuse 6 at | Some x ↦ give x ] >>= λ x. noted (is_declared w k x) (offset n) >>= λ u. give x) >>= λ x. give (f x))
      >>= λ s. give (Whole s))
  name_row k None n f es at env = λ u. refl
  name_row k (Some x) n f es at env =
      name_in_front (record {
        judged = (names.then_given w k x (offset n) Any (RestIs {F = ActTree} {O = Unit {0}} {C = Unit {0}} env es []) (λ u. Whole (f x))
            (name_judged w k x (offset n)) λ u i. refl).judged;
      })

  change_row : (c : Change) (h at : ℕ) (ps : List Sub) (env : Names) → JudgedParts w ps
      → OwnTells env (shapes ps) at (change_seen c h env (shapes ps)) (parse_own w (head.Change c) h at ps env)
  change_row change.Setf h at (a ∷ e ∷ []) env k = place_row (parts_of a.shape) e (a.shape ∷ e.shape ∷ []) at env k.1.0
  change_row change.Setf h at [] env k = λ u. refl
  change_row change.Setf h at (a ∷ []) env k = λ u. refl
  change_row change.Setf h at (a ∷ b ∷ c ∷ ps) env k = λ u. refl
  change_row change.Reply h at (a ∷ []) env k =
      in_front (then_given (λ s. Whole s) (then_given {Q = Any} (λ t. act.Reply t) (k.0.expr env) λ t i. tt) λ s i. refl)
  change_row change.Reply h at [] env k = λ u. refl
  change_row change.Reply h at (a ∷ b ∷ ps) env k = λ u. refl
  change_row change.Enable h at (n ∷ []) env k = name_row commands (name_in n.shape) n.shape (λ x. act.Switch x true) (n.shape ∷ []) at env
  change_row change.Enable h at [] env k = λ u. refl
  change_row change.Enable h at (n ∷ b ∷ ps) env k = λ u. refl
  change_row change.Disable h at (n ∷ []) env k = name_row commands (name_in n.shape) n.shape (λ x. act.Switch x false) (n.shape ∷ []) at env
  change_row change.Disable h at [] env k = λ u. refl
  change_row change.Disable h at (n ∷ b ∷ ps) env k = λ u. refl
  change_row change.OpenDialog h at (n ∷ []) env k = name_row dialogs (name_in n.shape) n.shape (λ x. act.OpenDialog x) (n.shape ∷ []) at env
  change_row change.OpenDialog h at [] env k = λ u. refl
  change_row change.OpenDialog h at (n ∷ b ∷ ps) env k = λ u. refl

  own_row : (c : Unit {0}) (j : Head) → IsOwn j → (h at : ℕ) (ps : List Sub) (env : Names) → JudgedParts w ps
      → OwnTells env (shapes ps) at (act_under j h env (shapes ps)) (parse_own w j h at ps env)
  own_row c (head.Change o) i h at ps env k = change_row o h at ps env k
  own_row c (head.Planned p) i h at ps env k = λ u. refl
  own_row c (head.Special s) i h at ps env k = λ u. refl
  own_row c (head.Operator o) i h at ps env k = λ u. refl
  own_row c (head.Figure f) i h at ps env k = λ u. refl
  own_row c (head.Setting s) i h at ps env k = λ u. refl
  own_row c (head.Writing v) i h at ps env k = λ u. refl
  own_row c head.If i h at ps env k = absurd i
  own_row c head.Let i h at ps env k = absurd i
  own_row c (head.Control o) i h at ps env k = absurd i

  abbrev row : List ℕ → ℕ → Names → List Datum → FormSight
  row x = act_row_seen (named x act_rows)

  rules : SightRules statements w row act_under acts_lie
  rules = record {
    stands = λ x k e h env ds. act_stands w x k e h env ds;
    an_if = λ h env ds. refl;
    a_let = λ h env ds. refl;
    a_control = λ c h env ds. refl;
    an_own = own_row;
    a_call = λ x h at ps env e k.
        subst (λ s. Answers act_seen w acts_lie at s (refuse {A = ActTree} 5 h)) (sym (act_called w x e h env (shapes ps))) (λ u. refl);
  }

  pub act_judged : (d : Datum) (env : Names) → FormJudged act_seen w acts_lie env d (parse_act w d env)
  act_judged d env = form_judged statements w row act_under acts_lie rules tt d env

  pub acts_judged : (ds : Datums) (env : Names) → FormJudges act_seen w acts_lie (forms_seen env (in_order ds)) Any (parse_acts w ds env)
  acts_judged ds env = data_judged statements w row act_under acts_lie rules tt ds env
