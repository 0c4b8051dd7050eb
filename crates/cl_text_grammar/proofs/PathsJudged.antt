-- A path is read as what is seen of it tells.
use Rattle.std.proofs.Common.{◌≡◌, ℕ, Bool, true, false, if◌then◌else◌, List, [], ◌∷◌, refl, sym}
use Rattle.std.specs.Prelude.{Option, Some, None, codes}
use Rattle.std.specs.Str.{bytes_eq}
use Rattle.std.proofs.Math.Path.{subst}
use Rattle.cl_syntax.specs.ExprTree.{ExprTree, part, none}
use Rattle.cl_syntax.specs.ExprTree as expr
use Rattle.cl_syntax.specs.declared.operators.Operator.TheVariants.{Record}
use Rattle.cl_syntax.specs.declared.operators.RecordOperator.TheVariants.{Get}
use Rattle.cl_forms.specs.Datum.{Datum, Datums, number, literal, word, quoted, stray, list, item, in_order, offset}
use Rattle.cl_forms.specs.Datum as datum
use Rattle.cl_forms.specs.Naming.{name_in}
use Rattle.cl_forms.specs.Words.{is_name}
use Rattle.cl_words.specs.Heads.{head_named}
use Rattle.cl_words.specs.Signatures.{slot_in}
use Rattle.cl_words.specs.declared.heads.Head.{Head}
use Rattle.cl_words.specs.declared.heads.Head.TheVariants as head
use Rattle.cl_words.specs.declared.heads.Special.TheVariants as special
use Rattle.cl_words.specs.declared.signatures.Signatures.{Signatures}
use Rattle.cl_expressions.specs.Load.{Load, ◌>>=◌, give, refuse, noted}
use Rattle.cl_expressions.specs.Scopes.{Names, among}
use Rattle.cl_expressions.specs.Expressions.{parse_slot, parse_get}
use Rattle.cl_bodies.specs.Paths.{parse_path_head, parse_path_form, parse_path, path_subs, parse_each_path}
use Rattle.cl_grammar.specs.Sights.{Seen, expression, slot_name, refused}
use Rattle.cl_grammar.proofs.Judged.{name_row}
use Rattle.cl_grammar.proofs.Judging.{Any, Judges, then_part, then_given, ended, slot_judged, refused_judged}
use Rattle.cl_grammar.proofs.Spelled.{false_true, same_word, head_stands}
use Rattle.cl_text_grammar.specs.UpdateSights.{slot_path_seen, field_seen, path_row_seen, path_seen, listed_path_seen, first_path_seen, paths_seen}

module _ (w : Signatures) where
  -- the reading comes to what is seen alone
  abbrev Reads : Seen → Load ExprTree → Type 0
  Reads s m = Judges w (s ∷ []) Any m

  -- each of these parts, as a path
  abbrev PathParts : Datums → Type 0
  PathParts datum.none = Unit {0}
  PathParts (item d ds) = ((env : Names) → Reads (path_seen env d) (parse_path w d env)) × PathParts ds

  variable_row : (x : List ℕ) (at : ℕ) (env : Names) (b : Bool) → is_name x ≡ b
      → Reads (if b then expression env (word x at) else refused 6 at)
      (if b then (noted (among x env) at >>= λ u. give (expr.Variable x)) else refuse 6 at)
  variable_row x at env true e = name_row w env x at e
  variable_row x at env false e = refused_judged 6 at λ u. refl

  slot_named : (name : Option (List ℕ)) (at n_at : ℕ)
      → Reads (elim name [ None ↦ refused 6 at | Some x ↦ slot_name x n_at ])
      (elim name [ None ↦ refuse 6 at | Some x ↦ give x ] >>= λ x. noted (slot_in w x) n_at >>= λ u. give (expr.Slot x))
  slot_named None at n_at = refused_judged 6 at λ u. refl
  slot_named (Some x) at n_at = record { judged = (then_given {Q = Any} (λ u. expr.Slot x) (slot_judged w x n_at) λ u i. tt).judged }

  slot_row : (at : ℕ) (ds : Datums) → Reads (slot_path_seen at (in_order ds)) (parse_slot w at (path_subs w ds))
  slot_row at (item n datum.none) = slot_named (name_in n) at (offset n)
  slot_row at datum.none = refused_judged 6 at λ u. refl
  slot_row at (item n (item d ds)) = refused_judged 6 at λ u. refl

  field_named : (name : Option (List ℕ)) (at : ℕ) (s : Seen) (m : Load ExprTree) → Reads s m
      → Reads (elim name [ None ↦ refused 6 at | Some x ↦ s ])
      (elim name [ None ↦ refuse 6 at | Some x ↦ give x ] >>= λ x. m >>= λ t. give (expr.Operation (Record (Get x)) (part t none)))
  field_named None at s m h = refused_judged 6 at λ u. refl
  field_named (Some x) at s m h = record { judged = (then_given {Q = Any} (λ t. expr.Operation (Record (Get x)) (part t none)) h λ t i. tt).judged }

  field_row : (at : ℕ) (ds : Datums) (env : Names) → PathParts ds
      → Reads (field_seen at (in_order ds) (first_path_seen env at ds)) (parse_get at (path_subs w ds) env)
  field_row at (item p (item f datum.none)) env k = field_named (name_in f) at (path_seen env p) (parse_path w p env) (k.0 env)
  field_row at datum.none env k = refused_judged 6 at λ u. refl
  field_row at (item p datum.none) env k = refused_judged 6 at λ u. refl
  field_row at (item p (item f (item d ds))) env k = refused_judged 6 at λ u. refl

  module _ (x : List ℕ) (h at : ℕ) (ds : Datums) (env : Names) (k : PathParts ds) where
    other_row : (o : Option Head) → head_named x ≡ o → bytes_eq x (codes "slot") ≡ false → bytes_eq x (codes "get") ≡ false
        → Reads (refused 5 h) (parse_path_head w o h at (path_subs w ds) env)
    other_row (Some (head.Special special.Slot)) e f g =
        absurd (false_true (sym (subst (λ y. bytes_eq y (codes "slot") ≡ false) (head_stands w x (head.Special special.Slot) e).spelled f)))
    other_row (Some (head.Special special.Get)) e f g =
        absurd (false_true (sym (subst (λ y. bytes_eq y (codes "get") ≡ false) (head_stands w x (head.Special special.Get) e).spelled g)))
    other_row o e f g = refused_judged 5 h λ u. refl

    by_word : (b c : Bool) → bytes_eq x (codes "slot") ≡ b → bytes_eq x (codes "get") ≡ c
        → Reads (if b then slot_path_seen at (in_order ds) else (if c then field_seen at (in_order ds) (first_path_seen env at ds) else refused 5 h))
        (parse_path_head w (head_named x) h at (path_subs w ds) env)
    by_word true c e f =
        subst (λ y. Reads (slot_path_seen at (in_order ds)) (parse_path_head w (head_named y) h at (path_subs w ds) env))
        (sym (same_word x (codes "slot") e)) (slot_row at ds)
    by_word false true e f =
        subst (λ y. Reads (field_seen at (in_order ds) (first_path_seen env at ds)) (parse_path_head w (head_named y) h at (path_subs w ds) env))
        (sym (same_word x (codes "get") f)) (field_row at ds env k)
    by_word false false e f = other_row (head_named x) refl e f

    path_row : Reads (path_row_seen x h at (in_order ds) (first_path_seen env at ds)) (parse_path_head w (head_named x) h at (path_subs w ds) env)
    path_row = by_word (bytes_eq x (codes "slot")) (bytes_eq x (codes "get")) refl refl

  listed_row : (at : ℕ) (ds : Datums) (env : Names) → PathParts ds → Reads (listed_path_seen env at ds) (parse_path_form w at (path_subs w ds) env)
  listed_row at datum.none env k = refused_judged 6 at λ u. refl
  listed_row at (item (word x h) ds) env k = path_row x h at ds env k.1
  listed_row at (item (number z h) ds) env k = refused_judged 6 at λ u. refl
  listed_row at (item (literal s h) ds) env k = refused_judged 6 at λ u. refl
  listed_row at (item (quoted s h name_at) ds) env k = refused_judged 6 at λ u. refl
  listed_row at (item (stray h) ds) env k = refused_judged 6 at λ u. refl
  listed_row at (item (list es h) ds) env k = refused_judged 6 at λ u. refl

  mutual
    path_judged : (d : Datum) (env : Names) → Reads (path_seen env d) (parse_path w d env)
    path_judged (word x at) env = variable_row x at env (is_name x) refl
    path_judged (list ds at) env = listed_row at ds env (parts_judged ds)
    path_judged (number z at) env = refused_judged 6 at λ u. refl
    path_judged (literal s at) env = refused_judged 6 at λ u. refl
    path_judged (quoted s at name_at) env = refused_judged 6 at λ u. refl
    path_judged (stray at) env = refused_judged 6 at λ u. refl

    parts_judged : (ds : Datums) → PathParts ds
    parts_judged datum.none = tt
    parts_judged (item d ds) = (λ env. path_judged d env, parts_judged ds)

  pub paths_judged : (ds : List Datum) (env : Names) → Judges w (paths_seen env ds) Any (parse_each_path w ds env)
  paths_judged [] env = ended tt
  paths_judged (d ∷ ds) env = then_part (path_judged d env) λ t i. then_given (λ ts. t ∷ ts) (paths_judged ds env) λ ts j. tt
