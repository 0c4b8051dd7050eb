-- An expression answers to what its form sees: a lemma for each row.
use Rattle.std.proofs.Common.{◌≡◌, ℕ, Bool, true, false, if◌then◌else◌, List, [], ◌∷◌, ◌++◌, length, refl, sym, ap, suc}
use Rattle.std.specs.Prelude.{Option, Some, None}
use Rattle.std.proofs.Math.Path.{subst}
use Rattle.cl_syntax.specs.Expr.{bindings_of}
use Rattle.cl_syntax.specs.ExprTree.{ExprTree, expr_trees_of}
use Rattle.cl_syntax.specs.ExprTree as expr
use Rattle.cl_syntax.specs.declared.operators.Operator.TheVariants.{Record}
use Rattle.cl_syntax.specs.declared.operators.RecordOperator.TheVariants.{Make}
use Rattle.cl_table.specs.Names.{named}
use Rattle.cl_forms.specs.Datum.{Datum, number, literal, word, quoted, stray, list, parts_of, offset}
use Rattle.cl_forms.specs.Naming.{fits, name_in}
use Rattle.cl_words.specs.Heads.{head_named, count_of}
use Rattle.cl_words.specs.Signatures.{function_in, record_in}
use Rattle.cl_words.specs.declared.heads.Head.{Head}
use Rattle.cl_words.specs.declared.heads.Head.TheVariants as head
use Rattle.cl_words.specs.declared.heads.Special.{Special}
use Rattle.cl_words.specs.declared.heads.Special.TheVariants as special
use Rattle.cl_words.specs.declared.signatures.Signatures.{Signatures}
use Rattle.cl_expressions.specs.Load.{Load, ◌>>=◌, give, refuse}
use Rattle.cl_expressions.specs.Scopes.{Names}
use Rattle.cl_expressions.specs.Expressions.{Sub, named_part, parse_each, parse_slot, parse_make_fields, parse_make, parse_get, parse_with, parse_if}
use Rattle.cl_expressions.specs.Expressions.{parse_and, parse_or, parse_call_counted, parse_map, parse_filter, parse_fold, is_binding_list, parse_let}
use Rattle.cl_expressions.specs.Expressions.{parse_special, parse_head, parse_headed, parse_form}
use Rattle.cl_grammar.specs.Sights.{Seen, expression, Sight, Misshapen, Sees, all_seen, counted_seen, where_named, slot_seen, if_seen, names_bound}
use Rattle.cl_grammar.specs.Sights.{values_seen, let_seen, and_seen, or_seen, fields_seen, make_seen, get_seen, with_seen, map_seen, filter_seen}
use Rattle.cl_grammar.specs.Sights.{fold_seen, call_seen, rows, row_seen, headed_seen, form_seen}
use Rattle.cl_grammar.proofs.Judging.{Any, Judges, joined, then_part, then_given, ended, slot_judged, record_judged, Answers, misshapen, unknown_head, sees}
use Rattle.cl_grammar.proofs.Spelled.{row_of, seen_under, head_stands, call_stands}
use Rattle.cl_grammar.proofs.Written.{shapes}

-- a part answers as an expression and as bindings
pub record JudgedPart (w : Signatures) (p : Sub) : Type 0 where
  pub expr : (env : Names) → Judges w (expression env p.shape ∷ []) Any (p.expr env)
  pub bound : (at : ℕ) (env : Names) → is_binding_list p.shape ≡ true
      → Judges w (values_seen env (parts_of p.shape)) (λ r. r.1 ≡ names_bound env (parts_of p.shape)) (p.bound at env)

abbrev pub JudgedParts : Signatures → List Sub → Type 0
JudgedParts w [] = Unit {0}
JudgedParts w (p ∷ ps) = JudgedPart w p × JudgedParts w ps

pub length_shapes : (ps : List Sub) → length ps ≡ length (shapes ps)
length_shapes [] = refl
length_shapes (p ∷ ps) = ap suc (length_shapes ps)

module _ {w : Signatures} where
  pub each_judged : (ps : List Sub) (env : Names) → JudgedParts w ps → Judges w (all_seen env (shapes ps)) Any (parse_each ps env)
  each_judged [] env k = ended tt
  each_judged (p ∷ ps) env k = then_part (k.0.expr env) λ t i. then_given (λ ts. t ∷ ts) (each_judged ps env k.1) λ ts j. tt

  -- all parts are read, and an expression made of them
  all_judged : (ps : List Sub) (env : Names) (g : List ExprTree → ExprTree) → JudgedParts w ps
      → Judges w (all_seen env (shapes ps)) Any (parse_each ps env >>= λ ts. give (g ts))
  all_judged ps env g k = then_given g (each_judged ps env k) λ ts j. tt

  when_judged : {at : ℕ} {seen : List Seen} {m : Load ExprTree} (b : Bool) → Judges w seen Any m
      → Answers w at (if b then Sees seen else Misshapen) (if b then m else refuse 6 at)
  when_judged true h = sees h
  when_judged false h = misshapen

  counted_judged : (count : Option ℕ) (at : ℕ) (ps : List Sub) (env : Names) (g : List ExprTree → ExprTree) → JudgedParts w ps
      → Answers w at (counted_seen count env (shapes ps)) (if fits count (length ps) then (parse_each ps env >>= λ ts. give (g ts)) else refuse 6 at)
  counted_judged count at ps env g k =
      subst (λ n. Answers w at (counted_seen count env (shapes ps)) (if fits count n then (parse_each ps env >>= λ ts. give (g ts)) else refuse 6 at))
      (sym (length_shapes ps)) (when_judged (fits count (length (shapes ps))) (all_judged ps env g k))

  name_judged : {A : Type 0} {at : ℕ} (name : Option (List ℕ)) (seen : List ℕ → Sight) (f : List ℕ → Load A)
      → ((x : List ℕ) → Answers w at (seen x) (f x))
      → Answers w at (elim name [ None ↦ Misshapen | Some x ↦ seen x ]) (elim name [ None ↦ refuse 6 at | Some x ↦ give x ] >>= f)
  name_judged None seen f h = record { answers = λ u. refl }
  name_judged (Some x) seen f h = record { answers = (h x).answers }

  asks_name : {A : Type 0} {at : ℕ} (n : Datum) (seen : List ℕ → Sight) (f : List ℕ → Load A) → ((x : List ℕ) → Answers w at (seen x) (f x))
      → Answers w at (where_named n seen) (named_part at n >>= f)
  asks_name n seen f h = name_judged (name_in n) seen f h

  -- ---- rows

  slot_row : (at : ℕ) (ps : List Sub) (env : Names) → Answers w at (slot_seen env (shapes ps)) (parse_slot w at ps)
  slot_row at (n ∷ []) env = asks_name n.shape _ _ λ x. sees (then_given (λ u. expr.Slot x) (slot_judged w x (offset n.shape)) λ u i. tt)
  slot_row at ps env = misshapen

  if_row : (at : ℕ) (ps : List Sub) (env : Names) → JudgedParts w ps → Answers w at (if_seen env (shapes ps)) (parse_if at ps env)
  if_row at (a ∷ b ∷ c ∷ []) env k =
      sees (then_part (k.0.expr env) λ t i. then_part (k.1.0.expr env) λ u j. then_part (k.1.1.0.expr env) λ v l. ended tt)
  if_row at ps env k = misshapen

  let_bound : (at : ℕ) (bs b : Sub) (env : Names) (c : Bool) → is_binding_list bs.shape ≡ c → JudgedPart w bs → JudgedPart w b
      → Answers w at
      (if c then Sees (values_seen env (parts_of bs.shape) ++ expression (names_bound env (parts_of bs.shape)) b.shape ∷ []) else Misshapen)
      (if c then (bs.bound at env >>= λ r. b.expr r.1 >>= λ t. give (expr.Let (bindings_of r.0) t)) else refuse 6 at)
  let_bound at bs b env true e k l =
      sees
      (joined (values_seen env (parts_of bs.shape)) (expression (names_bound env (parts_of bs.shape)) b.shape ∷ []) (k.bound at env e) λ r i.
      subst (λ names. Judges w (expression names b.shape ∷ []) Any (b.expr r.1 >>= λ t. give (expr.Let (bindings_of r.0) t))) i
      (then_part (l.expr r.1) λ t j. ended tt))
  let_bound at bs b env false e k l = misshapen

  let_row : (at : ℕ) (ps : List Sub) (env : Names) → JudgedParts w ps → Answers w at (let_seen env (shapes ps)) (parse_let at ps env)
  let_row at (bs ∷ b ∷ []) env k = let_bound at bs b env (is_binding_list bs.shape) refl k.0 k.1.0
  let_row at ps env k = misshapen

  and_row : (at : ℕ) (ps : List Sub) (env : Names) → JudgedParts w ps → Answers w at (and_seen env (shapes ps)) (parse_and ps env)
  and_row at ps env k = sees (all_judged ps env (λ ts. expr.And (expr_trees_of ts)) k)

  or_row : (at : ℕ) (ps : List Sub) (env : Names) → JudgedParts w ps → Answers w at (or_seen env (shapes ps)) (parse_or ps env)
  or_row at ps env k = sees (all_judged ps env (λ ts. expr.Or (expr_trees_of ts)) k)

  fields_row : (c : Option (Option ℕ)) (x : List ℕ) (name_at at : ℕ) (ps : List Sub) (env : Names) → record_in w x ≡ c → JudgedParts w ps
      → Answers w at (fields_seen c x name_at env (shapes ps)) (parse_make_fields c x name_at at ps env)
  fields_row None x name_at at ps env e k =
      sees (then_part (record_judged w x name_at e) λ u i. all_judged ps env (λ ts. expr.Operation (Record (Make x)) (expr_trees_of ts)) k)
  fields_row (Some count) x name_at at ps env e k = counted_judged count at ps env _ k

  make_row : (at : ℕ) (ps : List Sub) (env : Names) → JudgedParts w ps → Answers w at (make_seen w env (shapes ps)) (parse_make w at ps env)
  make_row at [] env k = misshapen
  make_row at (n ∷ ps) env k = asks_name n.shape _ _ λ x. fields_row (record_in w x) x (offset n.shape) at ps env refl k.1

  get_row : (at : ℕ) (ps : List Sub) (env : Names) → JudgedParts w ps → Answers w at (get_seen env (shapes ps)) (parse_get at ps env)
  get_row at (a ∷ f ∷ []) env k = asks_name f.shape _ _ λ x. sees (then_part (k.0.expr env) λ t i. ended tt)
  get_row at ps env k = misshapen

  with_row : (at : ℕ) (ps : List Sub) (env : Names) → JudgedParts w ps → Answers w at (with_seen env (shapes ps)) (parse_with at ps env)
  with_row at (a ∷ f ∷ b ∷ []) env k =
      asks_name f.shape _ _ λ x. sees (then_part (k.0.expr env) λ t i. then_part (k.1.1.0.expr env) λ u j. ended tt)
  with_row at ps env k = misshapen

  map_row : (at : ℕ) (ps : List Sub) (env : Names) → JudgedParts w ps → Answers w at (map_seen env (shapes ps)) (parse_map at ps env)
  map_row at (n ∷ a ∷ b ∷ []) env k =
      asks_name n.shape _ _ λ x. sees (then_part (k.1.0.expr env) λ t i. then_part (k.1.1.0.expr (x ∷ env)) λ u j. ended tt)
  map_row at ps env k = misshapen

  filter_row : (at : ℕ) (ps : List Sub) (env : Names) → JudgedParts w ps → Answers w at (filter_seen env (shapes ps)) (parse_filter at ps env)
  filter_row at (n ∷ a ∷ b ∷ []) env k =
      asks_name n.shape _ _ λ x. sees (then_part (k.1.0.expr env) λ t i. then_part (k.1.1.0.expr (x ∷ env)) λ u j. ended tt)
  filter_row at ps env k = misshapen

  fold_row : (at : ℕ) (ps : List Sub) (env : Names) → JudgedParts w ps → Answers w at (fold_seen env (shapes ps)) (parse_fold at ps env)
  fold_row at (n ∷ a ∷ m ∷ b ∷ c ∷ []) env k =
      asks_name n.shape _ _ λ x. asks_name m.shape _ _ λ y.
      sees (then_part (k.1.0.expr env) λ t i. then_part (k.1.1.1.0.expr env) λ u j. then_part (k.1.1.1.1.0.expr (y ∷ x ∷ env)) λ v l. ended tt)
  fold_row at ps env k = misshapen

  call_row : (c : Option (Option ℕ)) (x : List ℕ) (head_at at : ℕ) (ps : List Sub) (env : Names) → JudgedParts w ps
      → Answers w at (call_seen c head_at env (shapes ps)) (parse_call_counted c x head_at at ps env)
  call_row None x head_at at ps env k = unknown_head
  call_row (Some count) x head_at at ps env k = counted_judged count at ps env _ k

  -- ---- forms by their heads

  special_row : (s : Special) (at : ℕ) (ps : List Sub) (env : Names) → JudgedParts w ps
      → Answers w at (row_of w s env (shapes ps)) (parse_special w s at ps env)
  special_row special.Slot at ps env k = slot_row at ps env
  special_row special.And at ps env k = and_row at ps env k
  special_row special.Or at ps env k = or_row at ps env k
  special_row special.Make at ps env k = make_row at ps env k
  special_row special.Get at ps env k = get_row at ps env k
  special_row special.With at ps env k = with_row at ps env k
  special_row special.Map at ps env k = map_row at ps env k
  special_row special.Filter at ps env k = filter_row at ps env k
  special_row special.Fold at ps env k = fold_row at ps env k

  under_row : (h : Head) (x : List ℕ) (head_at at : ℕ) (ps : List Sub) (env : Names) → JudgedParts w ps
      → Answers w at (seen_under w h head_at env (shapes ps)) (parse_head w (Some h) x head_at at ps env)
  under_row head.If x head_at at ps env k = if_row at ps env k
  under_row head.Let x head_at at ps env k = let_row at ps env k
  under_row (head.Special s) x head_at at ps env k = special_row s at ps env k
  under_row (head.Operator o) x head_at at ps env k = counted_judged (count_of o) at ps env _ k
  under_row (head.Control c) x head_at at ps env k = unknown_head
  under_row (head.Figure f) x head_at at ps env k = unknown_head
  under_row (head.Setting s) x head_at at ps env k = unknown_head
  under_row (head.Writing v) x head_at at ps env k = unknown_head
  under_row (head.Change c) x head_at at ps env k = unknown_head
  under_row (head.Planned p) x head_at at ps env k = unknown_head

  head_row : (h : Option Head) (x : List ℕ) (head_at at : ℕ) (ps : List Sub) (env : Names) → head_named x ≡ h → JudgedParts w ps
      → Answers w at (row_seen w (named x (rows w)) x head_at env (shapes ps)) (parse_head w h x head_at at ps env)
  head_row (Some h) x head_at at ps env e k =
      subst (λ s. Answers w at s (parse_head w (Some h) x head_at at ps env)) (sym ((head_stands w x h e).seen head_at env (shapes ps)))
      (under_row h x head_at at ps env k)
  head_row None x head_at at ps env e k =
      subst (λ s. Answers w at s (parse_call_counted (function_in w x) x head_at at ps env)) (sym (call_stands w x head_at env (shapes ps) e))
      (call_row (function_in w x) x head_at at ps env k)

  headed_row : (d : Datum) (at : ℕ) (ps : List Sub) (env : Names) → JudgedParts w ps
      → Answers w at (headed_seen w env d (shapes ps)) (parse_headed w d at ps env)
  headed_row (word x head_at) at ps env k = head_row (head_named x) x head_at at ps env refl k
  headed_row (number z head_at) at ps env k = misshapen
  headed_row (literal s head_at) at ps env k = misshapen
  headed_row (quoted s head_at name_at) at ps env k = misshapen
  headed_row (stray head_at) at ps env k = misshapen
  headed_row (list ds head_at) at ps env k = misshapen

  pub form_row : (at : ℕ) (ps : List Sub) (env : Names) → JudgedParts w ps → Answers w at (form_seen w env (shapes ps)) (parse_form w at ps env)
  form_row at [] env k = misshapen
  form_row at (p ∷ ps) env k = headed_row p.shape at ps env k.1
