-- Every datum is read as it is to be blamed.
use Rattle.std.proofs.Common.{◌≡◌, ℕ, ◌≤◌, Bool, true, false, if◌then◌else◌, ◌||◌, List, [], ◌∷◌, refl, sym, ap, arith, ◌∙◌}
use Rattle.std.specs.Prelude.{Option, Some, None, codes}
use Rattle.std.specs.Str.{bytes_eq}
use Rattle.std.proofs.Math.Path.{subst}
use Rattle.cl_value.specs.Data as value
use Rattle.cl_syntax.specs.ExprTree.{ExprTree}
use Rattle.cl_syntax.specs.ExprTree as expr
use Rattle.cl_syntax.specs.declared.expressions.Binding.{Binding}
use Rattle.cl_forms.specs.Datum.{Datum, Datums, number, literal, word, quoted, stray, list, none, item, in_order, parts_of}
use Rattle.cl_forms.specs.Naming.{name_in, symbol_of}
use Rattle.cl_forms.specs.Words.{is_name}
use Rattle.cl_words.specs.declared.signatures.Signatures.{Signatures}
use Rattle.cl_expressions.specs.Load.{Load, ◌>>=◌, give, refuse, noted}
use Rattle.cl_expressions.specs.Scopes.{Names, among}
use Rattle.cl_expressions.specs.Expressions.{parse_variable, parse_word, is_binding, are_bindings, is_binding_list, parse_binding_parts, parse_form}
use Rattle.cl_expressions.specs.Expressions.{parse_expression, subs, parse_bindings, parse_each_binding, parse_binding}
use Rattle.cl_grammar.specs.Sights.{expression, names_behind, value_seen, names_bound, values_seen, form_seen}
use Rattle.cl_grammar.specs.Blames.{Blames, is_atom, a_stray_quote, no_atom}
use Rattle.cl_grammar.specs.Unnamed.{Unnamed, UnnamedAny, IsNoted}
use Rattle.cl_grammar.specs.Unnamed as unnamed
use Rattle.cl_grammar.proofs.Bounds.{word_blamed, word_unnamed, stray_blamed}
use Rattle.cl_grammar.proofs.Judging.{Any, Judges, joined, then_given, ended, alone, noted_none, noted_one, Answers, list_judged}
use Rattle.cl_grammar.proofs.Rows.{JudgedParts, form_row}
use Rattle.cl_grammar.proofs.Spelled.{both_parts, false_true, same_word, some_same, nothing_found, name_is}
use Rattle.cl_grammar.proofs.Written.{shapes_subs}

module _ (w : Signatures) where
  -- ---- atoms

  pub unblamed : {A : Type 0} (env : Names) (d : Datum) (x : A) → ((n o : ℕ) → Blames w env d n o → ⊥) → ((o : ℕ) → Unnamed w env d o → ⊥)
      → Judges w (expression env d ∷ []) Any (give x)
  unblamed env d x h k = alone w env d Any (give x) λ from to lie u. (tt, h, noted_none (Unnamed w env d) u.unknown k)

  constant_row : (env : Names) (x : List ℕ) (at : ℕ) (t : ExprTree) → is_atom x ≡ true → is_name x ≡ false
      → Judges w (expression env (word x at) ∷ []) Any (give t)
  constant_row env x at t e f =
      unblamed env (word x at) t (λ n o b. false_true (sym (word_blamed b).0 ∙ e)) (λ o b. false_true (sym f ∙ (word_unnamed b).0))

  known_row : (env : Names) (x : List ℕ) (at : ℕ) (known : Bool) → among x env ≡ known → is_atom x ≡ true → is_name x ≡ true
      → Judges w (expression env (word x at) ∷ []) Any (noted known at >>= λ u. give (expr.Variable x))
  known_row env x at true e f g =
      alone w env (word x at) Any (noted true at >>= λ u. give (expr.Variable x)) λ from to lie u. (
        tt,
        λ n o b. false_true (sym (word_blamed b).0 ∙ f),
        noted_none (Unnamed w env (word x at)) u.unknown (λ o b. false_true (sym (word_unnamed b).1 ∙ e)),
      )
  known_row env x at false e f g =
      alone w env (word x at) Any (noted false at >>= λ u. give (expr.Variable x)) λ from to lie u. (
        tt,
        λ n o b. false_true (sym (word_blamed b).0 ∙ f),
        noted_one (Unnamed w env (word x at)) u.unknown at (unnamed.a_variable g e) (λ o b. (word_unnamed b).2),
      )

  -- a name is no constant
  last_holds : (a b c n : Bool) → n ≡ true → (a || (b || (c || n))) ≡ true
  last_holds true b c n e = refl
  last_holds false true c n e = refl
  last_holds false false true n e = refl
  last_holds false false false n e = e

  pub name_row : (env : Names) (x : List ℕ) (at : ℕ) → is_name x ≡ true
      → Judges w (expression env (word x at) ∷ []) Any (noted (among x env) at >>= λ u. give (expr.Variable x))
  name_row env x at e =
      known_row env x at (among x env) refl (last_holds (bytes_eq x (codes "true")) (bytes_eq x (codes "false")) (bytes_eq x (codes "null")) (is_name x) e) e

  refused_row : (env : Names) (x : List ℕ) (at : ℕ) → is_atom x ≡ false → Judges {A = ExprTree} w (expression env (word x at) ∷ []) Any (refuse 6 at)
  refused_row env x at e =
      alone w env (word x at) Any (refuse 6 at) λ from to lie u. (no_atom e, λ n o b. at_least at o (word_blamed b).2)
    where
      at_least : (at o : ℕ) → o ≡ at → at ≤ o
      at_least at o e = omega (arith, e)

  -- what is left where a word is none of the three constants
  variable_row : (env : Names) (x : List ℕ) (at : ℕ) (name : Bool) → is_name x ≡ name → is_atom x ≡ name
      → Judges w (expression env (word x at) ∷ []) Any (if name then (noted (among x env) at >>= λ u. give (expr.Variable x)) else refuse 6 at)
  variable_row env x at true e f = known_row env x at (among x env) refl f e
  variable_row env x at false e f = refused_row env x at f

  null_row : (env : Names) (x : List ℕ) (at : ℕ) (b : Bool) → bytes_eq x (codes "null") ≡ b → is_atom x ≡ (b || is_name x)
      → Judges w (expression env (word x at) ∷ []) Any (if b then give (expr.Constant value.null) else parse_variable x at env)
  null_row env x at true e f = constant_row env x at (expr.Constant value.null) f (ap is_name (same_word x (codes "null") e))
  null_row env x at false e f = variable_row env x at (is_name x) refl f

  false_row : (env : Names) (x : List ℕ) (at : ℕ) (b : Bool) → bytes_eq x (codes "false") ≡ b
      → is_atom x ≡ (b || (bytes_eq x (codes "null") || is_name x))
      → Judges w (expression env (word x at) ∷ []) Any
      (if b then give (expr.Constant (value.bool false)) else (if bytes_eq x (codes "null") then give (expr.Constant value.null) else parse_variable x at env))
  false_row env x at true e f = constant_row env x at (expr.Constant (value.bool false)) f (ap is_name (same_word x (codes "false") e))
  false_row env x at false e f = null_row env x at (bytes_eq x (codes "null")) refl f

  true_row : (env : Names) (x : List ℕ) (at : ℕ) (b : Bool) → bytes_eq x (codes "true") ≡ b
      → is_atom x ≡ (b || (bytes_eq x (codes "false") || (bytes_eq x (codes "null") || is_name x)))
      → Judges w (expression env (word x at) ∷ []) Any
      (if b then give (expr.Constant (value.bool true))
      else (if bytes_eq x (codes "false") then give (expr.Constant (value.bool false))
      else (if bytes_eq x (codes "null") then give (expr.Constant value.null) else parse_variable x at env)))
  true_row env x at true e f = constant_row env x at (expr.Constant (value.bool true)) f (ap is_name (same_word x (codes "true") e))
  true_row env x at false e f = false_row env x at (bytes_eq x (codes "false")) refl f

  word_row : (env : Names) (x : List ℕ) (at : ℕ) → Judges w (expression env (word x at) ∷ []) Any (parse_word x at env)
  word_row env x at = true_row env x at (bytes_eq x (codes "true")) refl refl

  stray_row : (env : Names) (at : ℕ) → Judges {A = ExprTree} w (expression env (stray at) ∷ []) Any (refuse 6 at)
  stray_row env at = alone w env (stray at) Any (refuse 6 at) λ from to lie u. (a_stray_quote, λ n o b. omega (arith, (stray_blamed b).1))

  -- ---- bindings

  -- what a binding sees, and the names behind it
  abbrev pub JudgedBinding : Names → List Datum → Load Binding → Type 0
  JudgedBinding env ds m = Judges w (value_seen env ds) (λ b. b.name ∷ env ≡ names_behind env ds) m

  binding_named : (at : ℕ) (n e : Datum) (env : Names) (m : Names → Load ExprTree) (o : Option (List ℕ)) → o ≡ Some (symbol_of n)
      → Judges w (expression env e ∷ []) Any (m env)
      → JudgedBinding env (n ∷ e ∷ []) (elim o [ None ↦ refuse 6 at | Some x ↦ give x ] >>= λ x. m env >>= λ t. give (record { name = x; value = t }))
  binding_named at n e env m None h k = absurd (nothing_found h)
  binding_named at n e env m (Some x) h k =
      record { judged = (then_given (λ t. record { name = x; value = t }) k λ t i. ap (λ y. y ∷ env) (some_same h)).judged }

  binding_parts_judged : (ds : Datums) (at : ℕ) (env : Names) → is_binding (in_order ds) ≡ true → JudgedParts w (subs w ds)
      → JudgedBinding env (in_order ds) (parse_binding_parts at (subs w ds) env)
  binding_parts_judged (item n (item e none)) at env h k =
      binding_named at n e env (parse_expression w e) (name_in n) (name_is n h) (k.1.0.expr env)
  binding_parts_judged none at env h k = absurd (false_true h)
  binding_parts_judged (item n none) at env h k = absurd (false_true h)
  binding_parts_judged (item n (item e (item d ds))) at env h k = absurd (false_true h)

  -- ---- every datum

  mutual
    pub expression_judged : (d : Datum) (env : Names) → Judges w (expression env d ∷ []) Any (parse_expression w d env)
    expression_judged (number z at) env = unblamed env (number z at) _ (λ n o b. elim b [ ]) (λ o b. elim b [ ])
    expression_judged (literal s at) env = unblamed env (literal s at) _ (λ n o b. elim b [ ]) (λ o b. elim b [ ])
    expression_judged (quoted x at name_at) env = unblamed env (quoted x at name_at) _ (λ n o b. elim b [ ]) (λ o b. elim b [ ])
    expression_judged (word x at) env = word_row env x at
    expression_judged (stray at) env = stray_row env at
    expression_judged (list ds at) env =
        list_judged w env ds at (parse_form w at (subs w ds) env)
        (subst (λ es. Answers w at (form_seen w env es) (parse_form w at (subs w ds) env)) (shapes_subs w ds) (form_row at (subs w ds) env (parts_judged ds)))

    parts_judged : (ds : Datums) → JudgedParts w (subs w ds)
    parts_judged none = tt
    parts_judged (item d ds) = (
      record { expr = λ env. expression_judged d env; bound = λ at env h. bindings_judged d at env h },
      parts_judged ds,
    )

    pub bindings_judged : (d : Datum) (at : ℕ) (env : Names) → is_binding_list d ≡ true
        → Judges w (values_seen env (parts_of d)) (λ r. r.1 ≡ names_bound env (parts_of d)) (parse_bindings w d at env)
    bindings_judged (list ds list_at) at env h = each_binding_judged ds at env h
    bindings_judged (number z d_at) at env h = absurd (false_true h)
    bindings_judged (literal s d_at) at env h = absurd (false_true h)
    bindings_judged (word s d_at) at env h = absurd (false_true h)
    bindings_judged (quoted s d_at name_at) at env h = absurd (false_true h)
    bindings_judged (stray d_at) at env h = absurd (false_true h)

    each_binding_judged : (ds : Datums) (at : ℕ) (env : Names) → are_bindings (in_order ds) ≡ true
        → Judges w (values_seen env (in_order ds)) (λ r. r.1 ≡ names_bound env (in_order ds)) (parse_each_binding w ds at env)
    each_binding_judged none at env h = ended refl
    each_binding_judged (item d ds) at env h =
        let parts : (is_binding (parts_of d) ≡ true) × (are_bindings (in_order ds) ≡ true) =
        both_parts (is_binding (parts_of d)) (are_bindings (in_order ds)) h in
        joined (value_seen env (parts_of d)) (values_seen (names_behind env (parts_of d)) (in_order ds)) (binding_judged d at env parts.0) λ b i.
        then_given (λ r. (b ∷ r.0, r.1))
        (subst (λ names. Judges w (values_seen names (in_order ds)) (λ r. r.1 ≡ names_bound names (in_order ds)) (parse_each_binding w ds at (b.name ∷ env))) i
        (each_binding_judged ds at (b.name ∷ env) parts.1)) λ r j. j

    pub binding_judged : (d : Datum) (at : ℕ) (env : Names) → is_binding (parts_of d) ≡ true → JudgedBinding env (parts_of d) (parse_binding w d at env)
    binding_judged (list ds list_at) at env h = binding_parts_judged ds at env h (parts_judged ds)
    binding_judged (number z d_at) at env h = absurd (false_true h)
    binding_judged (literal s d_at) at env h = absurd (false_true h)
    binding_judged (word s d_at) at env h = absurd (false_true h)
    binding_judged (quoted s d_at name_at) at env h = absurd (false_true h)
    binding_judged (stray d_at) at env h = absurd (false_true h)
