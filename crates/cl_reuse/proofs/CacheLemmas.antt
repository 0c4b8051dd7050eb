-- What a cache comes to are the values at the paths that it lists.
use Rattle.std.proofs.Common.{◌≡◌, ◌∙◌, ap, sym, subst, refl, ℕ, zero, suc, ◌+◌, List, [], ◌∷◌, ◌++◌, append_assoc, append-nil, Option, Some, None}
use Rattle.std.specs.Prelude.{IfSome}
use Rattle.cl_value.specs.Data.{Data, int, bool, text, symbol, null, list, rec}
use Rattle.cl_syntax.specs.ExprTree as expr
use Rattle.cl_syntax.specs.ExprTree.{ExprTree, ExprTrees, none, part}
use Rattle.cl_syntax.specs.Paths.{Along}
use Rattle.cl_syntax.specs.declared.operators.Operator.TheVariants as operator
use Rattle.cl_syntax.specs.declared.operators.RecordOperator.TheVariants as fields
use Rattle.cl_syntax.specs.declared.paths.Path.{Path}
use Rattle.cl_syntax.specs.declared.paths.Root.TheVariants as root
use Rattle.cl_application.specs.declared.applications.App.{App}
use Rattle.cl_cover.specs.Listed.{path_along}
use Rattle.cl_eval.specs.Meaning.{Go, each, entering, means, parts}
use Rattle.cl_eval.specs.Operators as operators
use Rattle.cl_eval.specs.Operators.{list_of, operate, or_trap}
use Rattle.cl_eval.specs.Outcome.{Gives, Outcome, Run, Traps, after, give, lift}
use Rattle.cl_eval.specs.PathValues.{dig, field_of, part_at_place, value_at}
use Rattle.cl_eval.specs.Slots.{Env, Slots, value_named}
use Rattle.cl_eval.proofs.LimitLemmas.{never}
use Rattle.cl_display.specs.Updates.{cache_of}
use Rattle.cl_reuse.specs.Sited.{HoldCache, HoldsValue}

-- a run that comes to this value from somewhere
pub record Comes {A : Type 0} (m : Run A) (v : A) (n l : ℕ) : Type 0 where
  pub cost : ℕ
  pub deepest : ℕ
  pub is : m cost deepest ≡ Gives v n l

pub behind-entering : {A : Type 0} (o : Outcome (Unit {0})) (m : Run A) (v : A) (n l : ℕ) → after o (λ _. m) ≡ Gives v n l → Comes m v n l
behind-entering (Gives x i j) m v n l p = record { cost = i; deepest = j; is = p }
behind-entering (Traps k i j) m v n l p = cc

there-is : (o : Option Data) (i j : ℕ) (d : Data) (n l : ℕ) → lift (or_trap 1 o) i j ≡ Gives d n l → o ≡ Some d
there-is None i j d n l p = cc
there-is (Some e) i j d n l p =
    let same : e ≡ d = cc in
    ap (λ (x : Data). Some x) same

none-some : (p : Path) → ◌≡◌ {A = Option Path} None (Some p) → ⊥
none-some p e = cc

some-is : (q p : Path) → ◌≡◌ {A = Option Path} (Some q) (Some p) → q ≡ p
some-is q p e = cc

placed_trap : (o : Option ℕ) (ds : List Data) → operators.value_at o ds ≡ or_trap 1 (part_at_place o ds)
placed_trap None ds = refl
placed_trap (Some n) ds = refl

module _ (app : App) (slots : Slots) (env : Env) where
  got : (f : List ℕ) (d : Data) → operate app (operator.Record (fields.Get f)) (d ∷ []) ≡ or_trap 1 (field_of app f d)
  got f (int z) = refl
  got f (bool b) = refl
  got f (text s) = refl
  got f (symbol s) = refl
  got f null = refl
  got f (list ds) = refl
  got f (rec r ds) = placed_trap _ (list_of ds)

  -- a field of a part that came to a value
  field-got : (f : List ℕ) (o : Outcome Data) (d : Data) (n l : ℕ)
      → after (after o (λ r. give (r ∷ []))) (λ ds. lift (operate app (operator.Record (fields.Get f)) ds)) ≡ Gives d n l
      → (along : Along) (x : Option Data) → ((r : Data) (i j : ℕ) → o ≡ Gives r i j → x ≡ dig app (f ∷ along) (Some r)) → x ≡ dig app along (Some d)
  field-got f (Gives r i j) d n l p along x h =
      let field : field_of app f r ≡ Some d = there-is (field_of app f r) i j d n l ((λ k. lift (sym (got f r) k) i j) ∙ p) in
      h r i j refl ∙ ap (λ (o : Option Data). dig app along o) field
  field-got f (Traps k i j) d n l p along x h = cc

  -- what a path comes to, with these fields taken of it
  path-is : (left budget level : ℕ) (along : Along) (t : ExprTree) (p : Path) → path_along along t ≡ Some p → (c k : ℕ) (d : Data) (n l : ℕ)
      → means left budget app slots level env t c k ≡ Gives d n l → value_at app p slots env ≡ dig app along (Some d)
  path-is zero budget level along t p e c k d n l g = absurd (never (entering 0 budget level c k) d n l g)
  path-is (suc left) budget level along (expr.Variable x) p e c k d n l g =
      let came = behind-entering (entering (suc left) budget level c k) (parts app slots (means left budget app slots) (level + 1) env
      (expr.Variable x)) d n l g in
      let value = there-is (value_named x env) came.cost came.deepest d n l came.is in
      subst (λ (q : Path). value_at app q slots env ≡ dig app along (Some d)) (some-is (record { root = root.Variable x; fields = along }) p e)
      (ap (λ (o : Option Data). dig app along o) value)
  path-is (suc left) budget level along (expr.Slot x) p e c k d n l g =
      let came = behind-entering (entering (suc left) budget level c k) (parts app slots (means left budget app slots) (level + 1) env (expr.Slot x)) d n l g in
      let value = there-is (value_named x slots) came.cost came.deepest d n l came.is in
      subst (λ (q : Path). value_at app q slots env ≡ dig app along (Some d)) (some-is (record { root = root.Slot x; fields = along }) p e)
      (ap (λ (o : Option Data). dig app along o) value)
  path-is (suc left) budget level along (expr.Operation (operator.Record (fields.Get f)) (part t none)) p e c k d n l g =
      let came = behind-entering (entering (suc left) budget level c k)
      (parts app slots (means left budget app slots) (level + 1) env (expr.Operation (operator.Record (fields.Get f)) (part t none))) d n l g in
      field-got f (means left budget app slots (level + 1) env t came.cost came.deepest) d n l came.is along (value_at app p slots env)
      (λ r i j is. path-is left budget (level + 1) (f ∷ along) t p e came.cost came.deepest r i j is)
  path-is (suc left) budget level along (expr.Operation (operator.Record (fields.Get f)) none) p e c k d n l g = absurd (none-some p e)
  path-is (suc left) budget level along (expr.Operation (operator.Record (fields.Get f)) (part t (part u ts))) p e c k d n l g = absurd (none-some p e)
  path-is (suc left) budget level along (expr.Operation (operator.Record (fields.Make f)) ts) p e c k d n l g = absurd (none-some p e)
  path-is (suc left) budget level along (expr.Operation (operator.Record (fields.With f)) ts) p e c k d n l g = absurd (none-some p e)
  path-is (suc left) budget level along (expr.Operation (operator.Arithmetic a) ts) p e c k d n l g = absurd (none-some p e)
  path-is (suc left) budget level along (expr.Operation (operator.Comparison a) ts) p e c k d n l g = absurd (none-some p e)
  path-is (suc left) budget level along (expr.Operation (operator.List a) ts) p e c k d n l g = absurd (none-some p e)
  path-is (suc left) budget level along (expr.Operation (operator.Text a) ts) p e c k d n l g = absurd (none-some p e)
  path-is (suc left) budget level along (expr.Operation operator.Not ts) p e c k d n l g = absurd (none-some p e)
  path-is (suc left) budget level along (expr.Operation operator.Equal ts) p e c k d n l g = absurd (none-some p e)
  path-is (suc left) budget level along (expr.Operation operator.Length ts) p e c k d n l g = absurd (none-some p e)
  path-is (suc left) budget level along (expr.Operation operator.IsNull ts) p e c k d n l g = absurd (none-some p e)
  path-is (suc left) budget level along (expr.Constant x) p e c k d n l g = absurd (none-some p e)
  path-is (suc left) budget level along (expr.If t u v) p e c k d n l g = absurd (none-some p e)
  path-is (suc left) budget level along (expr.Let bs t) p e c k d n l g = absurd (none-some p e)
  path-is (suc left) budget level along (expr.And ts) p e c k d n l g = absurd (none-some p e)
  path-is (suc left) budget level along (expr.Or ts) p e c k d n l g = absurd (none-some p e)
  path-is (suc left) budget level along (expr.Map x t body) p e c k d n l g = absurd (none-some p e)
  path-is (suc left) budget level along (expr.Filter x t body) p e c k d n l g = absurd (none-some p e)
  path-is (suc left) budget level along (expr.Fold x t a opening body) p e c k d n l g = absurd (none-some p e)
  path-is (suc left) budget level along (expr.Call f ts) p e c k d n l g = absurd (none-some p e)

  holds-one : (o : Option Path) (d : Data) → ((p : Path) → o ≡ Some p → value_at app p slots env ≡ Some d) → HoldsValue app slots env o d
  holds-one None d h = tt
  holds-one (Some p) d h = h p refl

  -- the values of what is listed, behind those that are there
  pub record Listed (ts : ExprTrees) (ds es : List Data) : Type 0 where
    pub own : List Data
    pub is : es ≡ ds ++ own
    pub hold : HoldCache app slots env ts own

  module _ (left budget level : ℕ) where
    -- the meaning of the expressions there
    abbrev pub go : Go
    go = means left budget app slots

    listed-then : (t : ExprTree) (ts : ExprTrees) (ds : List Data) (c k : ℕ) (o : Outcome Data) → go level env t c k ≡ o → (es : List Data) (n l : ℕ)
        → after o (λ d. each go level env ts (ds ++ d ∷ [])) ≡ Gives es n l
        → ((d : Data) (i j : ℕ) → each go level env ts (ds ++ d ∷ []) i j ≡ Gives es n l → Listed ts (ds ++ d ∷ []) es) → Listed (part t ts) ds es
    listed-then t ts ds c k (Gives d i j) q es n l p h =
        let rest = h d i j p in
        record {
          own = d ∷ rest.own;
          is = rest.is ∙ append_assoc ds (d ∷ []) rest.own;
          hold = (holds-one (path_along [] t) d (λ path e. path-is left budget level [] t path e c k d i j q), rest.hold);
        }
    listed-then t ts ds c k (Traps kind i j) q es n l p h = cc

    listed : (ts : ExprTrees) (ds : List Data) (c k : ℕ) (es : List Data) (n l : ℕ) → each go level env ts ds c k ≡ Gives es n l → Listed ts ds es
    listed none ds c k es n l p =
        let same : ds ≡ es = cc in
        record { own = []; is = sym same ∙ sym (append-nil ds); hold = tt }
    listed (part t ts) ds c k es n l p =
        listed-then t ts ds c k (go level env t c k) refl es n l p (λ d i j q. listed ts (ds ++ d ∷ []) i j es n l q)

    -- a cache that came to values
    pub cache-holds : (u : Option ExprTrees) (c k : ℕ) (cache : Option (List Data)) (n l : ℕ) → cache_of go level env u c k ≡ Gives cache n l
        → (ts : ExprTrees) → u ≡ Some ts → IfSome cache (HoldCache app slots env ts)
    cache-holds None c k cache n l p ts e = cc
    cache-holds (Some us) c k cache n l p ts e =
        let same : us ≡ ts = cc in
        subst (λ (ws : ExprTrees). IfSome cache (HoldCache app slots env ws)) same (some-holds us c k (each go level env us [] c k) refl cache n l p)
      where
        some-holds : (ws : ExprTrees) (i j : ℕ) (o : Outcome (List Data)) → each go level env ws [] i j ≡ o → (cache : Option (List Data)) (n l : ℕ)
            → after o (λ ds. give (Some ds)) ≡ Gives cache n l → IfSome cache (HoldCache app slots env ws)
        some-holds ws i j (Gives ds a b) q cache n l p =
            let whole = listed ws [] i j ds a b q in
            let same : Some ds ≡ cache = cc in
            subst (λ (o : Option (List Data)). IfSome o (HoldCache app slots env ws)) same
            (subst (λ (es : List Data). HoldCache app slots env ws es) (sym whole.is) whole.hold)
        some-holds ws i j (Traps kind a b) q cache n l p = cc
