-- An expression comes to the same where the paths that it reads have the same values.
use Rattle.std.proofs.Common.{◌≡◌, ℕ, zero, suc, ◌+◌, ◌==◌, Bool, true, false, if◌then◌else◌, inl, inr, List, [], ◌∷◌, ◌++◌, length, Option, Some, None, refl, sym, ◌∙◌}
use Rattle.cl_value.specs.Data.{Data, int, bool, text, symbol, null, list, rec, items_of}
use Rattle.cl_syntax.specs.ExprTree as expr
use Rattle.cl_syntax.specs.ExprTree.{ExprTree, ExprTrees, Bindings, none, part, unbound, binding}
use Rattle.cl_syntax.specs.declared.operators.Operator.{Operator}
use Rattle.cl_syntax.specs.declared.operators.Operator.TheVariants as operator
use Rattle.cl_syntax.specs.declared.operators.RecordOperator.TheVariants as fields
use Rattle.cl_application.specs.App.{function_named}
use Rattle.cl_application.specs.declared.applications.App.{App}
use Rattle.cl_application.specs.declared.declarations.FunctionDecl.{FunctionDecl}
use Rattle.cl_eval.specs.Outcome.{Outcome, Gives, Traps, Run, give, trap, lift, after, ◌>>=◌}
use Rattle.cl_eval.specs.Slots.{Slots, Env, is_name, value_named, bind_parameters}
use Rattle.cl_eval.specs.Operators as operators
use Rattle.cl_eval.specs.Operators.{within_limits, or_trap, truth, elements, operate, list_of}
use Rattle.cl_eval.specs.Meaning.{Go, entering, truth_of, parts_of_list, each, every, some, bind_each, let_in, operation_on}
use Rattle.cl_eval.specs.Meaning.{map_each, filter_each, fold_each, call_function, parts, means}
use Rattle.cl_syntax.specs.Paths.{Along}
use Rattle.cl_eval.specs.PathValues.{dig, field_of, part_at_place, root_value, value_at}
use Rattle.cl_eval.specs.ReadPaths.{Apart, ApartAll, InFunction, IsSlot, Reads, ReadsAmong, ReadsBound, Within, operand_fields}
use Rattle.cl_syntax.specs.declared.paths.Path.{Path}
use Rattle.cl_syntax.specs.declared.paths.Root.{Root}
use Rattle.cl_syntax.specs.declared.paths.Root.TheVariants as root

after-after : {A B C : Type 0} (o : Outcome A) (f : A → Run B) (h : B → Run C) → after (after o f) h ≡ after o (λ x. f x >>= h)
after-after (Gives x c d) f h = refl
after-after (Traps k c d) f h = refl

assoc : {A B C : Type 0} (m : Run A) (f : A → Run B) (h : B → Run C) → ((m >>= f) >>= h) ≡ (m >>= λ x. f x >>= h)
assoc m f h = λ i c d. after-after (m c d) f h i

-- the first binding, and the rest behind its value
let_in-binding : (go : Go) (level : ℕ) (x : List ℕ) (u : ExprTree) (bs : Bindings) (t : ExprTree) (e : Env)
    → let_in go level (binding x u bs) t e ≡ (go level e u >>= λ d. let_in go level bs t ((x, d) ∷ e))
let_in-binding go level x u bs t e = λ i c d. after-after (go level e u c d) (λ v. bind_each go level bs ((x, v) ∷ e)) (λ inner. go level inner t) i

module _ (app : App) where
  dig-none : (along : Along) → dig app along None ≡ None
  dig-none [] = refl
  dig-none (f ∷ along) = dig-none along

  -- a value, and then these fields of it
  abbrev pub dug : Along → Data → Run Data
  dug along d = lift (or_trap 1 (dig app along (Some d)))

  dug-or_trap : (along : Along) (o : Option Data) → (lift (or_trap 1 o) >>= dug along) ≡ lift (or_trap 1 (dig app along o))
  dug-or_trap along None = λ i. lift (or_trap 1 (sym (dig-none along) i))
  dug-or_trap along (Some d) = refl

  after-give : (o : Outcome Data) → after o (dug []) ≡ o
  after-give (Gives d c k) = refl
  after-give (Traps kind c k) = refl

  whole : (m : Run Data) → (m >>= dug []) ≡ m
  whole m = λ i c d. after-give (m c d) i

  placed_trap : (o : Option ℕ) (ds : List Data) → operators.value_at o ds ≡ or_trap 1 (part_at_place o ds)
  placed_trap None ds = refl
  placed_trap (Some n) ds = refl

  got : (f : List ℕ) (d : Data) → operate app (operator.Record (fields.Get f)) (d ∷ []) ≡ or_trap 1 (field_of app f d)
  got f (int z) = refl
  got f (bool b) = refl
  got f (text s) = refl
  got f (symbol s) = refl
  got f null = refl
  got f (list ds) = refl
  got f (rec r ds) = placed_trap _ (list_of ds)

  got-after : (f : List ℕ) (along : Along) (o : Outcome Data)
      → after (after (after o (λ d. give (d ∷ []))) (λ ds. lift (operate app (operator.Record (fields.Get f)) ds))) (dug along) ≡ after o (dug (f ∷ along))
  got-after f along (Gives d c k) = λ i. ((λ j. lift (got f d j) >>= dug along) ∙ dug-or_trap along (field_of app f d)) i c k
  got-after f along (Traps kind c k) = refl

  -- a field of one part
  one_field : (go : Go) (level : ℕ) (e : Env) (f : List ℕ) (along : Along) (t : ExprTree)
      → (operation_on app go level e (operator.Record (fields.Get f)) (part t none) >>= dug along) ≡ (go level e t >>= dug (f ∷ along))
  one_field go level e f along t = λ i c k. got-after f along (go level e t c k) i

module _ (app : App) (s s' : Slots) where
  -- the same values at these paths, each read through so many calls
  abbrev pub On : (Path → ℕ → Type 0) → Env → Env → Type 0
  On P e e' = (p : Path) (n : ℕ) → P p n → value_at app p s e ≡ value_at app p s' e'

  abbrev pub In : Along → ExprTree → Path → ℕ → Type 0
  In along t p n = Reads (Within n app p) p along t

  abbrev pub InAll : Along → ExprTrees → Path → ℕ → Type 0
  InAll along ts p n = ReadsAmong (Within n app p) p along ts

  abbrev pub InBound : Bindings → Path → ℕ → Type 0
  InBound bs p n = ReadsBound (Within n app p) p bs

  abbrev pub InBody : Bindings → ExprTree → Path → ℕ → Type 0
  InBody bs t p n = ApartAll bs p.root × Reads (Within n app p) p [] t

  abbrev pub Behind : List ℕ → (Path → ℕ → Type 0) → Path → ℕ → Type 0
  Behind x P p n = Apart x p.root × P p n

  -- where a binding does not hide it
  hidden : (along : Along) (b : Bool) (d : Data) (o o' : Option Data) → (b ≡ false → dig app along o ≡ dig app along o')
      → dig app along (if b then Some d else o) ≡ dig app along (if b then Some d else o')
  hidden along true d o o' same = refl
  hidden along false d o o' same = same refl

  behind_root : (r : Root) (along : Along) (x : List ℕ) (d : Data) (e e' : Env) → (Apart x r → dig app along (root_value r s e) ≡ dig app along (root_value r s' e'))
      → dig app along (root_value r s ((x, d) ∷ e)) ≡ dig app along (root_value r s' ((x, d) ∷ e'))
  behind_root (root.Variable y) along x d e e' a = hidden along (is_name x y) d (value_named y e) (value_named y e') a
  behind_root (root.Slot y) along x d e e' a = a tt

  behind : (P : Path → ℕ → Type 0) (x : List ℕ) (d : Data) (e e' : Env) → On (Behind x P) e e' → On P ((x, d) ∷ e) ((x, d) ∷ e')
  behind P x d e e' a p n h = behind_root p.root p.fields x d e e' (λ apart. a p n (apart, h))

  -- what a function's body reads are slots
  inside_root : (r : Root) (along : Along) (e o o' : Env) → (IsSlot r → dig app along (root_value r s o) ≡ dig app along (root_value r s' o'))
      → dig app along (root_value r s e) ≡ dig app along (root_value r s' e)
  inside_root (root.Variable y) along e o o' a = refl
  inside_root (root.Slot y) along e o o' a = a tt

  abbrev pub SameGo : Go → Go → ℕ → Type 0
  SameGo go go' level = (along : Along) (e e' : Env) (t : ExprTree) → On (In along t) e e' → (go level e t >>= dug app along) ≡ (go' level e' t >>= dug app along)

  -- ---- by the meaning of the parts at a level
  module _ (go go' : Go) (level : ℕ) (g : SameGo go go' level) where
    same : (e e' : Env) (t : ExprTree) → On (In [] t) e e' → go level e t ≡ go' level e' t
    same e e' t a = sym (whole app (go level e t)) ∙ g [] e e' t a ∙ whole app (go' level e' t)

    same-tested : (e e' : Env) (t : ExprTree) → On (In [] t) e e' → truth_of go level e t ≡ truth_of go' level e' t
    same-tested e e' t a = λ i. same e e' t a i >>= λ d. lift (truth d)

    same-listed : (e e' : Env) (t : ExprTree) → On (In [] t) e e' → parts_of_list go level e t ≡ parts_of_list go' level e' t
    same-listed e e' t a = λ i. same e e' t a i >>= λ d. lift (elements d)

    same-each : (e e' : Env) (ts : ExprTrees) → On (InAll [] ts) e e' → (ds : List Data) → each go level e ts ds ≡ each go' level e' ts ds
    same-each e e' none a ds = refl
    same-each e e' (part t ts) a ds =
        λ i. same e e' t (λ p n h. a p n (inl h)) i >>= λ d. same-each e e' ts (λ p n h. a p n (inr h)) (ds ++ d ∷ []) i

    same-every : (e e' : Env) (ts : ExprTrees) → On (InAll [] ts) e e' → every go level e ts ≡ every go' level e' ts
    same-every e e' none a = refl
    same-every e e' (part t ts) a =
        λ i. same-tested e e' t (λ p n h. a p n (inl h)) i >>= λ b. if b then same-every e e' ts (λ p n h. a p n (inr h)) i else give (bool false)

    same-some : (e e' : Env) (ts : ExprTrees) → On (InAll [] ts) e e' → some go level e ts ≡ some go' level e' ts
    same-some e e' none a = refl
    same-some e e' (part t ts) a =
        λ i. same-tested e e' t (λ p n h. a p n (inl h)) i >>= λ b. if b then give (bool true) else same-some e e' ts (λ p n h. a p n (inr h)) i

    same-let : (bs : Bindings) (t : ExprTree) (e e' : Env) → On (InBound bs) e e' → On (InBody bs t) e e' → let_in go level bs t e ≡ let_in go' level bs t e'
    same-let unbound t e e' a b = same e e' t (λ p n h. b p n (tt, h))
    same-let (binding x u bs) t e e' a b =
        let each_value : (go level e u >>= λ d. let_in go level bs t ((x, d) ∷ e)) ≡ (go' level e' u >>= λ d. let_in go' level bs t ((x, d) ∷ e')) =
        λ i. same e e' u (λ p n h. a p n (inl h)) i
        >>= λ d. same-let bs t ((x, d) ∷ e) ((x, d) ∷ e') (behind (InBound bs) x d e e' (λ p n h. a p n (inr h)))
        (behind (InBody bs t) x d e e' (λ p n h. b p n ((h.0, h.1.0), h.1.1))) i in
        let_in-binding go level x u bs t e ∙ each_value ∙ sym (let_in-binding go' level x u bs t e')

    same-mapped : (e e' : Env) (x : List ℕ) (t : ExprTree) → On (Behind x (In [] t)) e e' → (ds es : List Data) → map_each go level e x t ds es ≡ map_each go' level e' x t ds es
    same-mapped e e' x t a [] es = refl
    same-mapped e e' x t a (d ∷ ds) es =
        λ i. same ((x, d) ∷ e) ((x, d) ∷ e') t (behind (In [] t) x d e e' a) i >>= λ v. same-mapped e e' x t a ds (es ++ v ∷ []) i

    same-filtered : (e e' : Env) (x : List ℕ) (t : ExprTree) → On (Behind x (In [] t)) e e' → (ds es : List Data)
        → filter_each go level e x t ds es ≡ filter_each go' level e' x t ds es
    same-filtered e e' x t a [] es = refl
    same-filtered e e' x t a (d ∷ ds) es =
        λ i. same-tested ((x, d) ∷ e) ((x, d) ∷ e') t (behind (In [] t) x d e e' a) i
        >>= λ b. same-filtered e e' x t a ds (if b then es ++ d ∷ [] else es) i

    same-folded : (e e' : Env) (x y : List ℕ) (t : ExprTree) → On (Behind x (Behind y (In [] t))) e e' → (ds : List Data) (d : Data)
        → fold_each go level e x y t ds d ≡ fold_each go' level e' x y t ds d
    same-folded e e' x y t a [] d = refl
    same-folded e e' x y t a (c ∷ ds) d =
        λ i. same ((y, d) ∷ (x, c) ∷ e) ((y, d) ∷ (x, c) ∷ e') t
        (behind (In [] t) y d ((x, c) ∷ e) ((x, c) ∷ e') (behind (Behind y (In [] t)) x c e e' a)) i >>= λ v. same-folded e e' x y t a ds v i

    same-called : (f : Option FunctionDecl) (ds : List Data) (e e' : Env) → On (λ p n. InFunction (Within n app p) p f) e e'
        → call_function go level f ds ≡ call_function go' level f ds
    same-called None ds e e' a = refl
    same-called (Some f) ds e e' a =
        λ i. if length ds == length f.parameters
        then same (bind_parameters f.parameters ds) (bind_parameters f.parameters ds) f.body
        (λ p n h. inside_root p.root p.fields (bind_parameters f.parameters ds) e e' (λ slot. a p n (slot, h))) i
        else trap 1

    same-operation : (along : Along) (e e' : Env) (o : Operator) (ts : ExprTrees) → On (InAll (operand_fields o ts along) ts) e e'
        → (operation_on app go level e o ts >>= dug app along) ≡ (operation_on app go' level e' o ts >>= dug app along)
    same-operation along e e' (operator.Record (fields.Get f)) (part t none) a =
        one_field app go level e f along t ∙ g (f ∷ along) e e' t (λ p n h. a p n (inl h)) ∙ sym (one_field app go' level e' f along t)
    same-operation along e e' o ts a = λ i. (same-each e e' ts a [] i >>= λ ds. lift (operate app o ds)) >>= dug app along

    -- one row after another
    same-parts : (along : Along) (e e' : Env) (t : ExprTree) → On (In along t) e e' → (parts app s go level e t >>= dug app along) ≡ (parts app s' go' level e' t >>= dug app along)
    same-parts along e e' (expr.Constant d) a = refl
    same-parts along e e' (expr.Variable x) a =
        dug-or_trap app along (value_named x e) ∙ (λ i. lift (or_trap 1 (a (record { root = root.Variable x; fields = along }) 0 refl i)))
        ∙ sym (dug-or_trap app along (value_named x e'))
    same-parts along e e' (expr.Slot x) a =
        dug-or_trap app along (value_named x s) ∙ (λ i. lift (or_trap 1 (a (record { root = root.Slot x; fields = along }) 0 refl i)))
        ∙ sym (dug-or_trap app along (value_named x s'))
    same-parts along e e' (expr.If t u v) a =
        λ i. (same-tested e e' t (λ p n h. a p n (inl h)) i
        >>= λ b. if b then same e e' u (λ p n h. a p n (inr (inl h))) i else same e e' v (λ p n h. a p n (inr (inr h))) i) >>= dug app along
    same-parts along e e' (expr.Let bs t) a = λ i. same-let bs t e e' (λ p n h. a p n (inl h)) (λ p n h. a p n (inr h)) i >>= dug app along
    same-parts along e e' (expr.And ts) a = λ i. same-every e e' ts a i >>= dug app along
    same-parts along e e' (expr.Or ts) a = λ i. same-some e e' ts a i >>= dug app along
    same-parts along e e' (expr.Map x t body) a =
        λ i. (same-listed e e' t (λ p n h. a p n (inl h)) i
        >>= λ ds. same-mapped e e' x body (λ p n h. a p n (inr h)) ds [] i >>= λ es. lift (within_limits (list (items_of es)))) >>= dug app along
    same-parts along e e' (expr.Filter x t body) a =
        λ i. (same-listed e e' t (λ p n h. a p n (inl h)) i
        >>= λ ds. same-filtered e e' x body (λ p n h. a p n (inr h)) ds [] i >>= λ es. lift (within_limits (list (items_of es)))) >>= dug app along
    same-parts along e e' (expr.Fold x t y opening body) a =
        λ i. (same e e' t (λ p n h. a p n (inl h)) i >>= λ d. same e e' opening (λ p n h. a p n (inr (inl h))) i
        >>= λ first. lift (elements d) >>= λ ds. same-folded e e' x y body (λ p n h. a p n (inr (inr h))) ds first i) >>= dug app along
    same-parts along e e' (expr.Operation o ts) a = same-operation along e e' o ts a
    same-parts along e e' (expr.Call f ts) a =
        λ i. (same-each e e' ts (λ p n h. a p n (inl h)) [] i
        >>= λ ds. same-called (function_named f app) ds e e' (λ p n h. a p (suc n) (inr h)) i) >>= dug app along

  pub same-means : (left budget level : ℕ) → SameGo (means left budget app s) (means left budget app s') level
  same-means zero budget level along e e' t a = refl
  same-means (suc left) budget level along e e' t a =
      assoc (entering (suc left) budget level) (λ _. parts app s (means left budget app s) (level + 1) e t) (dug app along)
      ∙ (λ i. entering (suc left) budget level
      >>= λ _. same-parts (means left budget app s) (means left budget app s') (level + 1) (same-means left budget (level + 1)) along e e' t a i)
      ∙ sym (assoc (entering (suc left) budget level) (λ _. parts app s' (means left budget app s') (level + 1) e' t) (dug app along))

  -- an expression of which no field is taken
  pub same-whole : (left budget level : ℕ) (e e' : Env) (t : ExprTree) → On (In [] t) e e' → means left budget app s level e t ≡ means left budget app s' level e' t
  same-whole left budget level e e' t a =
      same (means left budget app s) (means left budget app s') level (same-means left budget level) e e' t a
