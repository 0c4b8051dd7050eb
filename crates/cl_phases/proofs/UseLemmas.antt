-- An expression reads a slot exactly where a slot stands in it, or in the body of a function that is reached from it through calls.
use Rattle.std.proofs.Common.{◌≡◌, ◌++◌, ℕ, zero, suc, Bool, true, false, ◌||◌, ◌⊎◌, inl, inr, ⊎_elim, List, [], ◌∷◌, Option, Some, None, refl, sym, subst, arith}
use Rattle.std.specs.Prelude.{Contains}
use Rattle.std.proofs.lemmas.List.Elements.{Contains-append_left, Contains-append_right, Contains-append_cases, Contains-push, Contains-push_cases}
use Rattle.cl_table.specs.Names.{named}
use Rattle.cl_syntax.specs.ExprTree as expr
use Rattle.cl_syntax.specs.ExprTree.{ExprTree, ExprTrees, Bindings, none, part, unbound, binding}
use Rattle.cl_application.specs.declared.declarations.FunctionDecl.{FunctionDecl}
use Rattle.cl_syntax.specs.Paths.{Along}
use Rattle.cl_syntax.specs.declared.callees.Callee.{Callee}
use Rattle.cl_syntax.specs.declared.callees.Callee.TheVariants as callee
use Rattle.cl_syntax.specs.declared.paths.Path.{Path}
use Rattle.cl_syntax.specs.declared.paths.Root.{Root}
use Rattle.cl_syntax.specs.declared.paths.Root.TheVariants as root
use Rattle.cl_eval.specs.ReadPaths.{Apart, ApartAll, InFunction, IsSlot, Reads, ReadsAmong, ReadsBound, operand_fields}
use Rattle.cl_phases.specs.SlotReads.{Functions, FunctionsWithin, ReadsSlot}
use Rattle.cl_phases.specs.SlotSearch.{names_slot, names_slot_among, names_slot_bound, calls, calls_among, calls_bound}

-- an expression itself, and the body of each function that what is reached calls
pub data Reaches : Functions → ExprTree → ExprTree → Type 0 where
  itself : (fs : Functions) (t : ExprTree) → Reaches fs t t
  calling : (fs : Functions) (t u : ExprTree) (x : List ℕ) (f : FunctionDecl) → Contains (calls t) x → named x fs ≡ Some f → Reaches fs f.body u → Reaches fs t u

-- what is reached names a slot
pub record ReachesSlot (fs : Functions) (t : ExprTree) : Type 0 where
  pub reached : ExprTree
  pub reaches : Reaches fs t reached
  pub names : names_slot reached ≡ true

-- ---- where one is read, it is reached

-- a slot is named, or one of these functions has it
abbrev Either : (Callee → Type 0) → Bool → List (List ℕ) → Type 0
Either has b fs = (b ≡ true) ⊎ ((f : List ℕ) × (Contains fs f × has (callee.Function f)))

true_or : (a b : Bool) → a ≡ true → (a || b) ≡ true
true_or a b h = grind arith

or_true : (a b : Bool) → b ≡ true → (a || b) ≡ true
or_true a b h = grind arith

module _ (has : Callee → Type 0) (p : Path) (is : IsSlot p.root) where
  left : (a b : Bool) (fs gs : List (List ℕ)) → Either has a fs → Either has (a || b) (fs ++ gs)
  left a b fs gs e = ⊎_elim (λ h. inl (true_or a b h)) (λ k. inr (k.0, (Contains-append_left fs gs k.0 k.1.0, k.1.1))) e

  right : (a b : Bool) (fs gs : List (List ℕ)) → Either has b gs → Either has (a || b) (fs ++ gs)
  right a b fs gs e = ⊎_elim (λ h. inl (or_true a b h)) (λ k. inr (k.0, (Contains-append_right fs gs k.0 k.1.0, k.1.1))) e

  abbrev In : ExprTree → Type 0
  In t = Either has (names_slot t) (calls t)

  abbrev Among : ExprTrees → Type 0
  Among ts = Either has (names_slot_among ts) (calls_among ts)

  abbrev Bound : Bindings → Type 0
  Bound bs = Either has (names_slot_bound bs) (calls_bound bs)

  two : (t u : ExprTree) → In t ⊎ In u → Either has (names_slot t || names_slot u) (calls t ++ calls u)
  two t u e = ⊎_elim (left (names_slot t) (names_slot u) (calls t) (calls u)) (right (names_slot t) (names_slot u) (calls t) (calls u)) e

  three : (t u v : ExprTree) → In t ⊎ (In u ⊎ In v) → Either has (names_slot t || names_slot u || names_slot v) (calls t ++ calls u ++ calls v)
  three t u v e =
      ⊎_elim (λ p. left (names_slot t || names_slot u) (names_slot v) (calls t ++ calls u) (calls v) (two t u (inl p)))
      (λ q. ⊎_elim (λ p. left (names_slot t || names_slot u) (names_slot v) (calls t ++ calls u) (calls v) (two t u (inr p)))
      (λ p. right (names_slot t || names_slot u) (names_slot v) (calls t ++ calls u) (calls v) p) q) e

  one_more : (f : List ℕ) (b : Bool) (fs : List (List ℕ)) → Either has b fs → Either has b (f ∷ fs)
  one_more f b fs e = ⊎_elim (λ h. inl h) (λ k. inr (k.0, (Contains-append_right (f ∷ []) fs k.0 k.1.0, k.1.1))) e

  mutual
    split : (along : Along) (t : ExprTree) → Reads has p along t → In t
    split along (expr.Constant d) r = absurd r
    split along (expr.Variable y) r = absurd (subst (λ (q : Path). IsSlot q.root) r is)
    split along (expr.Slot y) r = inl refl
    split along (expr.If t u v) r =
        three t u v (⊎_elim (λ q. inl (split [] t q)) (λ q. inr (⊎_elim (λ k. inl (split [] u k)) (λ k. inr (split [] v k)) q)) r)
    split along (expr.Let bs t) r =
        ⊎_elim (λ q. left (names_slot_bound bs) (names_slot t) (calls_bound bs) (calls t) (split_bound bs q))
        (λ q. right (names_slot_bound bs) (names_slot t) (calls_bound bs) (calls t) (split [] t q.1)) r
    split along (expr.And ts) r = split_among [] ts r
    split along (expr.Or ts) r = split_among [] ts r
    split along (expr.Map y t body) r = two t body (⊎_elim (λ q. inl (split [] t q)) (λ q. inr (split [] body q.1)) r)
    split along (expr.Filter y t body) r = two t body (⊎_elim (λ q. inl (split [] t q)) (λ q. inr (split [] body q.1)) r)
    split along (expr.Fold y t accumulator opening body) r =
        three t opening body (⊎_elim (λ q. inl (split [] t q)) (λ q. inr (⊎_elim (λ k. inl (split [] opening k)) (λ k. inr (split [] body k.1.1)) q)) r)
    split along (expr.Operation o ts) r = split_among (operand_fields o ts along) ts r
    split along (expr.Call f ts) r =
        ⊎_elim (λ q. one_more f (names_slot_among ts) (calls_among ts) (split_among [] ts q))
        (λ c. inr (f, (Contains-append_left (f ∷ []) (calls_among ts) f (Contains-push [] f), c))) r

    split_among : (along : Along) (ts : ExprTrees) → ReadsAmong has p along ts → Among ts
    split_among along none r = absurd r
    split_among along (part t ts) r =
        ⊎_elim (λ q. left (names_slot t) (names_slot_among ts) (calls t) (calls_among ts) (split along t q))
        (λ q. right (names_slot t) (names_slot_among ts) (calls t) (calls_among ts) (split_among along ts q)) r

    split_bound : (bs : Bindings) → ReadsBound has p bs → Bound bs
    split_bound unbound r = absurd r
    split_bound (binding y t bs) r =
        ⊎_elim (λ q. left (names_slot t) (names_slot_bound bs) (calls t) (calls_bound bs) (split [] t q))
        (λ q. right (names_slot t) (names_slot_bound bs) (calls t) (calls_bound bs) (split_bound bs q.1)) r

through : (fs : Functions) (t : ExprTree) (x : List ℕ) (f : FunctionDecl) → Contains (calls t) x → named x fs ≡ Some f → ReachesSlot fs f.body → ReachesSlot fs t
through fs t x f c d r = record { reached = r.reached; reaches = calling fs t r.reached x f c d r.reaches; names = r.names }

in_body : (has : Callee → Type 0) (p : Path) (o : Option FunctionDecl) → InFunction has p o → (f : FunctionDecl) × ((o ≡ Some f) × Reads has p [] f.body)
in_body has p None r = absurd r
in_body has p (Some f) r = (f, (refl, r.1))

reaches_within : (n : ℕ) (fs : Functions) (p : Path) → IsSlot p.root → (t : ExprTree) → Reads (FunctionsWithin n fs p) p [] t → ReachesSlot fs t
reaches_within zero fs p is t r =
    ⊎_elim (λ h. record { reached = t; reaches = itself fs t; names = h }) (λ k. absurd k.1.1) (split (FunctionsWithin zero fs p) p is [] t r)
reaches_within (suc n) fs p is t r =
    ⊎_elim (λ h. record { reached = t; reaches = itself fs t; names = h })
    (λ k. let one = in_body (FunctionsWithin n fs p) p (named k.0 fs) k.1.1 in
    through fs t k.0 one.0 k.1.0 one.1.0 (reaches_within n fs p is one.0.body one.1.1)) (split (FunctionsWithin (suc n) fs p) p is [] t r)

pub read_is_reached : (fs : Functions) (t : ExprTree) → ReadsSlot fs t → ReachesSlot fs t
read_is_reached fs t r = reaches_within r.calls fs r.path r.slot t r.reads

-- ---- where one is reached, it is read

or_cases : (a b : Bool) → (a || b) ≡ true → (a ≡ true) ⊎ (b ≡ true)
or_cases true b h = inl refl
or_cases false b h = inr h

-- no binding hides a slot
apart : (x : List ℕ) (r : Root) → IsSlot r → Apart x r
apart x (root.Variable y) is = absurd is
apart x (root.Slot y) is = tt

apart_all : (bs : Bindings) (r : Root) → IsSlot r → ApartAll bs r
apart_all unbound r is = tt
apart_all (binding x t bs) r is = (apart x r is, apart_all bs r is)

-- what is read of a slot, whatever is read where something is called
abbrev Named : ((Callee → Type 0) → Path → Type 0) → Type 1
Named Read = (p : Path) × (IsSlot p.root × ((has : Callee → Type 0) → Read has p))

mutual
  named_use : (along : Along) (t : ExprTree) → names_slot t ≡ true → Named (λ has p. Reads has p along t)
  named_use along (expr.Constant d) h = cc
  named_use along (expr.Variable y) h = cc
  named_use along (expr.Slot y) h = (record { root = root.Slot y; fields = along }, (tt, λ has. refl))
  named_use along (expr.If t u v) h =
      ⊎_elim
      (λ k. ⊎_elim (λ a. let n = named_use [] t a in (n.0, (n.1.0, λ has. inl (n.1.1 has))))
      (λ a. let n = named_use [] u a in (n.0, (n.1.0, λ has. inr (inl (n.1.1 has))))) (or_cases (names_slot t) (names_slot u) k))
      (λ a. let n = named_use [] v a in (n.0, (n.1.0, λ has. inr (inr (n.1.1 has))))) (or_cases (names_slot t || names_slot u) (names_slot v) h)
  named_use along (expr.Let bs t) h =
      ⊎_elim (λ a. let n = named_bound bs a in (n.0, (n.1.0, λ has. inl (n.1.1 has))))
      (λ a. let n = named_use [] t a in (n.0, (n.1.0, λ has. inr (apart_all bs n.0.root n.1.0, n.1.1 has)))) (or_cases (names_slot_bound bs) (names_slot t) h)
  named_use along (expr.And ts) h = named_among [] ts h
  named_use along (expr.Or ts) h = named_among [] ts h
  named_use along (expr.Map y t body) h =
      ⊎_elim (λ a. let n = named_use [] t a in (n.0, (n.1.0, λ has. inl (n.1.1 has))))
      (λ a. let n = named_use [] body a in (n.0, (n.1.0, λ has. inr (apart y n.0.root n.1.0, n.1.1 has)))) (or_cases (names_slot t) (names_slot body) h)
  named_use along (expr.Filter y t body) h =
      ⊎_elim (λ a. let n = named_use [] t a in (n.0, (n.1.0, λ has. inl (n.1.1 has))))
      (λ a. let n = named_use [] body a in (n.0, (n.1.0, λ has. inr (apart y n.0.root n.1.0, n.1.1 has)))) (or_cases (names_slot t) (names_slot body) h)
  named_use along (expr.Fold y t accumulator opening body) h =
      ⊎_elim
      (λ k. ⊎_elim (λ a. let n = named_use [] t a in (n.0, (n.1.0, λ has. inl (n.1.1 has))))
      (λ a. let n = named_use [] opening a in (n.0, (n.1.0, λ has. inr (inl (n.1.1 has))))) (or_cases (names_slot t) (names_slot opening) k))
      (λ a. let n = named_use [] body a in
      (n.0, (n.1.0, λ has. inr (inr (apart y n.0.root n.1.0, (apart accumulator n.0.root n.1.0, n.1.1 has)))))) (or_cases (names_slot t || names_slot opening) (names_slot body) h)
  named_use along (expr.Operation o ts) h = named_among (operand_fields o ts along) ts h
  named_use along (expr.Call f ts) h = let n = named_among [] ts h in (n.0, (n.1.0, λ has. inl (n.1.1 has)))

  named_among : (along : Along) (ts : ExprTrees) → names_slot_among ts ≡ true → Named (λ has p. ReadsAmong has p along ts)
  named_among along none h = cc
  named_among along (part t ts) h =
      ⊎_elim (λ a. let n = named_use along t a in (n.0, (n.1.0, λ has. inl (n.1.1 has))))
      (λ a. let n = named_among along ts a in (n.0, (n.1.0, λ has. inr (n.1.1 has)))) (or_cases (names_slot t) (names_slot_among ts) h)

  named_bound : (bs : Bindings) → names_slot_bound bs ≡ true → Named (λ has p. ReadsBound has p bs)
  named_bound unbound h = cc
  named_bound (binding y t bs) h =
      ⊎_elim (λ a. let n = named_use [] t a in (n.0, (n.1.0, λ has. inl (n.1.1 has))))
      (λ a. let n = named_bound bs a in (n.0, (n.1.0, λ has. inr (apart y n.0.root n.1.0, n.1.1 has)))) (or_cases (names_slot t) (names_slot_bound bs) h)

nothing_here : (f : List ℕ) → Contains [] f → ⊥
nothing_here f c = omega (arith, c.1)

module _ (has : Callee → Type 0) (p : Path) (is : IsSlot p.root) where
  mutual
    called_use : (along : Along) (t : ExprTree) (f : List ℕ) → Contains (calls t) f → has (callee.Function f) → Reads has p along t
    called_use along (expr.Constant d) f c r = absurd (nothing_here f c)
    called_use along (expr.Variable y) f c r = absurd (nothing_here f c)
    called_use along (expr.Slot y) f c r = absurd (nothing_here f c)
    called_use along (expr.If t u v) f c r =
        ⊎_elim (λ k. ⊎_elim (λ a. inl (called_use [] t f a r)) (λ a. inr (inl (called_use [] u f a r))) (Contains-append_cases (calls t) (calls u) f k))
        (λ a. inr (inr (called_use [] v f a r))) (Contains-append_cases (calls t ++ calls u) (calls v) f c)
    called_use along (expr.Let bs t) f c r =
        ⊎_elim (λ a. inl (called_bound bs f a r)) (λ a. inr (apart_all bs p.root is, called_use [] t f a r)) (Contains-append_cases (calls_bound bs) (calls t) f c)
    called_use along (expr.And ts) f c r = called_among [] ts f c r
    called_use along (expr.Or ts) f c r = called_among [] ts f c r
    called_use along (expr.Map y t body) f c r =
        ⊎_elim (λ a. inl (called_use [] t f a r)) (λ a. inr (apart y p.root is, called_use [] body f a r)) (Contains-append_cases (calls t) (calls body) f c)
    called_use along (expr.Filter y t body) f c r =
        ⊎_elim (λ a. inl (called_use [] t f a r)) (λ a. inr (apart y p.root is, called_use [] body f a r)) (Contains-append_cases (calls t) (calls body) f c)
    called_use along (expr.Fold y t accumulator opening body) f c r =
        ⊎_elim
        (λ k. ⊎_elim (λ a. inl (called_use [] t f a r)) (λ a. inr (inl (called_use [] opening f a r))) (Contains-append_cases (calls t) (calls opening) f k))
        (λ a. inr (inr (apart y p.root is, (apart accumulator p.root is, called_use [] body f a r))))
        (Contains-append_cases (calls t ++ calls opening) (calls body) f c)
    called_use along (expr.Operation o ts) f c r = called_among (operand_fields o ts along) ts f c r
    called_use along (expr.Call g ts) f c r =
        ⊎_elim
        (λ a. inr (⊎_elim (λ k. absurd (nothing_here f k)) (λ (e : g ≡ f). subst (λ (x : List ℕ). has (callee.Function x)) (sym e) r) (Contains-push_cases [] g f a)))
        (λ a. inl (called_among [] ts f a r)) (Contains-append_cases (g ∷ []) (calls_among ts) f c)

    called_among : (along : Along) (ts : ExprTrees) (f : List ℕ) → Contains (calls_among ts) f → has (callee.Function f) → ReadsAmong has p along ts
    called_among along none f c r = nothing_here f c
    called_among along (part t ts) f c r =
        ⊎_elim (λ a. inl (called_use along t f a r)) (λ a. inr (called_among along ts f a r)) (Contains-append_cases (calls t) (calls_among ts) f c)

    called_bound : (bs : Bindings) (f : List ℕ) → Contains (calls_bound bs) f → has (callee.Function f) → ReadsBound has p bs
    called_bound unbound f c r = absurd (nothing_here f c)
    called_bound (binding y t bs) f c r =
        ⊎_elim (λ a. inl (called_use [] t f a r)) (λ a. inr (apart y p.root is, called_bound bs f a r)) (Contains-append_cases (calls t) (calls_bound bs) f c)

reached_use : (fs : Functions) (t u : ExprTree) → Reaches fs t u → names_slot u ≡ true → ReadsSlot fs t
reached_use _ _ _ (itself fs t) h =
    let n = named_use [] t h in record { path = n.0; slot = n.1.0; calls = 0; reads = n.1.1 (FunctionsWithin 0 fs n.0) }
reached_use _ _ _ (calling fs t u y f c d r) h =
    let one = reached_use fs f.body u r h in
    let inside : FunctionsWithin (suc one.calls) fs one.path (callee.Function y) =
    subst (InFunction (FunctionsWithin one.calls fs one.path) one.path) (sym d) (one.slot, one.reads) in
    record {
      path = one.path;
      slot = one.slot;
      calls = suc one.calls;
      reads = called_use (FunctionsWithin (suc one.calls) fs one.path) one.path one.slot [] t y c inside;
    }

pub reached_is_read : (fs : Functions) (t : ExprTree) → ReachesSlot fs t → ReadsSlot fs t
reached_is_read fs t r = reached_use fs t r.reached r.reaches r.names
