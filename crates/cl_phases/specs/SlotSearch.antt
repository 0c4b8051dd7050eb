-- How the search for a slot goes, and no more: it looks at an expression, then once at the body of each function that is called from
-- what it looked at. What a branch names counts whether or not it is taken.
use Rattle.std.specs.Prelude.{◌≡◌, ℕ, Bool, true, false, ◌||◌, is_some, if◌then◌else◌, List, [], ◌∷◌, ◌++◌, All, Option, Some, None}
use Rattle.cl_table.specs.Names.{named, declared_at, with_first}
use Rattle.cl_syntax.specs.ExprTree as expr
use Rattle.cl_syntax.specs.ExprTree.{ExprTree, ExprTrees, Bindings, none, part, unbound, binding}
use Rattle.cl_application.specs.declared.declarations.FunctionDecl.{FunctionDecl}
use Rattle.cl_phases.specs.SlotReads.{Functions}
use Rattle.cl_phases.specs.declared.slot_reads.Reached.{Reached}

-- a slot stands in an expression
abbrev mutual
  pub names_slot : ExprTree → Bool
  names_slot (expr.Constant d) = false
  names_slot (expr.Variable x) = false
  names_slot (expr.Slot x) = true
  names_slot (expr.If t u v) = names_slot t || names_slot u || names_slot v
  names_slot (expr.Let bs t) = names_slot_bound bs || names_slot t
  names_slot (expr.And ts) = names_slot_among ts
  names_slot (expr.Or ts) = names_slot_among ts
  names_slot (expr.Map x t body) = names_slot t || names_slot body
  names_slot (expr.Filter x t body) = names_slot t || names_slot body
  names_slot (expr.Fold x t accumulator opening body) = names_slot t || names_slot opening || names_slot body
  names_slot (expr.Operation o ts) = names_slot_among ts
  names_slot (expr.Call f ts) = names_slot_among ts

  -- a slot stands in one of the expressions
  pub names_slot_among : ExprTrees → Bool
  names_slot_among none = false
  names_slot_among (part t ts) = names_slot t || names_slot_among ts

  -- a slot stands in the value of one of the bindings
  pub names_slot_bound : Bindings → Bool
  names_slot_bound unbound = false
  names_slot_bound (binding x t bs) = names_slot t || names_slot_bound bs

-- the functions that an expression calls
abbrev mutual
  pub calls : ExprTree → List (List ℕ)
  calls (expr.Constant d) = []
  calls (expr.Variable x) = []
  calls (expr.Slot x) = []
  calls (expr.If t u v) = calls t ++ calls u ++ calls v
  calls (expr.Let bs t) = calls_bound bs ++ calls t
  calls (expr.And ts) = calls_among ts
  calls (expr.Or ts) = calls_among ts
  calls (expr.Map x t body) = calls t ++ calls body
  calls (expr.Filter x t body) = calls t ++ calls body
  calls (expr.Fold x t accumulator opening body) = calls t ++ calls opening ++ calls body
  calls (expr.Operation o ts) = calls_among ts
  calls (expr.Call f ts) = f ∷ calls_among ts

  -- the functions that expressions in a row call
  pub calls_among : ExprTrees → List (List ℕ)
  calls_among none = []
  calls_among (part t ts) = calls t ++ calls_among ts

  -- the functions that the values of bindings call
  pub calls_bound : Bindings → List (List ℕ)
  calls_bound unbound = []
  calls_bound (binding x t bs) = calls t ++ calls_bound bs

-- ---- what is found

-- the functions that are reached so far, in the order in which they are found
abbrev pub Found : Type 0
Found = List (List ℕ × Reached)

-- one more, which is declared and was not found before
abbrev pub with_call : Functions → List ℕ → Found → Found
with_call fs x found = if is_some (named x fs) then with_first (λ r. r.name) found (record { name = x }) else found

-- the same for several, one after another
abbrev pub with_calls : Functions → List (List ℕ) → Found → Found
with_calls fs [] found = found
with_calls fs (x ∷ xs) found = with_calls fs xs (with_call fs x found)

-- the body of a function, if there is one
abbrev pub body_of : Option FunctionDecl → Option ExprTree
body_of None = None
body_of (Some f) = Some f.body

-- the body of a function that was found
abbrev pub body_named : Functions → Option Reached → Option ExprTree
body_named fs None = None
body_named fs (Some r) = body_of (named r.name fs)

-- the body of the function that was found at a place
abbrev pub body_at : Functions → Found → ℕ → Option ExprTree
body_at fs found place = body_named fs (declared_at place found)

-- something stands under a name in a table
abbrev pub has : {D : Type 0} → List ℕ → List (List ℕ × D) → Bool
has x table = is_some (named x table)

-- an expression names no slot, and the functions that it calls are found
pub record IsClosed (fs : Functions) (found : Found) (t : ExprTree) : Type 0 where
  pub no_slot : names_slot t ≡ false
  pub finds : All (λ x. has x fs ≡ true → has x found ≡ true) (calls t)

-- a function that is found was looked into
abbrev pub IsLookedInto : Functions → Found → List ℕ × Reached → Type 0
IsLookedInto fs found e = (f : FunctionDecl) → named e.0 fs ≡ Some f → IsClosed fs found f.body

-- no function that is found reads a slot, through calls too: each was looked into
abbrev pub AreClear : Functions → Found → Type 0
AreClear fs found = All (IsLookedInto fs found) found

-- where the answer is no
abbrev pub StaysClear : Functions → Found → Bool → Type 0
StaysClear fs found true = Unit {0}
StaysClear fs found false = AreClear fs found
