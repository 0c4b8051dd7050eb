-- What a run comes to, from the cost so far and the deepest level so far.
use Rattle.std.specs.Prelude.{◌≡◌, ℕ, ◌+◌, ◌≤◌, Bool, true, false, Result, Ok, Err}

-- a value, or a trap of some kind; each with the cost and the deepest level then
pub data Outcome (A : Type 0) : Type 0 where
  Gives : A → (cost deepest : ℕ) → Outcome A
  Traps : (kind cost deepest : ℕ) → Outcome A

-- what comes of a cost and a deepest level so far
abbrev pub Run : Type 0 → Type 0
Run A = ℕ → ℕ → Outcome A

-- a value at once
abbrev pub give : {A : Type 0} → A → Run A
give x cost deepest = Gives x cost deepest

-- a trap at once
abbrev pub trap : {A : Type 0} → ℕ → Run A
trap kind cost deepest = Traps kind cost deepest

-- a run behind an outcome, which a trap ends
abbrev pub after : {A B : Type 0} → Outcome A → (A → Run B) → Outcome B
after (Gives x cost deepest) f = f x cost deepest
after (Traps kind cost deepest) f = Traps kind cost deepest

-- a run, and then one that is given its value
infixl 10 ◌>>=◌
-- a run behind a run, from its value; a trap ends both
abbrev pub ◌>>=◌ : {A B : Type 0} → Run A → (A → Run B) → Run B
(m >>= f) cost deepest = after (m cost deepest) f

-- a value, or the kind of a trap; neither enters a form
abbrev pub lift : {A : Type 0} → Result A ℕ → Run A
lift (Ok x) cost deepest = Gives x cost deepest
lift (Err kind) cost deepest = Traps kind cost deepest

-- the cost at the end or at the trap
abbrev pub cost_of : {A : Type 0} → Outcome A → ℕ
cost_of (Gives x cost deepest) = cost
cost_of (Traps kind cost deepest) = cost

-- a ledger rises by a cost; where want of memory was met, by no more
abbrev pub RisesBy : (met : Bool) → (old new cost : ℕ) → Type 0
RisesBy false old new cost = new ≡ old + cost
RisesBy true old new cost = (old ≤ new) × (new ≤ old + cost)
