-- What a step of the evaluator answers, against what the definition says. Want of memory is no outcome; it comes before the
-- cost of the outcome is passed.
use Rattle.std.specs.Prelude.{◌≡◌, ◌≤◌, ℕ, Result, Ok, Err, List, Vec, map}
use Rattle.cl_eval.specs.declared.metering.Meter.{Meter}
use Rattle.cl_eval.specs.declared.metering.Stop.{Stop}
use Rattle.cl_eval.specs.declared.metering.Stop.TheVariants.{Trap, Memory}
use Rattle.cl_eval.specs.Outcome.{Outcome, Gives, Traps, cost_of}
use Rattle.cl_value.specs.Data.{Data}
use Rattle.cl_value.specs.Value.{data_of}
use Rattle.cl_value.specs.declared.Value.{Value}
use Rattle.std.specs.declared.alloc.Global.{Global}

-- an answer is the outcome, with the meter's cost and depth; out of memory comes before the outcome's cost is passed
abbrev pub Agrees : {A B : Type 0} → (A → B) → Result A Stop → Meter → Outcome B → Type 0
Agrees f (Ok x) m o = o ≡ Gives (f x) m.cost m.deepest
Agrees f (Err (Trap k)) m o = o ≡ Traps k m.cost m.deepest
Agrees f (Err Memory) m o = m.cost ≤ cost_of o

-- what enters no form: a value, or the kind of a trap
abbrev pub Comes : {A B : Type 0} → (A → B) → Result A Stop → Result B ℕ → Type 0
Comes f (Ok x) r = r ≡ Ok (f x)
Comes f (Err (Trap k)) r = r ≡ Err k
Comes f (Err Memory) r = Unit {0}

-- a form was entered, or the trap on entering it
abbrev pub Entered : Result (Unit {0}) Stop → Meter → Outcome (Unit {0}) → Type 0
Entered (Ok u) m o = o ≡ Gives tt m.cost m.deepest
Entered (Err (Trap k)) m o = o ≡ Traps k m.cost m.deepest
Entered (Err Memory) m o = ⊥

-- what is seen of a value that is its own view
abbrev pub itself : {A : Type 0} → A → A
itself x = x

-- the values in a row
abbrev pub items_are : Vec Value Global → List Data
items_are v = map data_of v.items

-- what is seen of an answer that says only that there is one
abbrev pub always : {A B : Type 0} → B → A → B
always y x = y
