-- Predicates, present methods and accept methods: what the evaluator gives for them. Predicates and accept methods run on a counter of their own.
use Rattle.std.specs.Prelude.{ℕ, Bool, false, List, [], ◌∷◌, Option, Some, None, Result, Ok, Err}
use Rattle.cl_value.specs.Data.{Data, Items, none, item, bool, int, list, null, rec, symbol, text}
use Rattle.cl_application.specs.App.{function_named}
use Rattle.cl_application.specs.declared.applications.App.{App}
use Rattle.cl_application.specs.declared.declarations.MethodDecl.{MethodDecl}
use Rattle.cl_eval.specs.Meaning.{Go, call_function, means}
use Rattle.cl_eval.specs.Outcome.{Outcome, Gives, Traps, Run, lift, ◌>>=◌}
use Rattle.cl_eval.specs.Slots.{Slots}
use Rattle.cl_eval.specs.declared.metering.TheConstants.{MAX_DEPTH, OWN_BUDGET}
use Rattle.cl_lattice.specs.Members.{Answers}

-- what a text reads as: an object, nothing, or the trap of an accept method
pub data Reading : Type 0 where
  Object : Data → Reading
  Nothing : Reading
  Trap : ℕ → Reading

-- the object that is read, if any
abbrev pub read_object : Reading → Option Data
read_object (Object d) = Some d
read_object Nothing = None
read_object (Trap kind) = None

-- the meaning of expressions on a counter of its own
unfoldable pub own_meaning : App → Slots → Go
own_meaning app slots = means MAX_DEPTH OWN_BUDGET app slots

-- the value of a run by itself, or the kind of its trap
abbrev pub ending : Outcome Data → Result Data ℕ
ending (Gives d cost deepest) = Ok d
ending (Traps kind cost deepest) = Err kind

-- ---- predicates

-- whether a run ends with `true`
abbrev pub is_true : Result Data ℕ → Bool
is_true (Ok (int z)) = false
is_true (Ok (bool b)) = b
is_true (Ok (text s)) = false
is_true (Ok (symbol s)) = false
is_true (Ok null) = false
is_true (Ok (list ds)) = false
is_true (Ok (rec x ds)) = false
is_true (Err kind) = false

-- a predicate is true where its function, given the value and then each argument of the type, ends with `true`; it reads no slot
abbrev pub predicates_of : App → Answers
predicates_of app f d ds = is_true (ending (call_function (own_meaning app []) 0 (function_named f app) (d ∷ ds) 0 0))

-- ---- present methods

-- the bytes of a text, where one is asked for
abbrev pub bytes_in : Data → Result (List ℕ) ℕ
bytes_in (int z) = Err 1
bytes_in (bool b) = Err 1
bytes_in (text s) = Ok s
bytes_in (symbol s) = Err 1
bytes_in null = Err 1
bytes_in (list ds) = Err 1
bytes_in (rec x ds) = Err 1

-- the text that a method gives of a value, by the meaning of expressions at a level
abbrev pub presented : Go → ℕ → MethodDecl → Data → Run (List ℕ)
presented go level m d = go level ((m.parameter, d) ∷ []) m.body >>= λ e. lift (bytes_in e)

-- ---- accept methods

-- the one part of a list
abbrev pub object_alone : Items → Reading
object_alone none = Trap 1
object_alone (item d none) = Object d
object_alone (item d (item e ds)) = Trap 1

-- null is nothing, a list of one object is that object
abbrev pub object_in : Data → Reading
object_in (int z) = Trap 1
object_in (bool b) = Trap 1
object_in (text s) = Trap 1
object_in (symbol s) = Trap 1
object_in null = Nothing
object_in (list ds) = object_alone ds
object_in (rec x ds) = Trap 1

-- what an accept method reads, by the value of its run or the kind of its trap
abbrev pub object_of : Result Data ℕ → Reading
object_of (Ok d) = object_in d
object_of (Err kind) = Trap kind

-- what a method reads a text as
abbrev pub accepted : App → Slots → MethodDecl → List ℕ → Reading
accepted app slots m x = object_of (ending (own_meaning app slots 0 ((m.parameter, text x) ∷ []) m.body 0 0))
