-- What statements do. Later statements see the slots that earlier ones set.
-- Traps, beside those of expressions: 1 a slot that is given what is no member of its type; 7 replies of more than 65,536 bytes.
use Rattle.std.specs.Prelude.{ℕ, zero, suc, ◌+◌, Bool, nat_le, if◌then◌else◌, List, [], ◌∷◌, ◌++◌, length, Option, Some, None, Result, Ok, Err}
use Rattle.cl_eval.specs.declared.effects.TheConstants.{MAX_REPLY_BYTES}
use Rattle.cl_value.specs.Data.{Data, text}
use Rattle.cl_syntax.specs.ActTree as act
use Rattle.cl_syntax.specs.ActTree.{ActTree, ActTrees, none, statement}
use Rattle.cl_syntax.specs.ExprTree.{Bindings}
use Rattle.cl_application.specs.App.{slot_type}
use Rattle.cl_application.specs.declared.applications.App.{App}
use Rattle.cl_syntax.specs.TypeSpecTree.{TypeSpecTree}
use Rattle.cl_eval.specs.declared.effects.Effects.{Effects}
use Rattle.cl_eval.specs.Outcome.{Run, give, trap, lift, ◌>>=◌}
use Rattle.cl_eval.specs.Slots.{Slots, Env, put}
use Rattle.cl_eval.specs.Meaning.{Go, bind_each, entering, truth_of, parts_of_list, means}

-- whether a value is a member of a type
abbrev pub Member : Type 0
Member = Data → TypeSpecTree → Bool

-- the meaning of the statements inside, at a level
abbrev pub Does : Type 0
Does = ℕ → Env → ActTree → Effects → Run Effects

-- a slot takes members of its type alone
abbrev pub assign_slot : Member → List ℕ → Option TypeSpecTree → Effects → Data → Result Effects ℕ
assign_slot member x None s d = Err 1
assign_slot member x (Some spec) s d = if member d spec then Ok (record s { slots = put x d s.slots }) else Err 1

-- one reply more
abbrev pub add_reply : List ℕ → Effects → Effects
add_reply t s = record s { replies = s.replies ++ t ∷ []; reply_bytes = s.reply_bytes + length t }

-- a reply is a text
abbrev pub reply_with : Effects → Data → Result Effects ℕ
reply_with s (text t) = if nat_le (s.reply_bytes + length t) MAX_REPLY_BYTES then Ok (add_reply t s) else Err 7
reply_with s d = Err 1

-- one command more that is switched on or off
abbrev pub add_switch : List ℕ → Bool → Effects → Effects
add_switch x on s = record s { switches = s.switches ++ (x, on) ∷ [] }

-- this dialog was opened last
abbrev pub with_dialog : List ℕ → Effects → Effects
with_dialog x s = record s { dialog = Some x }

-- statements in order, each from the effects of the ones before it
abbrev pub in_turn : Does → ℕ → Env → ActTrees → Effects → Run Effects
in_turn go level env none s = give s
in_turn go level env (statement a rest) s = go level env a s >>= in_turn go level env rest

-- the statements for each of these values
abbrev pub for_each : Does → ℕ → Env → List ℕ → ActTrees → List Data → Effects → Run Effects
for_each go level env x body [] s = give s
for_each go level env x body (d ∷ ds) s = in_turn go level ((x, d) ∷ env) body s >>= for_each go level env x body ds

-- the statements behind bindings
abbrev pub acts_in : Go → Does → ℕ → Bindings → ActTrees → Env → Effects → Run Effects
acts_in value go level bs body env s = bind_each value level bs env >>= λ inner. in_turn go level inner body s

-- a statement that was entered, by the meaning of its expressions on the slots so far and of the statements inside
abbrev pub act_parts : App → Member → (Slots → Go) → Does → ℕ → Env → ActTree → Effects → Run Effects
act_parts app member value go level env (act.Setf x t) s = value s.slots level env t >>= λ d. lift (assign_slot member x (slot_type x app) s d)
act_parts app member value go level env (act.Reply t) s = value s.slots level env t >>= λ d. lift (reply_with s d)
act_parts app member value go level env (act.Switch x on) s = give (add_switch x on s)
act_parts app member value go level env (act.OpenDialog x) s = give (with_dialog x s)
act_parts app member value go level env (act.If t a b) s =
    truth_of (value s.slots) level env t >>= λ yes. if yes then go level env a s else go level env b s
act_parts app member value go level env (act.When t body) s =
    truth_of (value s.slots) level env t >>= λ yes. if yes then in_turn go level env body s else give s
act_parts app member value go level env (act.Let bs body) s = acts_in (value s.slots) go level bs body env s
act_parts app member value go level env (act.Dolist x t body) s =
    parts_of_list (value s.slots) level env t >>= λ ds. for_each go level env x body ds s
act_parts app member value go level env (act.Progn body) s = in_turn go level env body s

-- a statement, where so many levels are left, below this level
abbrev pub does : ℕ → ℕ → App → Member → Does
does zero budget app member level env a s = entering 0 budget level >>= λ _. trap 6
does (suc left) budget app member level env a s =
    entering (suc left) budget level >>= λ _. act_parts app member (means left budget app) (does left budget app member) (level + 1) env a s
