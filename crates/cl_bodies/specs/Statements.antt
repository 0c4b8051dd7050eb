-- The statements that display forms do not have. Each row says first what makes the form itself wrong, and then its parts from left to right.
use Rattle.std.specs.Prelude.{ℕ, Bool, true, false, if◌then◌else◌, List, [], ◌∷◌, codes}
use Rattle.std.specs.Str.{bytes_eq}
use Rattle.cl_syntax.specs.Expr.{bindings_of}
use Rattle.cl_syntax.specs.ActTree as act
use Rattle.cl_syntax.specs.ActTree.{ActTree, act_trees_of}
use Rattle.cl_forms.specs.Datum.{Datum, Datums, offset, parts_of}
use Rattle.cl_expressions.specs.Load.{Load, ◌>>=◌, give, refuse, noted}
use Rattle.cl_expressions.specs.Scopes.{Names}
use Rattle.cl_words.specs.Signatures.{slot_in, command_in, dialog_in}
use Rattle.cl_forms.specs.Naming.{symbol_of}
use Rattle.cl_expressions.specs.Expressions.{Sub, named_part}
use Rattle.cl_words.specs.declared.heads.Head.{Head}
use Rattle.cl_words.specs.declared.heads.Head.TheVariants as head
use Rattle.cl_words.specs.declared.heads.Change.{Change}
use Rattle.cl_words.specs.declared.heads.Change.TheVariants as change
use Rattle.cl_words.specs.declared.signatures.Signatures.{Signatures}
use Rattle.cl_bodies.specs.declared.own.Own.{Own}
use Rattle.cl_bodies.specs.declared.own.Own.TheVariants.{Whole}
use Rattle.cl_bodies.specs.Bodies.{Language, parse_form, parse_body}

-- the name of a slot, which is noted where no such slot is declared
abbrev pub parse_place_name : Signatures → ℕ → Datum → Load (List ℕ)
parse_place_name w at d = named_part at d >>= λ x. noted (slot_in w x) (offset d) >>= λ u. give x

-- the name in the parts of `(slot NAME)`
abbrev pub parse_place : Signatures → ℕ → List Datum → Load (List ℕ)
parse_place w at (h ∷ n ∷ []) = if bytes_eq (symbol_of h) (codes "slot") then parse_place_name w at n else refuse 6 at
parse_place w at ds = refuse 6 at

-- `(setf (slot NAME) E)`
abbrev pub parse_setf : Signatures → ℕ → List Sub → Names → Load ActTree
parse_setf w at (a ∷ b ∷ []) env = parse_place w at (parts_of a.shape) >>= λ x. b.expr env >>= λ t. give (act.Setf x t)
parse_setf w at subs env = refuse 6 at

-- `(reply E)`
abbrev pub parse_reply : ℕ → List Sub → Names → Load ActTree
parse_reply at (a ∷ []) env = a.expr env >>= λ t. give (act.Reply t)
parse_reply at subs env = refuse 6 at

-- the name of a command, which is noted where no such command is declared
abbrev pub parse_command_name : Signatures → ℕ → Datum → Load (List ℕ)
parse_command_name w at d = named_part at d >>= λ x. noted (command_in w x) (offset d) >>= λ u. give x

-- `(enable COMMAND)` where it is switched on, `(disable COMMAND)` where it is switched off
abbrev pub parse_switch : Signatures → Bool → ℕ → List Sub → Load ActTree
parse_switch w on at (a ∷ []) = parse_command_name w at a.shape >>= λ x. give (act.Switch x on)
parse_switch w on at subs = refuse 6 at

-- the name of a dialog, which is noted where no such dialog is declared
abbrev pub parse_dialog_name : Signatures → ℕ → Datum → Load (List ℕ)
parse_dialog_name w at d = named_part at d >>= λ x. noted (dialog_in w x) (offset d) >>= λ u. give x

-- `(open-dialog DIALOG)`
abbrev pub parse_open_dialog : Signatures → ℕ → List Sub → Load ActTree
parse_open_dialog w at (a ∷ []) = parse_dialog_name w at a.shape >>= λ x. give (act.OpenDialog x)
parse_open_dialog w at subs = refuse 6 at

-- the statements that change or answer something
abbrev pub parse_change : Signatures → Change → ℕ → List Sub → Names → Load ActTree
parse_change w change.Setf at subs env = parse_setf w at subs env
parse_change w change.Reply at subs env = parse_reply at subs env
parse_change w change.Enable at subs env = parse_switch w true at subs
parse_change w change.Disable at subs env = parse_switch w false at subs
parse_change w change.OpenDialog at subs env = parse_open_dialog w at subs

-- what heads no statement is refused as a word that is not known
abbrev pub parse_own : Signatures → Head → ℕ → ℕ → List Sub → Names → Load (Own ActTree (Unit {0}) (Unit {0}))
parse_own w (head.Change k) head_at at subs env = parse_change w k at subs env >>= λ s. give (Whole s)
parse_own w other head_at at subs env = refuse 5 head_at

-- no statement has a body of its own, so nothing stands before one
abbrev pub closed : Unit {0} → List ActTree → ActTree
closed o ss = act.Progn (act_trees_of ss)

-- the language of statements; nothing is called by its name
abbrev pub statements : Language ActTree (Unit {0}) (Unit {0})
statements = record {
  choice = act.If;
  when = λ t ss. act.When t (act_trees_of ss);
  bind = λ bs ss. act.Let (bindings_of bs) (act_trees_of ss);
  each = λ x t ss. act.Dolist x t (act_trees_of ss);
  sequence = λ ss. act.Progn (act_trees_of ss);
  own = λ w c. parse_own w;
  call = λ w x head_at at subs env. refuse 5 head_at;
  closed = closed;
}

-- the statement that a datum is
abbrev pub parse_act : Signatures → Datum → Names → Load ActTree
parse_act w d env = parse_form statements w tt d env

-- the statements of a body
abbrev pub parse_acts : Signatures → Datums → Names → Load (List ActTree)
parse_acts w ds env = parse_body statements w tt ds env
