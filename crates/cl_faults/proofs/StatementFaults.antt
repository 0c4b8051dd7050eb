-- The faults of a statement stand in it.
use Rattle.std.proofs.Common.{ℕ, Bool, true, false, List, [], ◌∷◌}
use Rattle.std.specs.Prelude.{codes}
use Rattle.std.specs.Str.{bytes_eq}
use Rattle.cl_forms.specs.Datum.{Datum, Datums, offset, parts_of}
use Rattle.cl_forms.specs.Naming.{symbol_of}
use Rattle.cl_expressions.specs.Expressions.{Sub}
use Rattle.cl_expressions.specs.Scopes.{Names}
use Rattle.cl_words.specs.Signatures.{slot_in, command_in, dialog_in}
use Rattle.cl_words.specs.declared.heads.Change.{Change}
use Rattle.cl_words.specs.declared.heads.Change.TheVariants as change
use Rattle.cl_words.specs.declared.heads.Head.{Head}
use Rattle.cl_words.specs.declared.heads.Head.TheVariants as head
use Rattle.cl_words.specs.declared.signatures.Signatures.{Signatures}
use Rattle.cl_bodies.specs.Statements.{parse_place_name, parse_place, parse_setf, parse_reply, parse_command_name, parse_switch, parse_dialog_name}
use Rattle.cl_bodies.specs.Statements.{parse_open_dialog, parse_change, parse_own, statements, parse_acts}
use Rattle.cl_faults.proofs.FaultLemmas.{FaultsAt, gives, refuses, notes_then, binds, chooses, asks_name}
use Rattle.cl_faults.proofs.ExpressionFaults.{CoversAll, CoversParts}
use Rattle.cl_faults.proofs.BodyFaults.{OwnFaults, body_faults}

module _ {P : ℕ → Type 0} where
  place_name_faults : (w : Signatures) (at : ℕ) (d : Datum) → P at → FaultsAt P (parse_place_name w at d)
  place_name_faults w at d h = binds (asks_name at d h) λ x. notes_then (slot_in w x) (offset d) x

  place_faults : (w : Signatures) (at : ℕ) (ds : List Datum) → P at → FaultsAt P (parse_place w at ds)
  place_faults w at (d ∷ n ∷ []) h = chooses (bytes_eq (symbol_of d) (codes "slot")) (place_name_faults w at n h) (refuses h)
  place_faults w at ds h = refuses h

  setf_faults : (w : Signatures) (at : ℕ) (ps : List Sub) (env : Names) → P at → CoversParts P ps → FaultsAt P (parse_setf w at ps env)
  setf_faults w at (a ∷ b ∷ []) env h k = binds (place_faults w at (parts_of a.shape) h) λ x. binds (k.1.0.expr env) λ t. gives
  setf_faults w at ps env h k = refuses h

  reply_faults : (at : ℕ) (ps : List Sub) (env : Names) → P at → CoversParts P ps → FaultsAt P (parse_reply at ps env)
  reply_faults at (a ∷ []) env h k = binds (k.0.expr env) λ t. gives
  reply_faults at ps env h k = refuses h

  command_name_faults : (w : Signatures) (at : ℕ) (d : Datum) → P at → FaultsAt P (parse_command_name w at d)
  command_name_faults w at d h = binds (asks_name at d h) λ x. notes_then (command_in w x) (offset d) x

  switch_faults : (w : Signatures) (on : Bool) (at : ℕ) (ps : List Sub) → P at → FaultsAt P (parse_switch w on at ps)
  switch_faults w on at (a ∷ []) h = binds (command_name_faults w at a.shape h) λ x. gives
  switch_faults w on at ps h = refuses h

  dialog_name_faults : (w : Signatures) (at : ℕ) (d : Datum) → P at → FaultsAt P (parse_dialog_name w at d)
  dialog_name_faults w at d h = binds (asks_name at d h) λ x. notes_then (dialog_in w x) (offset d) x

  open_dialog_faults : (w : Signatures) (at : ℕ) (ps : List Sub) → P at → FaultsAt P (parse_open_dialog w at ps)
  open_dialog_faults w at (a ∷ []) h = binds (dialog_name_faults w at a.shape h) λ x. gives
  open_dialog_faults w at ps h = refuses h

  change_faults : (w : Signatures) (k : Change) (at : ℕ) (ps : List Sub) (env : Names) → P at → CoversParts P ps
      → FaultsAt P (parse_change w k at ps env)
  change_faults w change.Setf at ps env h k = setf_faults w at ps env h k
  change_faults w change.Reply at ps env h k = reply_faults at ps env h k
  change_faults w change.Enable at ps env h k = switch_faults w true at ps h
  change_faults w change.Disable at ps env h k = switch_faults w false at ps h
  change_faults w change.OpenDialog at ps env h k = open_dialog_faults w at ps h

  own_faults : (w : Signatures) (h : Head) (head_at at : ℕ) (ps : List Sub) (env : Names) → P head_at → P at → CoversParts P ps
      → FaultsAt P (parse_own w h head_at at ps env)
  own_faults w (head.Change e) head_at at ps env g h k = binds (change_faults w e at ps env h k) λ s. gives
  own_faults w other head_at at ps env g h k = refuses g

  statement_faults : OwnFaults P statements
  statement_faults = record { own = λ w c. own_faults w; call = λ w x head_at at ps env g h k. refuses g }

  pub acts_faults : (w : Signatures) (ds : Datums) (env : Names) → CoversAll P ds → FaultsAt P (parse_acts w ds env)
  acts_faults w ds env c = body_faults statements statement_faults w tt ds env c
