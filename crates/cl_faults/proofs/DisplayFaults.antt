-- The faults of a display form stand in it.
use Rattle.std.proofs.Common.{ℕ, Bool, ◌==◌, List, [], ◌∷◌, length}
use Rattle.std.specs.Prelude.{Option, Some, None}
use Rattle.cl_syntax.specs.ExprTree.{ExprTree}
use Rattle.cl_syntax.specs.PresentationTree.{PresentationTree}
use Rattle.cl_syntax.specs.TypeSpecTree.{TypeSpecTree}
use Rattle.cl_syntax.specs.declared.figures.Figure.{Figure}
use Rattle.cl_forms.specs.Datum.{Datum, Datums, parts_of}
use Rattle.cl_forms.specs.Naming.{fits}
use Rattle.cl_expressions.specs.Expressions.{Sub}
use Rattle.cl_expressions.specs.Scopes.{Names}
use Rattle.cl_words.specs.Heads.{figure_count}
use Rattle.cl_words.specs.Signatures.{display_in}
use Rattle.cl_words.specs.declared.heads.Head.{Head}
use Rattle.cl_words.specs.declared.heads.Head.TheVariants as head
use Rattle.cl_words.specs.declared.heads.Planned.TheVariants as planned
use Rattle.cl_words.specs.declared.heads.Setting.{Setting}
use Rattle.cl_words.specs.declared.heads.Setting.TheVariants as setting
use Rattle.cl_words.specs.declared.heads.Writing.{Writing}
use Rattle.cl_words.specs.declared.heads.Writing.TheVariants as writing
use Rattle.cl_words.specs.declared.signatures.Signatures.{Signatures}
use Rattle.cl_bodies.specs.declared.display_forms.Context.{Context}
use Rattle.cl_bodies.specs.declared.display_forms.Context.TheVariants as context
use Rattle.cl_bodies.specs.DisplayForms.{parse_draw, parse_write, parse_newline, parse_call_counted, parse_call, parse_writing, parse_indent, parse_ink}
use Rattle.cl_bodies.specs.DisplayForms.{parse_presentation, parse_update, parse_setting, parse_own, display_forms, parse_shapes}
use Rattle.cl_bodies.specs.Presentations.{parse_present, single_box_in, parse_boxed, parse_presented}
use Rattle.cl_faults.proofs.FaultLemmas.{FaultsAt, gives, refuses, binds, chooses}
use Rattle.cl_faults.proofs.ExpressionFaults.{Covers, CoversAll, CoversParts, each_faults, expr_faults}
use Rattle.cl_faults.proofs.DataFaults.{CoversEach, covers_parts}
use Rattle.cl_faults.proofs.TypeFaults.{type_faults}
use Rattle.cl_faults.proofs.UpdateFaults.{update_list_faults}
use Rattle.cl_faults.proofs.BodyFaults.{OwnFaults, body_faults}

abbrev presentation_of : ExprTree → TypeSpecTree → Bool → PresentationTree
presentation_of t s single_box = record { object = t; spec = s; single_box = single_box }

module _ {P : ℕ → Type 0} where
  draw_faults : (figure : Figure) (at : ℕ) (ps : List Sub) (env : Names) → P at → CoversParts P ps → FaultsAt P (parse_draw figure at ps env)
  draw_faults figure at ps env h k = chooses (figure_count figure == length ps) (binds (each_faults ps env k) λ ts. gives) (refuses h)

  write_faults : (at : ℕ) (ps : List Sub) (env : Names) → P at → CoversParts P ps → FaultsAt P (parse_write at ps env)
  write_faults at (a ∷ []) env h k = binds (k.0.expr env) λ t. gives
  write_faults at ps env h k = refuses h

  newline_faults : (at : ℕ) (ps : List Sub) → P at → FaultsAt P (parse_newline at ps)
  newline_faults at [] h = gives
  newline_faults at (a ∷ ps) h = refuses h

  call_counted_faults : (c : Option (Option ℕ)) (x : List ℕ) (head_at at : ℕ) (ps : List Sub) (env : Names) → P head_at → P at → CoversParts P ps
      → FaultsAt P (parse_call_counted c x head_at at ps env)
  call_counted_faults None x head_at at ps env g h k = refuses g
  call_counted_faults (Some count) x head_at at ps env g h k =
      chooses (fits count (length ps)) (binds (each_faults ps env k) λ ts. gives) (refuses h)

  call_faults : (w : Signatures) (x : List ℕ) (head_at at : ℕ) (ps : List Sub) (env : Names) → P head_at → P at → CoversParts P ps
      → FaultsAt P (parse_call w x head_at at ps env)
  call_faults w x head_at at ps env g h k = call_counted_faults (display_in w x) x head_at at ps env g h k

  present_faults : (w : Signatures) (at : ℕ) (ps : List Sub) (env : Names) → P at → CoversParts P ps → FaultsAt P (parse_present w at ps env)
  present_faults w at (a ∷ b ∷ []) env h k = binds (k.0.expr env) λ t. binds (type_faults w [] b.shape k.1.0.shape) λ s. gives
  present_faults w at ps env h k = refuses h

  writing_faults : (w : Signatures) (k : Writing) (at : ℕ) (ps : List Sub) (env : Names) → P at → CoversParts P ps
      → FaultsAt P (parse_writing w k at ps env)
  writing_faults w writing.WriteText at ps env h k = write_faults at ps env h k
  writing_faults w writing.Newline at ps env h k = newline_faults at ps h
  writing_faults w writing.Present at ps env h k = present_faults w at ps env h k

  indent_faults : (c : Context) (at : ℕ) (ps : List Sub) (env : Names) → P at → CoversParts P ps → FaultsAt P (parse_indent c at ps env)
  indent_faults c at [] env h k = refuses h
  indent_faults c at (a ∷ ps) env h k = binds (k.0.expr env) λ t. gives

  ink_faults : (c : Context) (at : ℕ) (ps : List Sub) (env : Names) → P at → CoversParts P ps → FaultsAt P (parse_ink c at ps env)
  ink_faults c at [] env h k = refuses h
  ink_faults c at (a ∷ ps) env h k = binds (k.0.expr env) λ t. gives

  boxed_faults : (w : Signatures) (at : ℕ) (e s : Datum) (single_box : Option Bool) (env : Names) → P at → Covers P e → Covers P s
      → FaultsAt P (parse_boxed w at e s single_box env)
  boxed_faults w at e s None env h c d = refuses h
  boxed_faults w at e s (Some single_box) env h c d =
      binds (expr_faults w e env c) λ t. binds (type_faults w [] s d) λ spec. gives {x = presentation_of t spec single_box}

  presented_faults : (w : Signatures) (at : ℕ) (ds : List Datum) (env : Names) → P at → CoversEach P ds → FaultsAt P (parse_presented w at ds env)
  presented_faults w at (e ∷ s ∷ ks) env h c = boxed_faults w at e s (single_box_in ks) env h c.0 c.1.0
  presented_faults w at ds env h c = refuses h

  presentation_faults : (w : Signatures) (c : Context) (at : ℕ) (ps : List Sub) (env : Names) → P at → CoversParts P ps
      → FaultsAt P (parse_presentation w c at ps env)
  presentation_faults w c at [] env h k = refuses h
  presentation_faults w c at (a ∷ ps) env h k =
      binds (presented_faults w at (parts_of a.shape) env h (covers_parts a.shape k.0.shape)) λ p. gives

  update_faults : (w : Signatures) (c : Context) (at : ℕ) (ps : List Sub) (env : Names) → P at → CoversParts P ps
      → FaultsAt P (parse_update w c at ps env)
  update_faults w c at [] env h k = refuses h
  update_faults w c at (a ∷ ps) env h k = binds (update_list_faults w at a.shape env h k.0.shape) λ u. gives

  setting_faults : (w : Signatures) (c : Context) (s : Setting) (at : ℕ) (ps : List Sub) (env : Names) → P at → CoversParts P ps
      → FaultsAt P (parse_setting w c s at ps env)
  setting_faults w c setting.Indent at ps env h k = indent_faults c at ps env h k
  setting_faults w c setting.Ink at ps env h k = ink_faults c at ps env h k
  setting_faults w c setting.Room at ps env h k = gives
  setting_faults w c setting.Presentation at ps env h k = presentation_faults w c at ps env h k
  setting_faults w c setting.Update at ps env h k = update_faults w c at ps env h k

  own_faults : (w : Signatures) (c : Context) (h : Head) (head_at at : ℕ) (ps : List Sub) (env : Names) → P head_at → P at → CoversParts P ps
      → FaultsAt P (parse_own w c h head_at at ps env)
  own_faults w c (head.Figure f) head_at at ps env g h k = binds (draw_faults f at ps env h k) λ s. gives
  own_faults w c (head.Setting s) head_at at ps env g h k = setting_faults w c s at ps env h k
  own_faults w c (head.Writing e) head_at at ps env g h k = binds (writing_faults w e at ps env h k) λ s. gives
  own_faults w c (head.Planned planned.Display) head_at at ps env g h k = refuses g
  own_faults w c other head_at at ps env g h k = refuses g

  display_faults : OwnFaults P display_forms
  display_faults = record { own = own_faults; call = call_faults }

  pub shapes_faults : (w : Signatures) (ds : Datums) (env : Names) → CoversAll P ds → FaultsAt P (parse_shapes w ds env)
  shapes_faults w ds env c = body_faults display_forms display_faults w context.Display ds env c
