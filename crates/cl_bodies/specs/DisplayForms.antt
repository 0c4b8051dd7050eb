-- The display forms that statements do not have. Each row says first what makes the form itself wrong, and then its parts from left to right.
use Rattle.std.specs.Prelude.{ℕ, ◌==◌, if◌then◌else◌, List, [], ◌∷◌, length, Option, Some, None}
use Rattle.cl_syntax.specs.Expr.{bindings_of}
use Rattle.cl_syntax.specs.ExprTree.{expr_trees_of}
use Rattle.cl_syntax.specs.ShapeTree as shape
use Rattle.cl_syntax.specs.ShapeTree.{ShapeTree, shape_trees_of}
use Rattle.cl_syntax.specs.declared.figures.Figure.{Figure}
use Rattle.cl_forms.specs.Datum.{Datum, Datums, parts_of}
use Rattle.cl_expressions.specs.Load.{Load, ◌>>=◌, give, refuse}
use Rattle.cl_expressions.specs.Scopes.{Names}
use Rattle.cl_words.specs.Heads.{figure_count}
use Rattle.cl_words.specs.Signatures.{display_in}
use Rattle.cl_expressions.specs.Expressions.{Sub, parse_each}
use Rattle.cl_forms.specs.Naming.{fits}
use Rattle.cl_words.specs.declared.heads.Head.{Head}
use Rattle.cl_words.specs.declared.heads.Head.TheVariants as head
use Rattle.cl_words.specs.declared.heads.Planned.TheVariants as planned
use Rattle.cl_words.specs.declared.heads.Writing.{Writing}
use Rattle.cl_words.specs.declared.heads.Writing.TheVariants as writing
use Rattle.cl_words.specs.declared.heads.Setting.{Setting}
use Rattle.cl_words.specs.declared.heads.Setting.TheVariants as setting
use Rattle.cl_words.specs.declared.signatures.Signatures.{Signatures}
use Rattle.cl_bodies.specs.declared.own.Own.{Own}
use Rattle.cl_bodies.specs.declared.own.Own.TheVariants.{Whole, Before}
use Rattle.cl_bodies.specs.declared.display_forms.Context.{Context}
use Rattle.cl_bodies.specs.declared.display_forms.Context.TheVariants as context
use Rattle.cl_bodies.specs.declared.display_forms.Opening.{Opening}
use Rattle.cl_bodies.specs.declared.display_forms.Opening.TheVariants as opening
use Rattle.cl_bodies.specs.Bodies.{Language, parse_form, parse_body}
use Rattle.cl_bodies.specs.Presentations.{parse_present, parse_presented}
use Rattle.cl_bodies.specs.Updates.{parse_update_list}

-- ---- forms of expressions alone

-- `(draw-point E E E)` and its kin, each of its own number of parts
abbrev pub parse_draw : Figure → ℕ → List Sub → Names → Load ShapeTree
parse_draw figure at subs env =
    if figure_count figure == length subs then (parse_each subs env >>= λ ts. give (shape.Draw figure (expr_trees_of ts))) else refuse 6 at

-- `(write-text E)`
abbrev pub parse_write : ℕ → List Sub → Names → Load ShapeTree
parse_write at (a ∷ []) env = a.expr env >>= λ t. give (shape.WriteText t)
parse_write at subs env = refuse 6 at

-- `(newline)`
abbrev pub parse_newline : ℕ → List Sub → Load ShapeTree
parse_newline at [] = give shape.Newline
parse_newline at (a ∷ subs) = refuse 6 at

-- a call of what has this count of parameters, if a display
abbrev pub parse_call_counted : Option (Option ℕ) → List ℕ → ℕ → ℕ → List Sub → Names → Load ShapeTree
parse_call_counted None x head_at at subs env = refuse 5 head_at
parse_call_counted (Some count) x head_at at subs env =
    if fits count (length subs) then (parse_each subs env >>= λ ts. give (shape.Call x (expr_trees_of ts))) else refuse 6 at

-- `(DISPLAY E ...)`
abbrev pub parse_call : Signatures → List ℕ → ℕ → ℕ → List Sub → Names → Load ShapeTree
parse_call w x head_at at subs env = parse_call_counted (display_in w x) x head_at at subs env

-- the forms that write
abbrev pub parse_writing : Signatures → Writing → ℕ → List Sub → Names → Load ShapeTree
parse_writing w writing.WriteText at subs env = parse_write at subs env
parse_writing w writing.Newline at subs env = parse_newline at subs
parse_writing w writing.Present at subs env = parse_present w at subs env

-- ---- forms that set something for their bodies

-- `(indenting-output E FORM ...)`
abbrev pub parse_indent : Context → ℕ → List Sub → Names → Load (Own ShapeTree Opening Context)
parse_indent c at [] env = refuse 6 at
parse_indent c at (a ∷ subs) env = a.expr env >>= λ t. give (Before (opening.Indent t) 1 c)

-- `(with-ink E FORM ...)`
abbrev pub parse_ink : Context → ℕ → List Sub → Names → Load (Own ShapeTree Opening Context)
parse_ink c at [] env = refuse 6 at
parse_ink c at (a ∷ subs) env = a.expr env >>= λ t. give (Before (opening.Ink t) 1 c)

-- `(with-output-as-presentation (E SPECIFIER :single-box BOOL) FORM ...)`
abbrev pub parse_presentation : Signatures → Context → ℕ → List Sub → Names → Load (Own ShapeTree Opening Context)
parse_presentation w c at [] env = refuse 6 at
parse_presentation w c at (a ∷ subs) env = parse_presented w at (parts_of a.shape) env >>= λ p. give (Before (opening.Presentation p) 1 c)

-- `(updating-output (:unique-id E :cache-value (list PATH ...)) FORM ...)`
abbrev pub parse_update : Signatures → Context → ℕ → List Sub → Names → Load (Own ShapeTree Opening Context)
parse_update w c at [] env = refuse 6 at
parse_update w c at (a ∷ subs) env = parse_update_list w at a.shape env >>= λ u. give (Before (opening.Update u) 1 c)

-- the third is `(with-room-for-graphics FORM ...)`; the body stands in what the form stands in
abbrev pub parse_setting : Signatures → Context → Setting → ℕ → List Sub → Names → Load (Own ShapeTree Opening Context)
parse_setting w c setting.Indent at subs env = parse_indent c at subs env
parse_setting w c setting.Ink at subs env = parse_ink c at subs env
parse_setting w c setting.Room at subs env = give (Before opening.Room 0 c)
parse_setting w c setting.Presentation at subs env = parse_presentation w c at subs env
parse_setting w c setting.Update at subs env = parse_update w c at subs env

-- ---- by the head

-- a display form that is not built yet is refused as such; what heads no display form, as a word that is not known
abbrev pub parse_own : Signatures → Context → Head → ℕ → ℕ → List Sub → Names → Load (Own ShapeTree Opening Context)
parse_own w c (head.Figure f) head_at at subs env = parse_draw f at subs env >>= λ s. give (Whole s)
parse_own w c (head.Setting s) head_at at subs env = parse_setting w c s at subs env
parse_own w c (head.Writing k) head_at at subs env = parse_writing w k at subs env >>= λ s. give (Whole s)
parse_own w c (head.Planned planned.Display) head_at at subs env = refuse 0 head_at
parse_own w c other head_at at subs env = refuse 5 head_at

-- a form that sets something, with its body
abbrev pub closed : Opening → List ShapeTree → ShapeTree
closed (opening.Indent t) fs = shape.Indent t (shape_trees_of fs)
closed (opening.Ink t) fs = shape.Ink t (shape_trees_of fs)
closed opening.Room fs = shape.Room (shape_trees_of fs)
closed (opening.Presentation p) fs = shape.AsPresentation p (shape_trees_of fs)
closed (opening.Update u) fs = shape.Update u (shape_trees_of fs)

-- the language of display forms
abbrev pub display_forms : Language ShapeTree Opening Context
display_forms = record {
  choice = shape.If;
  when = λ t fs. shape.When t (shape_trees_of fs);
  bind = λ bs fs. shape.Let (bindings_of bs) (shape_trees_of fs);
  each = λ x t fs. shape.Dolist x t (shape_trees_of fs);
  sequence = λ fs. shape.Progn (shape_trees_of fs);
  own = parse_own;
  call = parse_call;
  closed = closed;
}

-- the display form that a datum is
abbrev pub parse_shape : Signatures → Datum → Names → Load ShapeTree
parse_shape w d env = parse_form display_forms w context.Display d env

-- the display forms of a body
abbrev pub parse_shapes : Signatures → Datums → Names → Load (List ShapeTree)
parse_shapes w ds env = parse_body display_forms w context.Display ds env
