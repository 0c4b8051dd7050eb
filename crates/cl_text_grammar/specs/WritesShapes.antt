-- How a display form is written: a row for each form of the language. Of its offsets only that of an update counts.
use Rattle.std.specs.Prelude.{◌≡◌, ℕ, Bool, true, false, List, [], ◌∷◌, length, Some, codes}
use Rattle.cl_syntax.specs.ExprTree.{ExprTree, ExprTrees, Bindings}
use Rattle.cl_syntax.specs.PresentationTree.{PresentationTree}
use Rattle.cl_syntax.specs.ShapeTree.{ShapeTree, ShapeTrees}
use Rattle.cl_syntax.specs.ShapeTree as shape
use Rattle.cl_syntax.specs.TypeSpecTree.{TypeSpecTree}
use Rattle.cl_syntax.specs.UpdateTree.{UpdateTree}
use Rattle.cl_syntax.specs.declared.figures.Figure.{Figure}
use Rattle.cl_table.specs.Names.{named}
use Rattle.cl_forms.specs.Datum.{Datum, Datums, word, list, item, none, in_order}
use Rattle.cl_forms.specs.Naming.{name_in}
use Rattle.cl_words.specs.declared.signatures.Signatures.{Signatures}
use Rattle.cl_grammar.specs.Heads.{IsCallable}
use Rattle.cl_grammar.specs.Writes.{Writes, WritesAll, WritesBindings}
use Rattle.cl_text_grammar.specs.Displays.{figures}
use Rattle.cl_text_grammar.specs.WritesTypes.{WritesType}
use Rattle.cl_text_grammar.specs.WritesUpdates.{WritesUpdate}

-- ---- what is presented

-- whether the whole box is sensitive writes the keys behind the specifier
pub data WritesBox : Bool → List Datum → Type 0 where
  -- no key: it is not
  no_box : WritesBox false []
  -- :single-box true
  the_box : {key_at at : ℕ} → WritesBox true (word (codes ":single-box") key_at ∷ word (codes "true") at ∷ [])
  -- :single-box false
  not_the_box : {key_at at : ℕ} → WritesBox false (word (codes ":single-box") key_at ∷ word (codes "false") at ∷ [])

-- an object, its type and its box write the parts of a list; a display has no parameters that could stand in the type
pub data WritesPresentation (w : Signatures) : PresentationTree → List Datum → Type 0 where
  -- E SPECIFIER :single-box BOOL
  an_object : {t : ExprTree} {s : TypeSpecTree} {b : Bool} {a d : Datum} {ds : List Datum} → Writes t a → WritesType w [] s d → WritesBox b ds
      → WritesPresentation w (record { object = t; spec = s; single_box = b }) (a ∷ d ∷ ds)

-- ---- forms

mutual
  -- a display form writes a datum
  pub data WritesShape (w : Signatures) : ShapeTree → Datum → Type 0 where
    a_form : {f : ShapeTree} {ds : Datums} {at : ℕ} → WritesShapeForm w at f (in_order ds) → WritesShape w f (list ds at)

  -- a display form at this offset writes the parts of a list
  pub data WritesShapeForm (w : Signatures) : ℕ → ShapeTree → List Datum → Type 0 where
    -- (write-text E)
    a_text : {t : ExprTree} {a : Datum} {at h : ℕ} → Writes t a → WritesShapeForm w at (shape.WriteText t) (word (codes "write-text") h ∷ a ∷ [])
    -- (newline)
    a_new_line : {at h : ℕ} → WritesShapeForm w at shape.Newline (word (codes "newline") h ∷ [])
    -- (draw-point X Y CHARACTER), and its kin
    a_figure : {x : List ℕ} {f : Figure} {ts : ExprTrees} {ds : List Datum} {at h : ℕ} → named x figures ≡ Some (f, length ds) → WritesAll ts ds
        → WritesShapeForm w at (shape.Draw f ts) (word x h ∷ ds)
    -- (indenting-output E FORM ...)
    an_indented : {t : ExprTree} {fs : ShapeTrees} {a : Datum} {ds : List Datum} {at h : ℕ} → Writes t a → WritesShapes w fs ds
        → WritesShapeForm w at (shape.Indent t fs) (word (codes "indenting-output") h ∷ a ∷ ds)
    -- (with-ink E FORM ...)
    an_inked : {t : ExprTree} {fs : ShapeTrees} {a : Datum} {ds : List Datum} {at h : ℕ} → Writes t a → WritesShapes w fs ds
        → WritesShapeForm w at (shape.Ink t fs) (word (codes "with-ink") h ∷ a ∷ ds)
    -- (with-room-for-graphics FORM ...)
    a_room : {fs : ShapeTrees} {ds : List Datum} {at h : ℕ} → WritesShapes w fs ds
        → WritesShapeForm w at (shape.Room fs) (word (codes "with-room-for-graphics") h ∷ ds)
    -- (present E SPECIFIER)
    a_presented : {t : ExprTree} {s : TypeSpecTree} {a b : Datum} {at h : ℕ} → Writes t a → WritesType w [] s b
        → WritesShapeForm w at (shape.Present t s) (word (codes "present") h ∷ a ∷ b ∷ [])
    -- (with-output-as-presentation (E SPECIFIER :single-box BOOL) FORM ...)
    a_presentation : {p : PresentationTree} {fs : ShapeTrees} {es : Datums} {ds : List Datum} {at list_at h : ℕ} → WritesPresentation w p (in_order es)
        → WritesShapes w fs ds → WritesShapeForm w at (shape.AsPresentation p fs) (word (codes "with-output-as-presentation") h ∷ list es list_at ∷ ds)
    -- (updating-output (:unique-id E :cache-value (list PATH ...)) FORM ...)
    an_updating : {u : UpdateTree} {fs : ShapeTrees} {es : Datums} {ds : List Datum} {at list_at h : ℕ} → WritesUpdate at u (in_order es)
        → WritesShapes w fs ds → WritesShapeForm w at (shape.Update u fs) (word (codes "updating-output") h ∷ list es list_at ∷ ds)
    -- (if TEST THEN ELSE)
    an_if : {t : ExprTree} {f g : ShapeTree} {a b c : Datum} {at h : ℕ} → Writes t a → WritesShape w f b → WritesShape w g c
        → WritesShapeForm w at (shape.If t f g) (word (codes "if") h ∷ a ∷ b ∷ c ∷ [])
    -- (when TEST FORM ...)
    a_when : {t : ExprTree} {fs : ShapeTrees} {a : Datum} {ds : List Datum} {at h : ℕ} → Writes t a → WritesShapes w fs ds
        → WritesShapeForm w at (shape.When t fs) (word (codes "when") h ∷ a ∷ ds)
    -- (let ((NAME E) ...) FORM ...)
    a_let : {bs : Bindings} {fs : ShapeTrees} {es : Datums} {ds : List Datum} {at list_at h : ℕ} → WritesBindings bs (in_order es) → WritesShapes w fs ds
        → WritesShapeForm w at (shape.Let bs fs) (word (codes "let") h ∷ list es list_at ∷ ds)
    -- (dolist (NAME LIST) FORM ...)
    a_dolist : {x : List ℕ} {t : ExprTree} {fs : ShapeTrees} {n e : Datum} {ds : List Datum} {at list_at h : ℕ} → name_in n ≡ Some x → Writes t e
        → WritesShapes w fs ds → WritesShapeForm w at (shape.Dolist x t fs) (word (codes "dolist") h ∷ list (item n (item e none)) list_at ∷ ds)
    -- (progn FORM ...)
    a_progn : {fs : ShapeTrees} {ds : List Datum} {at h : ℕ} → WritesShapes w fs ds → WritesShapeForm w at (shape.Progn fs) (word (codes "progn") h ∷ ds)
    -- (DISPLAY E ...)
    a_call : {x : List ℕ} {ts : ExprTrees} {ds : List Datum} {at h : ℕ} → IsCallable x → WritesAll ts ds → WritesShapeForm w at (shape.Call x ts) (word x h ∷ ds)

  -- the display forms of a body write data, one each
  pub data WritesShapes (w : Signatures) : ShapeTrees → List Datum → Type 0 where
    no_more : WritesShapes w shape.none []
    one_more : {f : ShapeTree} {fs : ShapeTrees} {d : Datum} {ds : List Datum} → WritesShape w f d → WritesShapes w fs ds
        → WritesShapes w (shape.form f fs) (d ∷ ds)
