-- What is read of a datum as a display form writes it: a lemma for each row that statements do not have.
use Rattle.std.proofs.Common.{◌≡◌, ℕ, ◌==◌, true, List, [], ◌∷◌, length, refl, sym, ap, suc, ◌∙◌}
use Rattle.std.specs.Prelude.{Option, Some, None, Ok, codes}
use Rattle.std.proofs.lemmas.Bool.{eqb-true}
use Rattle.std.proofs.lemmas.Result.{IfOk-at_ok}
use Rattle.std.proofs.Math.Path.{subst}
use Rattle.cl_syntax.specs.ShapeTree.{ShapeTree, shape_trees_of}
use Rattle.cl_syntax.specs.ShapeTree as shape
use Rattle.cl_syntax.specs.declared.expressions.Binding.{Binding}
use Rattle.cl_syntax.specs.declared.figures.Figure.{Figure}
use Rattle.cl_table.specs.Names.{named}
use Rattle.cl_forms.specs.Datum.{Datum, Datums, word, in_order}
use Rattle.cl_forms.specs.Naming.{fits}
use Rattle.cl_words.specs.Heads.{head_named, figure_count}
use Rattle.cl_words.specs.Signatures.{display_in}
use Rattle.cl_words.specs.declared.heads.Head.{Head}
use Rattle.cl_words.specs.declared.heads.Head.TheVariants as head
use Rattle.cl_words.specs.declared.heads.Planned.TheVariants as planned
use Rattle.cl_words.specs.declared.heads.Setting.{Setting}
use Rattle.cl_words.specs.declared.heads.Setting.TheVariants as setting
use Rattle.cl_words.specs.declared.heads.Writing.{Writing}
use Rattle.cl_words.specs.declared.heads.Writing.TheVariants as writing
use Rattle.cl_words.specs.declared.signatures.Signatures.{Signatures}
use Rattle.cl_expressions.specs.Load.{Load, Notes}
use Rattle.cl_expressions.specs.Scopes.{Names}
use Rattle.cl_expressions.specs.Expressions.{Sub}
use Rattle.cl_bodies.specs.declared.own.Own.{Own}
use Rattle.cl_bodies.specs.declared.display_forms.Context.{Context}
use Rattle.cl_bodies.specs.declared.display_forms.Context.TheVariants as context
use Rattle.cl_bodies.specs.declared.display_forms.Opening.{Opening}
use Rattle.cl_bodies.specs.DisplayForms.{parse_draw, parse_write, parse_newline, parse_call_counted, parse_writing, parse_indent, parse_ink}
use Rattle.cl_bodies.specs.DisplayForms.{parse_presentation, parse_update, parse_setting, parse_own, display_forms, parse_shape, parse_shapes}
use Rattle.cl_bodies.specs.Presentations.{parse_present}
use Rattle.cl_grammar.specs.Heads.{CallsNames}
use Rattle.cl_grammar.proofs.Endings.{Ends, gives, refuses, chooses, binds}
use Rattle.cl_grammar.proofs.Spelled.{not_fixed}
use Rattle.cl_grammar.proofs.Written.{shapes, WrittenParts, each_written}
use Rattle.cl_text_grammar.specs.Displays.{figures, CallsDisplays}
use Rattle.cl_text_grammar.specs.WritesShapes.{WritesShape, WritesShapeForm, WritesShapes, a_form, a_text, a_new_line, a_figure, an_indented}
use Rattle.cl_text_grammar.specs.WritesShapes.{an_inked, a_room, a_presented, an_if, a_when, a_let, a_dolist, a_progn, a_call, no_more, one_more}
use Rattle.cl_text_grammar.proofs.FormWords.{setting_word, writing_word, Spells}
use Rattle.cl_text_grammar.proofs.Bindings.{WritesBinding, a_binding}
use Rattle.cl_text_grammar.proofs.TypesWritten.{type_ends}
use Rattle.cl_text_grammar.proofs.PresentationsWritten.{opening_ends, presentation_writes}
use Rattle.cl_text_grammar.proofs.UpdatesWritten.{update_ends, update_writes}
use Rattle.cl_text_grammar.proofs.FormsWritten.{OwnWrites, Rules, form_ends, body_ends}

counted : (ps : List Sub) → length ps ≡ length (shapes ps)
counted [] = refl
counted (p ∷ ps) = ap suc (counted ps)

same_number : (n m : ℕ) → (n == m) ≡ true → n ≡ m
same_number n m e = eqb-true n m e

module _ (w : Signatures) where
  -- what the display forms of a body write
  abbrev Body : List ShapeTree → List Datum → Type 0
  Body fs ds = WritesShapes w (shape_trees_of fs) ds

  -- what is read writes the head with the parts behind it
  abbrev RowEnds : List ℕ → ℕ → ℕ → List Sub → ShapeTree → Type 0
  RowEnds x h at ps f = WritesShapeForm w at f (word x h ∷ shapes ps)

  abbrev OwnEnds : List ℕ → ℕ → ℕ → List Sub → Own ShapeTree Opening Context → Type 0
  OwnEnds x h at ps own = OwnWrites display_forms (WritesShapeForm w at) Body (word x h) (shapes ps) own

  draw_ends : (g : Figure) (x : List ℕ) (h at : ℕ) (ps : List Sub) (env : Names) → named x figures ≡ Some (g, figure_count g) → WrittenParts ps
      → Ends (RowEnds x h at ps) (parse_draw g at ps env)
  draw_ends g x h at ps env e k =
      chooses (figure_count g == length ps)
      (λ f. binds (each_written ps env k) λ ts i.
      gives (a_figure (subst (λ n. named x figures ≡ Some (g, n)) (same_number (figure_count g) (length ps) f ∙ counted ps) e) i)) (λ f. refuses)

  write_ends : (h at : ℕ) (ps : List Sub) (env : Names) → WrittenParts ps → Ends (RowEnds (codes "write-text") h at ps) (parse_write at ps env)
  write_ends h at (a ∷ []) env k = binds (k.0.expr env) λ t i. gives (a_text i)
  write_ends h at [] env k = refuses
  write_ends h at (a ∷ b ∷ ps) env k = refuses

  newline_ends : (h at : ℕ) (ps : List Sub) → Ends (RowEnds (codes "newline") h at ps) (parse_newline at ps)
  newline_ends h at [] = gives a_new_line
  newline_ends h at (a ∷ ps) = refuses

  present_ends : (h at : ℕ) (ps : List Sub) (env : Names) → WrittenParts ps → Ends (RowEnds (codes "present") h at ps) (parse_present w at ps env)
  present_ends h at (a ∷ b ∷ []) env k = binds (k.0.expr env) λ t i. binds (type_ends w [] b.shape) λ s j. gives (a_presented i j)
  present_ends h at [] env k = refuses
  present_ends h at (a ∷ []) env k = refuses
  present_ends h at (a ∷ b ∷ c ∷ ps) env k = refuses

  writing_ends : (v : Writing) (h at : ℕ) (ps : List Sub) (env : Names) → WrittenParts ps
      → Ends (RowEnds (writing_word v) h at ps) (parse_writing w v at ps env)
  writing_ends writing.WriteText h at ps env k = write_ends h at ps env k
  writing_ends writing.Newline h at ps env k = newline_ends h at ps
  writing_ends writing.Present h at ps env k = present_ends h at ps env k

  indent_ends : (c : Context) (h at : ℕ) (ps : List Sub) (env : Names) → WrittenParts ps
      → Ends (OwnEnds (codes "indenting-output") h at ps) (parse_indent c at ps env)
  indent_ends c h at [] env k = refuses
  indent_ends c h at (a ∷ ps) env k = binds (k.0.expr env) λ t i. gives (λ fs j. an_indented i j)

  ink_ends : (c : Context) (h at : ℕ) (ps : List Sub) (env : Names) → WrittenParts ps → Ends (OwnEnds (codes "with-ink") h at ps) (parse_ink c at ps env)
  ink_ends c h at [] env k = refuses
  ink_ends c h at (a ∷ ps) env k = binds (k.0.expr env) λ t i. gives (λ fs j. an_inked i j)

  spelled_so : (y x : List ℕ) (h at : ℕ) (ps : List Sub) (m : Load (Own ShapeTree Opening Context)) → x ≡ y → Ends (OwnEnds y h at ps) m
      → Ends (OwnEnds x h at ps) m
  spelled_so y x h at ps m e i = subst (λ z. Ends (OwnEnds z h at ps) m) (sym e) i

  dolist_writes : (at : ℕ) (b : Binding) (fs : List ShapeTree) (a : Datum) (ds : List Datum) (h : ℕ) → WritesBinding b a → Body fs ds
      → WritesShapeForm w at (shape.Dolist b.name b.value (shape_trees_of fs)) (word (codes "dolist") h ∷ a ∷ ds)
  dolist_writes at b fs a ds h (a_binding i j) k = a_dolist i j k

module _ (w : Signatures) (names : CallsNames w) where
  presentation_ends : (c : Context) (h at : ℕ) (ps : List Sub) (env : Names)
      → Ends (OwnEnds w (codes "with-output-as-presentation") h at ps) (parse_presentation w c at ps env)
  presentation_ends c h at [] env = refuses
  presentation_ends c h at (a ∷ ps) env =
      binds (opening_ends w names at a.shape env) λ p i.
      gives (λ fs j. presentation_writes w at p (shape_trees_of fs) a.shape (shapes ps) h i j)

  updating_ends : (c : Context) (h at : ℕ) (ps : List Sub) (env : Names)
      → Ends (OwnEnds w (codes "updating-output") h at ps) (parse_update w c at ps env)
  updating_ends c h at [] env = refuses
  updating_ends c h at (a ∷ ps) env =
      binds (update_ends w names at a.shape env) λ u i.
      gives (λ fs j. update_writes w at u (shape_trees_of fs) a.shape (shapes ps) h i j)

  setting_ends : (c : Context) (s : Setting) (h at : ℕ) (ps : List Sub) (env : Names) → WrittenParts ps
      → Ends (OwnEnds w (setting_word s) h at ps) (parse_setting w c s at ps env)
  setting_ends c setting.Indent h at ps env k = indent_ends w c h at ps env k
  setting_ends c setting.Ink h at ps env k = ink_ends w c h at ps env k
  setting_ends c setting.Room h at ps env k = gives (λ fs j. a_room j)
  setting_ends c setting.Presentation h at ps env k = presentation_ends c h at ps env
  setting_ends c setting.Update h at ps env k = updating_ends c h at ps env

  own_ends : (c : Context) (o : Head) (x : List ℕ) (h at : ℕ) (ps : List Sub) (env : Names) → Spells x o → WrittenParts ps
      → Ends (OwnEnds w x h at ps) (parse_own w c o h at ps env)
  own_ends c (head.Figure g) x h at ps env e k = binds (draw_ends w g x h at ps env e k) λ f i. gives i
  own_ends c (head.Setting s) x h at ps env e k =
      spelled_so w (setting_word s) x h at ps (parse_own w c (head.Setting s) h at ps env) e (setting_ends c s h at ps env k)
  own_ends c (head.Writing v) x h at ps env e k =
      spelled_so w (writing_word v) x h at ps (parse_own w c (head.Writing v) h at ps env) e (binds (writing_ends w v h at ps env k) λ f i. gives i)
  own_ends c (head.Planned planned.Display) x h at ps env e k = refuses
  own_ends c (head.Planned planned.Part) x h at ps env e k = refuses
  own_ends c head.If x h at ps env e k = refuses
  own_ends c head.Let x h at ps env e k = refuses
  own_ends c (head.Control o) x h at ps env e k = refuses
  own_ends c (head.Special s) x h at ps env e k = refuses
  own_ends c (head.Operator o) x h at ps env e k = refuses
  own_ends c (head.Change o) x h at ps env e k = refuses

module _ (w : Signatures) (names : CallsNames w) (displays : CallsDisplays w) where
  call_ends : (o : Option (Option ℕ)) (x : List ℕ) (h at : ℕ) (ps : List Sub) (env : Names) → display_in w x ≡ o → head_named x ≡ None
      → WrittenParts ps → Ends (RowEnds w x h at ps) (parse_call_counted o x h at ps env)
  call_ends None x h at ps env e n k = refuses
  call_ends (Some count) x h at ps env e n k =
      chooses (fits count (length ps))
      (λ f. binds (each_written ps env k) λ ts i. gives (a_call (record { is_a_name = displays x count e; is_not_fixed = not_fixed x n }) i)) (λ f. refuses)

  rules : Rules display_forms w (WritesShape w) (WritesShapeForm w) (Body w)
  rules = record {
    a_form = λ f ds at i. a_form i;
    no_more = no_more;
    one_more = λ f fs d ds i j. one_more i j;
    an_if = λ at t f g a b c h i j k. an_if i j k;
    a_when = λ at t fs a ds h i j. a_when i j;
    a_let = λ at bs fs es ds list_at h i j. a_let i j;
    a_dolist = dolist_writes w;
    a_progn = λ at fs ds h i. a_progn i;
    an_own = own_ends w names;
    a_call = λ x h at ps env n k. call_ends (display_in w x) x h at ps env refl n k;
  }

  pub shape_written : (d : Datum) (env : Names) (u v : Notes) (f : ShapeTree) → parse_shape w d env u ≡ Ok (f, v) → WritesShape w f d
  shape_written d env u v f e =
      IfOk-at_ok (λ x. WritesShape w x.0 d) e ((form_ends display_forms w names (WritesShape w) (WritesShapeForm w) (Body w) rules context.Display d env).ends u)

  pub shapes_end : (ds : Datums) (env : Names) → Ends (λ fs. WritesShapes w (shape_trees_of fs) (in_order ds)) (parse_shapes w ds env)
  shapes_end ds env = body_ends display_forms w names (WritesShape w) (WritesShapeForm w) (Body w) rules context.Display ds env

  pub shapes_written : (ds : Datums) (env : Names) (u v : Notes) (fs : List ShapeTree) → parse_shapes w ds env u ≡ Ok (fs, v)
      → WritesShapes w (shape_trees_of fs) (in_order ds)
  shapes_written ds env u v fs e = IfOk-at_ok (λ x. Body w x.0 (in_order ds)) e ((shapes_end ds env).ends u)
