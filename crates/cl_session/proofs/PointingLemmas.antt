-- What is pointed at, by the program's parts.
use Rattle.std.proofs.Common.{◌≡◌, ℕ, ℤ, ◌+◌, ◌≤◌, true, List, [], ◌∷◌, length, map, nat_le, Option, None, Some, Result, Ok, Err, IfOk, refl, sym, ◌∙◌, ap, subst}
use Rattle.std.proofs.lemmas.Bool.{le-leb}
use Rattle.cl_application.specs.App.{command_named}
use Rattle.cl_application.specs.declared.declarations.CommandDecl.{CommandDecl}
use Rattle.cl_application.specs.declared.declarations.PaneDecl.{PaneDecl}
use Rattle.cl_eval.specs.Slots.{Slots}
use Rattle.cl_frame.specs.Ground.{Ground}
use Rattle.cl_frame.specs.Panes.{PaneMarks, marks_in}
use Rattle.cl_gesture.specs.declared.answers.PointAt.{PointAt}
use Rattle.cl_line.specs.Lines.{front_start, pointed}
use Rattle.cl_line.specs.declared.elements.Element.{Element}
use Rattle.cl_line.specs.declared.lines.TheConstants.{MAX_ELEMENTS}
use Rattle.cl_medium.specs.Items.{Item, item_bounds}
use Rattle.cl_record.specs.Marks.{Mark}
use Rattle.cl_record.specs.Touches.{touched_labels}
use Rattle.cl_session.specs.Accessible.{IsAccessible}
use Rattle.cl_session.specs.Handling.{enabled_in}
use Rattle.cl_session.specs.declared.accessible.Accessible.{Accessible}
use Rattle.cl_dialog.specs.OpenDialog.{OpenDialog}
use Rattle.cl_session.specs.Dialogs.{answer, dialog_contexts}
use Rattle.cl_eval.specs.Operators.{list_of}
use Rattle.cl_session.specs.Pointing.{TypedArgument, chosen_by, contexts_of, line_with, scene_by, typed_in, value_of}
use Rattle.cl_session.specs.Runs.{Handled, command_outcome, run_command, tell}
use Rattle.cl_session.specs.Step.{act_on, got_line, point_within, run_chosen, run_named, take_object}
use Rattle.cl_session.specs.World.{Enabled, World}
use Rattle.cl_syntax.specs.TypeSpecTree.{TypeSpecTree}
use Rattle.cl_tables.specs.Enabled.{States, is_enabled}
use Rattle.cl_translate.specs.Choices.{Given, blank_area, candidates, chosen}
use Rattle.cl_translate.specs.Scenes.{Scene}
use Rattle.cl_value.specs.Data.{Data, symbol, list, item, items_of}
use Rattle.cl_value.specs.Value.{data_of}
use Rattle.cl_value.specs.declared.Value.{Value}
use Rattle.cl_value.specs.declared.Value.TheVariants as value

-- ---- objects

same_values : (ds : List Data) → list_of (items_of ds) ≡ ds
same_values [] = refl
same_values (d ∷ ds) = ap (λ es. d ∷ es) (same_values ds)

-- the value that is the data of a value is that value
pub same_value : (v : Value) → value_of (data_of v) ≡ v
same_value (value.Int n) = refl
same_value (value.Bool b) = refl
same_value (value.Text x) = refl
same_value (value.Symbol x) = refl
same_value value.Null = refl
same_value (value.List ds) = ap value.List (same_values ds)
same_value (value.Record x ds) = ap (value.Record x) (same_values ds)

pub line_taken : (t : TypedArgument) (v : Value) (line : List Element) → line_with t (data_of v) line ≡ pointed (front_start line + length t.command.line_name) v line
line_taken t v line = ap (λ w. pointed (front_start line + length t.command.line_name) w line) (same_value v)

-- the line that an object leaves, where that has room for it
pub object_taken : (w : World) (t : TypedArgument) (v : Value) (lines : List (List ℕ)) (new : List Element) (from : ℕ)
    → from ≡ front_start w.line + length t.command.line_name → (new ≡ pointed from v w.line) × (length (pointed from v w.line) ≤ MAX_ELEMENTS)
    → lines ≡ got_line t.number ∷ [] → take_object w t (data_of v) ≡ tell (record w { line = new }) 0 lines
object_taken w t v lines new from is becomes said =
    let same : line_with t (data_of v) w.line ≡ pointed from v w.line = line_taken t v w.line ∙ ap (λ n. pointed n v w.line) (sym is) in
    let room : length (line_with t (data_of v) w.line) ≤ MAX_ELEMENTS = subst (λ l. length l ≤ MAX_ELEMENTS) (sym same) becomes.1 in
    let fits : nat_le (length (line_with t (data_of v) w.line)) MAX_ELEMENTS ≡ true = le-leb (length (line_with t (data_of v) w.line)) MAX_ELEMENTS room in
    let here : take_object w t (data_of v) ≡ tell (record w { line = line_with t (data_of v) w.line }) 0 (got_line t.number ∷ []) = rw fits refl in
    let line : line_with t (data_of v) w.line ≡ new = same ∙ sym becomes.0 in
    let after : World → List (List ℕ) → Handled = λ x ls. tell x 0 ls in
    here ∙ (ap (λ (l : List Element). after (record w { line = l }) (got_line t.number ∷ [])) line ∙ ap (after (record w { line = new })) (sym said))

-- ---- choices

pub each_ok : {A E : Type 0} (P Q : A → Type 0) (r : Result A E) → ((a : A) → P a → Q a) → IfOk r P → IfOk r Q
each_ok P Q (Ok a) f h = f a h
each_ok P Q (Err e) f h = h

-- what is accessible is the scene of a choice
pub same_scene : (g : Ground) (slots : Slots) (states : States) (a : Accessible) → IsAccessible g.app a
    → ◌≡◌ {A = Scene} (record {
      app = g.app;
      holds = g.types.holds;
      hierarchy = g.hierarchy;
      slots = slots;
      commands = a.tables.commands;
      enabled = λ x. is_enabled x states;
      translators = a.translators;
    }) (scene_by g slots (enabled_in states))
same_scene g slots states a is = λ i. record {
  app = g.app;
  holds = g.types.holds;
  hierarchy = g.hierarchy;
  slots = slots;
  commands = (is.tables i).commands;
  enabled = λ x. is_enabled x states;
  translators = is.translators i;
}

-- a choice by the same scene, contexts and marks, at the same place
pub same_choice : (g : Ground) (slots : Slots) (enabled : Enabled) (types : List TypeSpecTree) (p : PointAt) (d : PaneDecl) (m : PaneMarks)
    (s : Scene) (contexts : List TypeSpecTree) (marks : List (Mark Item)) (x y : ℤ) (o : Option Given)
    → s ≡ scene_by g slots enabled → contexts ≡ types → marks ≡ marks_in m → x ≡ p.x → y ≡ p.y
    → o ≡ chosen s p.gesture contexts (candidates (touched_labels item_bounds x y marks) (blank_area d.name x y)) → o ≡ chosen_by g slots enabled types p d m
same_choice g slots enabled types p d m s contexts marks x y o scenes same shown across down is =
    is ∙ (λ i. chosen (scenes i) p.gesture (same i) (candidates (touched_labels item_bounds (across i) (down i) (shown i)) (blank_area d.name (across i) (down i))))

-- what is typed and what is chosen decide
pub acted_on : (g : Ground) (w : World) (p : PointAt) (d : PaneDecl) (m : PaneMarks) (t : Option TypedArgument) (contexts : List TypeSpecTree) (r : Option Given)
    → t ≡ typed_in g.app w.line → contexts ≡ contexts_of t → r ≡ chosen_by g w.slots w.enabled contexts p d m
    → point_within g w p d m None ≡ act_on g w t r
acted_on g w p d m t contexts r typed types is =
    let both : r ≡ chosen_by g w.slots w.enabled (contexts_of (typed_in g.app w.line)) p d m =
    is ∙ ap (λ ts. chosen_by g w.slots w.enabled ts p d m) (types ∙ ap contexts_of typed) in
    sym (λ i. act_on g w (typed i) (both i))

-- in a dialog what is chosen decides
pub answered_on : (g : Ground) (w : World) (p : PointAt) (d : PaneDecl) (m : PaneMarks) (dialog : Option OpenDialog) (o : OpenDialog) (contexts : List TypeSpecTree)
    (r : Option Given) → dialog ≡ Some o → contexts ≡ dialog_contexts g.app o → r ≡ chosen_by g w.slots w.enabled contexts p d m
    → point_within g w p d m dialog ≡ answer g w dialog r
answered_on g w p d m dialog o contexts r opens types is =
    let chosen : r ≡ chosen_by g w.slots w.enabled (dialog_contexts g.app o) p d m =
    is ∙ ap (λ ts. chosen_by g w.slots w.enabled ts p d m) types in
    ap (point_within g w p d m) opens ∙ (ap (answer g w (Some o)) (sym chosen) ∙ ap (λ u. answer g w u r) (sym opens))

-- a command with its arguments is run
pub chosen_run : (g : Ground) (w : World) (slice : List Value) (parts : List Data) (v first : Value) (rest : List Value) (x : List ℕ) (command : CommandDecl)
    → v ≡ value.List parts → map data_of slice ≡ parts → slice ≡ first ∷ rest → first ≡ value.Symbol x → command_named x g.app ≡ Some command
    → run_chosen g w (data_of v) ≡ run_command g.app command.line_name w (command_outcome g command (map data_of rest) w.slots)
chosen_run g w slice parts v first rest x command is all begins named found =
    let each : parts ≡ map data_of (first ∷ rest) = sym all ∙ ap (λ (vs : List Value). map data_of vs) begins in
    let whole : data_of v ≡ list (item (symbol x) (items_of (map data_of rest))) =
    ap data_of is ∙ (ap (λ (ds : List Data). list (items_of ds)) each ∙ ap (λ (u : Value). list (item (data_of u) (items_of (map data_of rest)))) named) in
    ap (run_chosen g w) whole
    ∙ (ap (λ (ds : List Data). run_named g w ds (command_named x g.app)) (same_values (map data_of rest)) ∙ ap (run_named g w (map data_of rest)) found)
