-- The readings of declarations answer to what is looked at of them.
use Rattle.std.proofs.Common.{ℕ, Bool, true, false, ◌&&◌, is_some, if◌then◌else◌, List, [], ◌∷◌}
use Rattle.std.specs.Prelude.{Option, Some, None, map, codes}
use Rattle.std.specs.Str.{bytes_eq}
use Rattle.cl_table.specs.Names.{named}
use Rattle.cl_forms.specs.Datum.{Datum, number, literal, word, quoted, stray, list, parts_of, offset}
use Rattle.cl_forms.specs.Naming.{are_names, name_in}
use Rattle.cl_forms.specs.Outer.{declared_or, kind_or, kind_named, outer_listed, outer_in}
use Rattle.cl_forms.specs.declared.outer.DeclarationKind.{DeclarationKind}
use Rattle.cl_forms.specs.declared.outer.DeclarationKind.TheVariants.{Record, PresentationType, HostType, PresentMethod, AcceptMethod, Function, Display, CommandTable, Command}
use Rattle.cl_forms.specs.declared.outer.DeclarationKind.TheVariants.{Translator, CommandTranslator, Dialog, Frame}
use Rattle.cl_forms.specs.declared.outer.OuterKind.{OuterKind}
use Rattle.cl_forms.specs.declared.outer.OuterKind.TheVariants.{Planned, Unknown}
use Rattle.cl_words.specs.declared.signatures.Signatures.{Signatures}
use Rattle.cl_syntax.specs.ExprTree.{ExprTree}
use Rattle.cl_application.specs.declared.declarations.MethodDecl.{MethodDecl}
use Rattle.cl_expressions.specs.Expressions.{parse_expression}
use Rattle.cl_expressions.specs.Load.{◌>>=◌, give}
use Rattle.cl_declare.specs.Callees.{parse_record, parse_function, parse_display}
use Rattle.cl_declare.specs.Methods.{parse_named_method, parse_method}
use Rattle.cl_declare.specs.Types.{parse_host_type}
use Rattle.cl_declare.specs.TypeShapes.{name_alone}
use Rattle.cl_declare.specs.Declarations.{parse_kind, parse_declaration, parse_each_declaration}
use Rattle.cl_declare.specs.Names.{is_name_list, variables_in}
use Rattle.cl_declare.specs.declared.declarations.Declarations.{Declarations}
use Rattle.cl_declare.specs.declared.translator_shapes.TranslatorKind.TheVariants as translator
use Rattle.cl_grammar.specs.Sights.{expression}
use Rattle.cl_grammar.proofs.Judging.{Any}
use Rattle.cl_declaration_grammar.specs.Parts.{method_name, expressions}
use Rattle.cl_declaration_grammar.specs.Commands.{command_seen, command_table_seen}
use Rattle.cl_declaration_grammar.specs.Declarations.{Row, record_seen, host_type_seen, method_named_seen, method_seen, function_seen, display_seen}
use Rattle.cl_declaration_grammar.specs.Declarations.{planned_seen, rows, row_seen, listed_seen, declaration_seen}
use Rattle.cl_declaration_grammar.specs.UserTypes.{user_type_seen}
use Rattle.cl_declaration_grammar.specs.Translators.{translator_seen}
use Rattle.cl_declaration_grammar.specs.Dialogs.{dialog_seen}
use Rattle.cl_declaration_grammar.specs.Frames.{frame_seen}
use Rattle.cl_declaration_grammar.specs.Texts.{text_seen}
use Rattle.cl_declaration_grammar.proofs.Judging.{Judges, joined, then_given, ended, refused_first}
use Rattle.cl_declaration_grammar.proofs.PartsJudged.{expression_part, chosen, is_wrong, method_name_judged, shapes_part}
use Rattle.cl_declaration_grammar.proofs.CommandsJudged.{command_judged, command_table_judged}
use Rattle.cl_declaration_grammar.proofs.FramesJudged.{frame_judged}
use Rattle.cl_declaration_grammar.proofs.TranslatorsJudged.{translator_judged}
use Rattle.cl_declaration_grammar.proofs.DialogsJudged.{dialog_judged}
use Rattle.cl_declaration_grammar.proofs.UserTypesJudged.{user_type_judged}

module _ (w : Signatures) where
  record_judged : (at h : ℕ) (ds : List Datum) → Judges w (record_seen at h ds) Any (parse_record at ds)
  record_judged at h (n ∷ f ∷ fs) = chosen w (are_names (n ∷ f ∷ fs)) (ended w) (is_wrong w at)
  record_judged at h [] = is_wrong w at
  record_judged at h (n ∷ []) = is_wrong w at

  host_type_judged : (at h : ℕ) (ds : List Datum) → Judges w (host_type_seen at h ds) Any (parse_host_type at ds)
  host_type_judged at h (n ∷ []) = chosen w (is_some (name_in n)) (ended w) (is_wrong w at)
  host_type_judged at h [] = is_wrong w at
  host_type_judged at h (n ∷ d ∷ ds) = is_wrong w at

  abbrev method_of : List ℕ → List ℕ → ℕ → ExprTree → MethodDecl
  method_of x p at t = record { name = x; parameter = p; body = t; at = at }

  method_named_judged : (at name_at : ℕ) (x p : Option (List ℕ)) (e : Datum)
      → Judges w (method_named_seen at name_at x p e) Any (parse_named_method w at name_at x p e)
  method_named_judged at name_at (Some x) (Some p) e =
      joined w (method_name x name_at ∷ []) (expressions (expression (p ∷ []) e ∷ []) ∷ [])
      {f = λ u. parse_expression w e (p ∷ []) >>= λ t. give (method_of x p at t)} (method_name_judged w x name_at) λ u i.
      then_given w (method_of x p at) (expression_part w e (p ∷ []))
  method_named_judged at name_at (Some x) None e = is_wrong w at
  method_named_judged at name_at None p e = is_wrong w at

  method_judged : (at h : ℕ) (ds : List Datum) → Judges w (method_seen at h ds) Any (parse_method w at ds)
  method_judged at h (n ∷ ps ∷ e ∷ []) = method_named_judged at (offset n) (name_in n) (name_alone (parts_of ps)) e
  method_judged at h [] = is_wrong w at
  method_judged at h (n ∷ []) = is_wrong w at
  method_judged at h (n ∷ ps ∷ []) = is_wrong w at
  method_judged at h (n ∷ ps ∷ e ∷ d ∷ ds) = is_wrong w at

  function_judged : (at h : ℕ) (ds : List Datum) → Judges w (function_seen at h ds) Any (parse_function w at ds)
  function_judged at h (n ∷ ps ∷ e ∷ []) =
      chosen w (is_some (name_in n) && is_name_list ps) (then_given w _ (expression_part w e (variables_in ps))) (is_wrong w at)
  function_judged at h [] = is_wrong w at
  function_judged at h (n ∷ []) = is_wrong w at
  function_judged at h (n ∷ ps ∷ []) = is_wrong w at
  function_judged at h (n ∷ ps ∷ e ∷ d ∷ ds) = is_wrong w at

  display_judged : (at h : ℕ) (ds : List Datum) → Judges w (display_seen at h ds) Any (parse_display w at ds)
  display_judged at h (n ∷ ps ∷ body) =
      chosen w (is_some (name_in n) && is_name_list ps) (then_given w _ (shapes_part w body (variables_in ps))) (is_wrong w at)
  display_judged at h [] = is_wrong w at
  display_judged at h (n ∷ []) = is_wrong w at

  -- ---- by their heads

  module _ (at h : ℕ) (ds : List Datum) (s : Declarations) where
    -- what the row sees, and what is read of a declaration of this kind
    abbrev Answers : Option Row → OuterKind → Type 0
    Answers row kind = Judges w (row_seen row at h ds) Any (parse_kind w kind at ds s)

    -- the head of a declaration that is not built yet, or of none
    planned_answers : (b : Bool) → Answers (if b then Some planned_seen else None) (if b then Planned h else Unknown h)
    planned_answers true = refused_first w 0 h []
    planned_answers false = refused_first w 5 h []

    declared_answers : (a b c d e f i g : Bool) (row : Option Row) (kind : OuterKind) → Answers row kind
        → Answers
        (if a then Some function_seen else (if b then Some display_seen else (if c then Some (λ at h parts. command_table_seen at parts)
        else (if d then Some (λ at h parts. command_seen w at parts) else (if e then Some (λ at h parts. translator_seen w translator.Object at parts)
        else (if f then Some (λ at h parts. translator_seen w translator.Command at parts) else (if i then Some (λ at h parts. dialog_seen w at parts)
        else (if g then Some (λ at h parts. frame_seen w at parts) else row))))))))
        (kind_or (if a then Some Function else (if b then Some Display else (if c then Some CommandTable
        else (if d then Some Command else (if e then Some Translator else (if f then Some CommandTranslator
        else (if i then Some Dialog else (if g then Some Frame else None)))))))) kind)
    declared_answers true b c d e f i g row kind k = then_given w _ (function_judged at h ds)
    declared_answers false true c d e f i g row kind k = then_given w _ (display_judged at h ds)
    declared_answers false false true d e f i g row kind k = then_given w _ (command_table_judged w at ds)
    declared_answers false false false true e f i g row kind k = then_given w _ (command_judged w at ds)
    declared_answers false false false false true f i g row kind k = then_given w _ (translator_judged w translator.Object at ds)
    declared_answers false false false false false true i g row kind k = then_given w _ (translator_judged w translator.Command at ds)
    declared_answers false false false false false false true g row kind k = then_given w _ (dialog_judged w at ds)
    declared_answers false false false false false false false true row kind k = then_given w _ (frame_judged w at ds)
    declared_answers false false false false false false false false row kind k = k

    -- heads of declarations of types and of their methods
    type_answers : (a b c d e : Bool) (row : Option Row) (declared : Option DeclarationKind) (kind : OuterKind) → Answers row (kind_or declared kind)
        → Answers
        (if a then Some record_seen else (if b then Some (λ at h parts. user_type_seen w at parts) else (if c then Some host_type_seen
        else (if d then Some method_seen else (if e then Some method_seen else row)))))
        (kind_or (declared_or (if a then Some Record else (if b then Some PresentationType else (if c then Some HostType
        else (if d then Some PresentMethod else (if e then Some AcceptMethod else None))))) declared) kind)
    type_answers true b c d e row declared kind k = then_given w _ (record_judged at h ds)
    type_answers false true c d e row declared kind k = then_given w _ (user_type_judged w at ds)
    type_answers false false true d e row declared kind k = then_given w _ (host_type_judged at h ds)
    type_answers false false false true e row declared kind k = then_given w _ (method_judged at h ds)
    type_answers false false false false true row declared kind k = then_given w _ (method_judged at h ds)
    type_answers false false false false false row declared kind k = k

    word_answers : (x : List ℕ) → Answers (named x (rows w)) (kind_named x h)
    word_answers x =
        type_answers (bytes_eq x (codes "define-record")) (bytes_eq x (codes "define-presentation-type")) (bytes_eq x (codes "define-host-type"))
        (bytes_eq x (codes "define-present-method")) (bytes_eq x (codes "define-accept-method")) _ _ _
        (declared_answers (bytes_eq x (codes "define-function")) (bytes_eq x (codes "define-display"))
        (bytes_eq x (codes "define-command-table")) (bytes_eq x (codes "define-command")) (bytes_eq x (codes "define-presentation-translator"))
        (bytes_eq x (codes "define-presentation-to-command-translator")) (bytes_eq x (codes "define-dialog"))
        (bytes_eq x (codes "define-application-frame")) _ _ (planned_answers (bytes_eq x (codes "define-drag-and-drop-translator"))))

  listed_judged : (at : ℕ) (ds : List Datum) (s : Declarations) → Judges w (listed_seen w at ds) Any (parse_declaration w (outer_listed at ds) s)
  listed_judged at [] s = is_wrong w at
  listed_judged at (word x h ∷ ds) s = word_answers at h ds s x
  listed_judged at (number z h ∷ ds) s = is_wrong w at
  listed_judged at (literal z h ∷ ds) s = is_wrong w at
  listed_judged at (quoted x h name_at ∷ ds) s = is_wrong w at
  listed_judged at (stray h ∷ ds) s = is_wrong w at
  listed_judged at (list es h ∷ ds) s = is_wrong w at

  declaration_judged : (d : Datum) (s : Declarations) → Judges w (declaration_seen w d) Any (parse_declaration w (outer_in d) s)
  declaration_judged d s = listed_judged (offset d) (parts_of d) s

  pub text_judged : (ds : List Datum) (s : Declarations) → Judges w (text_seen w ds) Any (parse_each_declaration w (map outer_in ds) s)
  text_judged [] s = ended w
  text_judged (d ∷ ds) s = joined w (declaration_seen w d) (text_seen w ds) (declaration_judged d s) λ t i. text_judged ds t
