-- What the declarations of a text give is what its outermost forms write.
use Rattle.std.proofs.Common.{◌≡◌, ℕ, Bool, true, false, List, [], ◌∷◌, refl, sym, ap, ◌∙◌}
use Rattle.std.specs.Prelude.{Option, Some, None, Ok, if◌then◌else◌, codes}
use Rattle.std.proofs.lemmas.Result.{IfOk-at_ok}
use Rattle.std.proofs.Math.Path.{subst}
use Rattle.cl_forms.specs.Datum.{Datum, number, literal, word, quoted, stray, list, in_order}
use Rattle.cl_forms.specs.Outer.{type_declared, declared_by, declared_or, declaration_named, is_planned, kind_or, outer_listed, outer_in, outers_of}
use Rattle.cl_forms.specs.declared.outer.DeclarationKind.{DeclarationKind}
use Rattle.cl_forms.specs.declared.outer.DeclarationKind.TheVariants as kind
use Rattle.cl_forms.specs.declared.outer.OuterKind.TheVariants.{Planned, Unknown}
use Rattle.cl_words.specs.declared.signatures.Signatures.{Signatures}
use Rattle.cl_expressions.specs.Load.{Notes}
use Rattle.cl_declare.specs.Declarations.{parse_declared, parse_kind, parse_declaration, parse_each_declaration, nothing_declared, parse_declarations}
use Rattle.cl_declare.specs.declared.declarations.Declarations.{Declarations}
use Rattle.cl_declare.specs.declared.translator_shapes.TranslatorKind.TheVariants.{Object, Command}
use Rattle.cl_grammar.specs.Heads.{CallsNames}
use Rattle.cl_grammar.proofs.Endings.{Ends, gives, refuses, binds, ends_weaker}
use Rattle.cl_grammar.proofs.Spelled.{Finds, word_is, of_some}
use Rattle.cl_text_grammar.specs.Displays.{CallsDisplays}
use Rattle.cl_text_grammar.specs.WritesDeclarations.{Declaration, of_record, of_user_type, of_host_type, of_present_method, of_accept_method, of_function, of_display}
use Rattle.cl_text_grammar.specs.WritesDeclarations.{of_command_table, of_command, of_translator, of_dialog, of_frame, WritesDeclared, a_present_method, an_accept_method}
use Rattle.cl_text_grammar.specs.WritesDeclarations.{a_translator, a_command_translator, WritesDeclaration, a_declaration, nothing, one_more, with_declaration, with_declarations}
use Rattle.cl_text_grammar.specs.WritesDeclarations.{IsDeclaredIn, TextDeclares}
use Rattle.cl_grammar.proofs.Spelled as words
use Rattle.cl_text_grammar.proofs.CalleesWritten.{record_ends, function_ends, display_ends}
use Rattle.cl_text_grammar.proofs.CommandsWritten.{table_ends, command_ends}
use Rattle.cl_text_grammar.proofs.FramesWritten.{frame_ends}
use Rattle.cl_text_grammar.proofs.UserTypesWritten.{user_type_ends}
use Rattle.cl_text_grammar.proofs.MethodsWritten.{host_type_ends, method_ends}
use Rattle.cl_text_grammar.proofs.TranslatorsWritten.{translator_ends}
use Rattle.cl_text_grammar.proofs.DialogsWritten.{dialog_ends}

abbrev kind_word : DeclarationKind → List ℕ
kind_word kind.Record = codes "define-record"
kind_word kind.PresentationType = codes "define-presentation-type"
kind_word kind.HostType = codes "define-host-type"
kind_word kind.PresentMethod = codes "define-present-method"
kind_word kind.AcceptMethod = codes "define-accept-method"
kind_word kind.Function = codes "define-function"
kind_word kind.Display = codes "define-display"
kind_word kind.CommandTable = codes "define-command-table"
kind_word kind.Command = codes "define-command"
kind_word kind.Translator = codes "define-presentation-translator"
kind_word kind.CommandTranslator = codes "define-presentation-to-command-translator"
kind_word kind.Dialog = codes "define-dialog"
kind_word kind.Frame = codes "define-application-frame"

type_words : (x : List ℕ) → Finds (λ k. x ≡ kind_word k) (type_declared x)
type_words x =
    word_is kind.Record x (codes "define-record") (λ e. e) (word_is kind.PresentationType x (codes "define-presentation-type") (λ e. e)
    (word_is kind.HostType x (codes "define-host-type") (λ e. e) (word_is kind.PresentMethod x (codes "define-present-method") (λ e. e)
    (word_is kind.AcceptMethod x (codes "define-accept-method") (λ e. e) words.nothing))))

other_words : (x : List ℕ) → Finds (λ k. x ≡ kind_word k) (declared_by x)
other_words x =
    word_is kind.Function x (codes "define-function") (λ e. e) (word_is kind.Display x (codes "define-display") (λ e. e)
    (word_is kind.CommandTable x (codes "define-command-table") (λ e. e) (word_is kind.Command x (codes "define-command") (λ e. e)
    (word_is kind.Translator x (codes "define-presentation-translator") (λ e. e)
    (word_is kind.CommandTranslator x (codes "define-presentation-to-command-translator") (λ e. e)
    (word_is kind.Dialog x (codes "define-dialog") (λ e. e) (word_is kind.Frame x (codes "define-application-frame") (λ e. e) words.nothing)))))))

either_kind : {P : DeclarationKind → Type 0} (o p : Option DeclarationKind) → Finds P o → Finds P p → Finds P (declared_or o p)
either_kind (Some k) p h i = record { found = h.found }
either_kind None p h i = i

kind_words : (x : List ℕ) → Finds (λ k. x ≡ kind_word k) (declaration_named x)
kind_words x = either_kind (type_declared x) (declared_by x) (type_words x) (other_words x)

module _ (w : Signatures) (names : CallsNames w) (displays : CallsDisplays w) where
  -- one declaration more, which writes the parts
  record PartsRead (at : ℕ) (ds : List Datum) (before after : Declarations) : Type 0 where
    declaration : Declaration
    added : after ≡ with_declaration before declaration
    written : WritesDeclared w at declaration ds

  kind_ends : (k : DeclarationKind) (h at : ℕ) (ds : List Datum) (s : Declarations)
      → Ends (PartsRead at (word (kind_word k) h ∷ ds) s) (parse_declared w k at ds s)
  kind_ends kind.Record h at ds s = binds (record_ends w h at ds) λ d i. gives (record { declaration = of_record d; added = refl; written = i })
  kind_ends kind.PresentationType h at ds s =
      binds (user_type_ends w h at ds) λ d i. gives (record { declaration = of_user_type d; added = refl; written = i })
  kind_ends kind.HostType h at ds s = binds (host_type_ends w h at ds) λ d i. gives (record { declaration = of_host_type d; added = refl; written = i })
  kind_ends kind.PresentMethod h at ds s =
      binds (method_ends w names at ds) λ d i. gives (record { declaration = of_present_method d; added = refl; written = a_present_method i })
  kind_ends kind.AcceptMethod h at ds s =
      binds (method_ends w names at ds) λ d i. gives (record { declaration = of_accept_method d; added = refl; written = an_accept_method i })
  kind_ends kind.Function h at ds s = binds (function_ends w names h at ds) λ d i. gives (record { declaration = of_function d; added = refl; written = i })
  kind_ends kind.Display h at ds s = binds (display_ends w names displays h at ds) λ d i. gives (record { declaration = of_display d; added = refl; written = i })
  kind_ends kind.CommandTable h at ds s = binds (table_ends w h at ds) λ d i. gives (record { declaration = of_command_table d; added = refl; written = i })
  kind_ends kind.Command h at ds s = binds (command_ends w names h at ds) λ d i. gives (record { declaration = of_command d; added = refl; written = i })
  kind_ends kind.Translator h at ds s =
      binds (translator_ends w names Object at ds) λ d i. gives (record { declaration = of_translator d; added = refl; written = a_translator i })
  kind_ends kind.CommandTranslator h at ds s =
      binds (translator_ends w names Command at ds) λ d i. gives (record { declaration = of_translator d; added = refl; written = a_command_translator i })
  kind_ends kind.Dialog h at ds s = binds (dialog_ends w names h at ds) λ d i. gives (record { declaration = of_dialog d; added = refl; written = i })
  kind_ends kind.Frame h at ds s = binds (frame_ends w names h at ds) λ d i. gives (record { declaration = of_frame d; added = refl; written = i })

  other_ends : (b : Bool) (h at : ℕ) (es ds : List Datum) (s : Declarations)
      → Ends (PartsRead at es s) (parse_kind w (if b then Planned h else Unknown h) at ds s)
  other_ends true h at es ds s = refuses
  other_ends false h at es ds s = refuses

  named_ends : (o : Option DeclarationKind) (x : List ℕ) (h at : ℕ) (ds : List Datum) (s : Declarations) → declaration_named x ≡ o
      → Ends (PartsRead at (word x h ∷ ds) s) (parse_kind w (kind_or o (if is_planned x then Planned h else Unknown h)) at ds s)
  named_ends (Some k) x h at ds s e =
      subst (λ y. Ends (PartsRead at (word y h ∷ ds) s) (parse_declared w k at ds s)) (sym (of_some k (declaration_named x) e (kind_words x)))
      (kind_ends k h at ds s)
  named_ends None x h at ds s e = other_ends (is_planned x) h at (word x h ∷ ds) ds s

  listed_ends : (at : ℕ) (ds : List Datum) (s : Declarations) → Ends (PartsRead at ds s) (parse_declaration w (outer_listed at ds) s)
  listed_ends at [] s = refuses
  listed_ends at (word x h ∷ ds) s = named_ends (declaration_named x) x h at ds s refl
  listed_ends at (number z h ∷ ds) s = refuses
  listed_ends at (literal x h ∷ ds) s = refuses
  listed_ends at (quoted x h name_at ∷ ds) s = refuses
  listed_ends at (stray h ∷ ds) s = refuses
  listed_ends at (list es h ∷ ds) s = refuses

  -- one declaration more, which writes the datum
  record FormRead (d : Datum) (before after : Declarations) : Type 0 where
    declaration : Declaration
    added : after ≡ with_declaration before declaration
    written : WritesDeclaration w declaration d

  form_ends : (d : Datum) (s : Declarations) → Ends (FormRead d s) (parse_declaration w (outer_in d) s)
  form_ends (list ds at) s =
      ends_weaker (λ t i. record { declaration = i.declaration; added = i.added; written = a_declaration i.written }) (listed_ends at (in_order ds) s)
  form_ends (number z at) s = refuses
  form_ends (literal x at) s = refuses
  form_ends (word x at) s = refuses
  form_ends (quoted x at name_at) s = refuses
  form_ends (stray at) s = refuses

  text_ends : (ds : List Datum) (s : Declarations) → Ends (IsDeclaredIn w s ds) (parse_each_declaration w (outers_of ds) s)
  text_ends [] s = gives (record { declarations = []; written = nothing; tabled = refl })
  text_ends (d ∷ ds) s =
      binds (form_ends d s) λ t i.
      ends_weaker
      (λ r j. record {
        declarations = i.declaration ∷ j.declarations;
        written = one_more i.written j.written;
        tabled = j.tabled ∙ ap (λ z. with_declarations z j.declarations) i.added;
      })
      (text_ends ds t)

  pub text_written : (ds : List Datum) (u v : Notes) (s : Declarations) → parse_declarations w (outers_of ds) u ≡ Ok (s, v) → TextDeclares w ds s
  text_written ds u v s e = IfOk-at_ok (λ x. TextDeclares w ds x.0) e ((text_ends ds nothing_declared).ends u)
