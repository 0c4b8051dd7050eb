-- The faults of a declaration stand in it.
use Rattle.std.proofs.Common.{ℕ, Bool, true, false, ◌&&◌, is_some, if◌then◌else◌, List, [], ◌∷◌, refl}
use Rattle.std.specs.Prelude.{Option, Some, None}
use Rattle.cl_forms.specs.Datum.{Datum, word, parts_of, offset, datums_of}
use Rattle.cl_forms.specs.Naming.{are_names, name_in}
use Rattle.cl_forms.specs.Outer.{declaration_named, is_planned, kind_or, kind_named, outer_listed, outer_in}
use Rattle.cl_forms.specs.declared.outer.DeclarationKind.{DeclarationKind}
use Rattle.cl_forms.specs.declared.outer.DeclarationKind.TheVariants.{Record, PresentationType, HostType, PresentMethod, AcceptMethod, Function, Display, CommandTable, Command}
use Rattle.cl_forms.specs.declared.outer.DeclarationKind.TheVariants.{Translator, CommandTranslator, Dialog, Frame}
use Rattle.cl_forms.specs.declared.outer.OuterKind.{OuterKind}
use Rattle.cl_forms.specs.declared.outer.OuterKind.TheVariants.{Planned, Unknown}
use Rattle.cl_words.specs.declared.signatures.Signatures.{Signatures}
use Rattle.cl_declare.specs.Callees.{parse_record, parse_function, parse_display}
use Rattle.cl_declare.specs.Declarations.{parse_declared, parse_kind, parse_declaration}
use Rattle.cl_declare.specs.Names.{is_name_list, variables_in}
use Rattle.cl_declare.specs.declared.declarations.Declarations.{Declarations}
use Rattle.cl_declare.specs.declared.translator_shapes.TranslatorKind.TheVariants as translator
use Rattle.cl_faults.proofs.FaultLemmas.{FaultsAt, gives, refuses, binds, chooses}
use Rattle.cl_faults.proofs.ExpressionFaults.{Covers, covers_offset, expr_faults}
use Rattle.cl_faults.proofs.DataFaults.{CoversEach, covers_parts, covers_datums}
use Rattle.cl_faults.proofs.DisplayFaults.{shapes_faults}
use Rattle.cl_faults.proofs.CommandFaults.{command_table_faults, command_faults}
use Rattle.cl_faults.proofs.TranslatorFaults.{translator_faults}
use Rattle.cl_faults.proofs.DialogFaults.{dialog_faults}
use Rattle.cl_faults.proofs.FrameFaults.{frame_faults}
use Rattle.cl_faults.proofs.UserTypeFaults.{user_type_faults, host_type_faults, method_faults}

module _ {P : ℕ → Type 0} where
  -- ---- records, functions and displays

  pub record_faults : (at : ℕ) (ds : List Datum) → P at → FaultsAt P (parse_record at ds)
  record_faults at [] h = refuses h
  record_faults at (n ∷ []) h = refuses h
  record_faults at (n ∷ f ∷ fs) h = chooses (are_names (n ∷ f ∷ fs)) gives (refuses h)

  pub function_faults : (w : Signatures) (at : ℕ) (ds : List Datum) → P at → CoversEach P ds → FaultsAt P (parse_function w at ds)
  function_faults w at (n ∷ ps ∷ e ∷ []) h c =
      chooses (is_some (name_in n) && is_name_list ps) (binds (expr_faults w e (variables_in ps) c.1.1.0) λ t. gives) (refuses h)
  function_faults w at ds h c = refuses h

  pub display_faults : (w : Signatures) (at : ℕ) (ds : List Datum) → P at → CoversEach P ds → FaultsAt P (parse_display w at ds)
  display_faults w at [] h c = refuses h
  display_faults w at (n ∷ []) h c = refuses h
  display_faults w at (n ∷ ps ∷ body) h c =
      chooses (is_some (name_in n) && is_name_list ps)
      (binds (shapes_faults w (datums_of body) (variables_in ps) (covers_datums P body c.1.1)) λ fs. gives) (refuses h)

  -- ---- declarations

  declared_faults : (w : Signatures) (kind : DeclarationKind) (at : ℕ) (ds : List Datum) (s : Declarations) → P at → CoversEach P ds
      → FaultsAt P (parse_declared w kind at ds s)
  declared_faults w Record at ds s h c = binds (record_faults at ds h) λ d. gives
  declared_faults w PresentationType at ds s h c = binds (user_type_faults w at ds h c) λ d. gives
  declared_faults w HostType at ds s h c = binds (host_type_faults at ds h) λ d. gives
  declared_faults w PresentMethod at ds s h c = binds (method_faults w at ds h c) λ d. gives
  declared_faults w AcceptMethod at ds s h c = binds (method_faults w at ds h c) λ d. gives
  declared_faults w Function at ds s h c = binds (function_faults w at ds h c) λ d. gives
  declared_faults w Display at ds s h c = binds (display_faults w at ds h c) λ d. gives
  declared_faults w CommandTable at ds s h c = binds (command_table_faults w at ds h) λ d. gives
  declared_faults w Command at ds s h c = binds (command_faults w at ds h c) λ d. gives
  declared_faults w Translator at ds s h c = binds (translator_faults w translator.Object at ds h c) λ d. gives
  declared_faults w CommandTranslator at ds s h c = binds (translator_faults w translator.Command at ds h c) λ d. gives
  declared_faults w Dialog at ds s h c = binds (dialog_faults w at ds h c) λ d. gives
  declared_faults w Frame at ds s h c = binds (frame_faults w at ds h c) λ d. gives

  known_faults : (w : Signatures) (kind : Option DeclarationKind) (other : OuterKind) (at : ℕ) (ds : List Datum) (s : Declarations) → P at
      → CoversEach P ds → FaultsAt P (parse_kind w other at ds s) → FaultsAt P (parse_kind w (kind_or kind other) at ds s)
  known_faults w (Some kind) other at ds s h c k = declared_faults w kind at ds s h c
  known_faults w None other at ds s h c k = k

  later_faults : (w : Signatures) (planned : Bool) (head_at at : ℕ) (ds : List Datum) (s : Declarations) → P head_at
      → FaultsAt P (parse_kind w (if planned then Planned head_at else Unknown head_at) at ds s)
  later_faults w true head_at at ds s g = refuses g
  later_faults w false head_at at ds s g = refuses g

  kind_faults : (w : Signatures) (x : List ℕ) (head_at at : ℕ) (ds : List Datum) (s : Declarations) → P head_at → P at → CoversEach P ds
      → FaultsAt P (parse_kind w (kind_named x head_at) at ds s)
  kind_faults w x head_at at ds s g h c =
      known_faults w (declaration_named x) (if is_planned x then Planned head_at else Unknown head_at) at ds s h c
      (later_faults w (is_planned x) head_at at ds s g)

  first_faults : (w : Signatures) (at : ℕ) (d : Datum) (ds : List Datum) (s : Declarations) → Covers P d → P at → CoversEach P ds
      → FaultsAt P (parse_declaration w (outer_listed at (d ∷ ds)) s)
  first_faults w at (word x head_at) ds s b h c = kind_faults w x head_at at ds s (b head_at refl) h c
  first_faults w at d ds s b h c = refuses h

  listed_faults : (w : Signatures) (at : ℕ) (ds : List Datum) (s : Declarations) → P at → CoversEach P ds
      → FaultsAt P (parse_declaration w (outer_listed at ds) s)
  listed_faults w at [] s h c = refuses h
  listed_faults w at (d ∷ ds) s h c = first_faults w at d ds s c.0 h c.1

  pub declaration_faults : (w : Signatures) (d : Datum) (s : Declarations) → Covers P d → FaultsAt P (parse_declaration w (outer_in d) s)
  declaration_faults w d s c = listed_faults w (offset d) (parts_of d) s (covers_offset d c) (covers_parts d c)
