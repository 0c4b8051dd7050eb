-- The updates of an application that a text loads as stand at forms of the text or are lines of its dialogs, each at its own site.
use Rattle.std.proofs.Common.{◌≡◌, ◌≤◌, ◌<◌, ℕ, Bool, true, false, ◌&&◌, List, [], ◌∷◌, ◌++◌, subst, arith, IfOk}
use Rattle.std.specs.Prelude.{Result, Ok, Err, Option, Some, None, is_some, if◌then◌else◌}
use Rattle.cl_table.specs.Names.{named, with_first}
use Rattle.cl_forms.specs.Datum.{Datum, number, literal, word, quoted, stray, list, none, item, in_order, datums_of}
use Rattle.cl_forms.specs.Naming.{name_in}
use Rattle.cl_forms.specs.Outer.{kind_named, outer_in, outers_of}
use Rattle.cl_forms.specs.Tree.{trees_of}
use Rattle.cl_forms.specs.declared.outer.DeclarationKind.{DeclarationKind}
use Rattle.cl_forms.specs.declared.outer.DeclarationKind.TheVariants.{Record, PresentationType, HostType, PresentMethod, AcceptMethod, Function, Display, CommandTable, Command, Translator, CommandTranslator, Dialog, Frame}
use Rattle.cl_forms.specs.declared.outer.OuterKind.{OuterKind}
use Rattle.cl_forms.specs.declared.outer.OuterKind.TheVariants.{Declared, Planned, Unknown, Headless}
use Rattle.cl_words.specs.Signatures.{signatures_of}
use Rattle.cl_words.specs.declared.signatures.Signatures.{Signatures}
use Rattle.cl_expressions.specs.Load.{Fault, Notes, nothing_noted}
use Rattle.cl_application.specs.declared.applications.App.{App}
use Rattle.cl_application.specs.declared.declarations.DialogDecl.{DialogDecl}
use Rattle.cl_application.specs.declared.declarations.DisplayDecl.{DisplayDecl}
use Rattle.cl_application.specs.declared.declarations.FrameDecl.{FrameDecl}
use Rattle.cl_bodies.specs.declared.display_forms.Context.TheVariants as context
use Rattle.cl_declare.specs.Callees.{parse_display, parse_function, parse_record}
use Rattle.cl_declare.specs.CommandTables.{parse_table}
use Rattle.cl_declare.specs.Commands.{parse_command}
use Rattle.cl_declare.specs.Declarations.{nothing_declared, parse_declaration, parse_declared, parse_each_declaration, parse_kind}
use Rattle.cl_declare.specs.Methods.{parse_method}
use Rattle.cl_declare.specs.Names.{is_name_list, variables_in}
use Rattle.cl_declare.specs.Sections.{parse_frame}
use Rattle.cl_declare.specs.Translators.{parse_translator}
use Rattle.cl_declare.specs.Types.{parse_host_type, parse_user_type}
use Rattle.cl_declare.specs.declared.declarations.Declarations.{Declarations}
use Rattle.cl_declare.specs.declared.frames.FrameForm.{FrameForm}
use Rattle.cl_declare.specs.declared.translator_shapes.TranslatorKind.TheVariants as kind
use Rattle.cl_grammar.specs.Lies.{Lies, LieAll, LieInText}
use Rattle.cl_grammar.proofs.Endings.{Ends, gives, refuses, chooses, binds}
use Rattle.cl_grammar.proofs.Lying.{LieList, datum_earlier, datum_rises, list_lies}
use Rattle.cl_grammar.proofs.TextLies.{text_lies}
use Rattle.cl_load.specs.Application.{ComesTo, LoadsAs, data_of}
use Rattle.cl_load.specs.Outcome.{Comes, IsVerdict, parse}
use Rattle.cl_opening.specs.Placing.{place_frame}
use Rattle.cl_load.specs.Refusals.{app_in, app_of, app_placed, declared_app, faults, first_fault}
use Rattle.cl_load.specs.Types.{Bounds}
use Rattle.cl_reuse.specs.Sited.{AreApart, InDisplays}
use Rattle.cl_loaded.proofs.SitesDialogs.{IsDialogAt, Rise, dialog_at, extended_apart, one_more, rise_later, rise_more}
use Rattle.cl_loaded.proofs.SitesForms.{IsWritten, StandAll, anything, body_stands}
use Rattle.cl_loaded.proofs.SitesLemmas.{Spaced, either, fewer, form_of, nothing, wider}

-- the updates of these displays, up to a place
abbrev InTable : ℕ → List (List ℕ × DisplayDecl) → Type 0
InTable to ds = Spaced form_of IsWritten 0 to (λ u. InDisplays u ds)

-- the updates of what is declared, and the dialogs
abbrev Apart : ℕ → Declarations → Type 0
Apart to s = InTable to s.displays × Rise 0 s.dialogs to

-- ---- one more display

with_more : (taken : Bool) (ds : List (List ℕ × DisplayDecl)) (x : List ℕ) (d : DisplayDecl) (from to : ℕ) → from ≤ to → InTable from ds
    → StandAll from to d.body → InTable to (if taken then ds else ds ++ (x, d) ∷ [])
with_more true ds x d from to l h k = wider 0 0 from to (omega arith) l h
with_more false ds x d from to l h k = fewer 0 to (λ u i. one_more u ds x d i) (either 0 from to h k (omega arith) l)

-- ---- declarations

all_of : (ds : List Datum) (from to : ℕ) → LieList from ds to → LieAll from (datums_of ds) to
all_of [] from to h = h
all_of (d ∷ ds) from to h = (h.0, h.1, all_of ds h.0 to h.2)

list_of : (ds : List Datum) (from to : ℕ) → LieAll from (datums_of ds) to → LieList from ds to
list_of [] from to h = h
list_of (d ∷ ds) from to h = (h.0, h.1, list_of ds h.0 to h.2)

list_earlier : (ds : List Datum) (before from to : ℕ) → before ≤ from → LieList from ds to → LieList before ds to
list_earlier [] before from to l h = omega (arith, l, h)
list_earlier (d ∷ ds) before from to l h = (h.0, datum_earlier d before from h.0 l h.1, h.2)

display_stands : (w : Signatures) (at : ℕ) (parts : List Datum) (from to : ℕ) → LieList from parts to
    → Ends (λ (d : DisplayDecl). StandAll from to d.body) (parse_display w at parts)
display_stands w at [] from to h = refuses
display_stands w at (n ∷ []) from to h = refuses
display_stands w at (n ∷ ps ∷ body) from to h =
    let lie : LieAll from (datums_of body) to =
    all_of body from to
    (list_earlier body from h.2.0 to (omega (arith, datum_rises n from h.0 h.1, datum_rises ps h.0 h.2.0 h.2.1)) h.2.2) in
    chooses (is_some (name_in n) && is_name_list ps)
    (λ y. binds (body_stands w context.Display (datums_of body) (variables_in ps) from to lie) λ fs i. gives i) (λ y. refuses)

module _ (w : Signatures) (at : ℕ) (parts : List Datum) (s : Declarations) (from to : ℕ) (l : from ≤ at) (r : at < to) (lie : LieList from parts to)
    (h : Apart from s) where
  same_displays : InTable to s.displays
  same_displays = wider 0 0 from to (omega arith) (omega (arith, l, r)) h.0

  same_dialogs : Rise 0 s.dialogs to
  same_dialogs = rise_later s.dialogs 0 from to (omega (arith, l, r)) h.1

  unchanged : Apart to s
  unchanged = (same_displays, same_dialogs)

  one_dialog : (d : DialogDecl) → IsDialogAt at d → Rise 0 (with_first (λ e. e.name) s.dialogs d) to
  one_dialog d e = rise_more (is_some (named d.name s.dialogs)) s.dialogs d.name d 0 from to h.1 (omega (arith, l, e)) (omega (arith, r, e))

  declared_apart : (k : DeclarationKind) → Ends (Apart to) (parse_declared w k at parts s)
  declared_apart Record = binds (anything (parse_record at parts)) λ d x. gives unchanged
  declared_apart PresentationType = binds (anything (parse_user_type w at parts)) λ d x. gives unchanged
  declared_apart HostType = binds (anything (parse_host_type at parts)) λ d x. gives unchanged
  declared_apart PresentMethod = binds (anything (parse_method w at parts)) λ d x. gives unchanged
  declared_apart AcceptMethod = binds (anything (parse_method w at parts)) λ d x. gives unchanged
  declared_apart Function = binds (anything (parse_function w at parts)) λ d x. gives unchanged
  declared_apart Display =
      binds (display_stands w at parts from to lie) λ d i.
      gives (with_more (is_some (named d.name s.displays)) s.displays d.name d from to (omega (arith, l, r)) h.0 i, same_dialogs)
  declared_apart CommandTable = binds (anything (parse_table w at parts)) λ d x. gives unchanged
  declared_apart Command = binds (anything (parse_command w at parts)) λ d x. gives unchanged
  declared_apart Translator = binds (anything (parse_translator w kind.Object at parts)) λ d x. gives unchanged
  declared_apart CommandTranslator = binds (anything (parse_translator w kind.Command at parts)) λ d x. gives unchanged
  declared_apart Dialog = binds (dialog_at w at parts) λ d e. gives (same_displays, one_dialog d e)
  declared_apart Frame = binds (anything (parse_frame w at parts)) λ d x. gives unchanged

  kind_apart : (k : OuterKind) → Ends (Apart to) (parse_kind w k at parts s)
  kind_apart (Declared k) = declared_apart k
  kind_apart (Planned head_at) = refuses
  kind_apart (Unknown head_at) = refuses
  kind_apart Headless = refuses

-- an outermost form
declaration_apart : (w : Signatures) (d : Datum) (s : Declarations) (from to : ℕ) → Lies from d to → Apart from s
    → Ends (Apart to) (parse_declaration w (outer_in d) s)
declaration_apart w (list (item (word x head_at) ds) at) s from to h k =
    let parts : LieList from (in_order ds) to =
    list_earlier (in_order ds) from h.2.0 to (omega (arith, h.0, h.2.1.0, h.2.1.1)) (list_lies ds h.2.0 to h.2.2) in
    kind_apart w at (in_order ds) s from to h.0 h.1 parts k (kind_named x head_at)
declaration_apart w (list (item (number z head_at) ds) at) s from to h k = refuses
declaration_apart w (list (item (literal x head_at) ds) at) s from to h k = refuses
declaration_apart w (list (item (quoted x head_at name_at) ds) at) s from to h k = refuses
declaration_apart w (list (item (stray head_at) ds) at) s from to h k = refuses
declaration_apart w (list (item (list es head_at) ds) at) s from to h k = refuses
declaration_apart w (list none at) s from to h k = refuses
declaration_apart w (number z at) s from to h k = refuses
declaration_apart w (literal x at) s from to h k = refuses
declaration_apart w (word x at) s from to h k = refuses
declaration_apart w (quoted x at name_at) s from to h k = refuses
declaration_apart w (stray at) s from to h k = refuses

each_apart : (w : Signatures) (ds : List Datum) (s : Declarations) (from to : ℕ) → LieList from ds to → Apart from s
    → Ends (Apart to) (parse_each_declaration w (outers_of ds) s)
each_apart w [] s from to h k = gives (wider 0 0 from to (omega arith) h k.0, rise_later s.dialogs 0 from to h k.1)
each_apart w (d ∷ ds) s from to h k =
    binds (declaration_apart w d s from h.0 h.1 k) λ t i. each_apart w ds t h.0 to h.2 i

-- what the data of a text declare
data_apart : (ds : List Datum) → (lie : LieInText (datums_of ds)) → IfOk (parse ds nothing_noted) (λ x. Apart lie.end x.0)
data_apart ds lie =
    (each_apart (signatures_of (outers_of ds)) ds nothing_declared 0 lie.end (list_of ds 0 lie.end lie.lie) (nothing 0 0, omega arith)).ends nothing_noted

-- ---- applications

no_error : {A B : Type 0} {x : A} {y : B} → ◌≡◌ {A = Result A B} (Ok x) (Err y) → ⊥
no_error e = cc

verdict_app : (fault : Option Fault) (given : Option App) (app : App) → IsVerdict fault given (Ok app) → given ≡ Some app
verdict_app (Some fault) given app h = absurd (no_error h)
verdict_app None given app h = h

placed_apart : (s : Declarations) (to : ℕ) (r : Result FrameDecl Fault) (app : App) → Apart to s → app_placed s r ≡ Some app → AreApart app
placed_apart s to (Ok f) app k e =
    let same : app_of s f ≡ app = cc in subst AreApart same (extended_apart (declared_app s f) to k.0 k.1)
placed_apart s to (Err fault) app k e = cc

framed_apart : (s : Declarations) (to : ℕ) (fs : List FrameForm) (app : App) → Apart to s → app_in s fs ≡ Some app → AreApart app
framed_apart s to [] app k e = cc
framed_apart s to (f ∷ more) app k e = placed_apart s to (place_frame f) app k e

comes_apart : (bounds : Bounds) (length : ℕ) (ds : List Datum) (to : ℕ) (app : App) (r : Result (Declarations × Notes) Fault)
    → IfOk r (λ x. Apart to x.0) → Comes bounds length ds r (Ok app) → AreApart app
comes_apart bounds length ds to app (Err fault) k h = absurd (no_error h)
comes_apart bounds length ds to app (Ok x) k h =
    let given : app_in x.0 x.0.frames ≡ Some app =
    verdict_app (first_fault (faults bounds length ds x.0 x.1 h.ring h.misfit h.large h.reading)) (app_in x.0 x.0.frames) app h.verdict in
    framed_apart x.0 to x.0.frames app k given

come_apart : (bounds : Bounds) (bytes : List ℕ) (app : App) → ComesTo bounds bytes (Ok app) → AreApart app
come_apart bounds bytes app c =
    let lie : LieInText (datums_of (data_of c.forms)) = text_lies bytes c.read.tokens (trees_of c.forms) c.read.read c.read.spelled in
    comes_apart bounds _ (data_of c.forms) lie.end app (parse (data_of c.forms) nothing_noted) (data_apart (data_of c.forms) lie) c.comes

pub loaded_apart : (bounds : Bounds) (bytes : List ℕ) (app : App) → LoadsAs bounds bytes (Ok app) → AreApart app
loaded_apart bounds bytes app h = come_apart bounds bytes app h.0
