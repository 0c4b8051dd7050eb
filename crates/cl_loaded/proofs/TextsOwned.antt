-- The user types of an application that loads stand under their own names.
use Rattle.std.proofs.Common.{◌≡◌, ◌++◌, ℕ, Bool, true, false, List, [], ◌∷◌, Option, Some, None, refl, subst}
use Rattle.std.specs.Prelude.{All, if◌then◌else◌, is_some, Result, Ok, Err}
use Rattle.std.proofs.lemmas.List.Elements.{All-nil, All-push}
use Rattle.cl_syntax.specs.declared.type_decls.TypeDecl.{TypeDecl}
use Rattle.cl_table.specs.Names.{named}
use Rattle.cl_application.specs.declared.applications.App.{App}
use Rattle.cl_application.specs.declared.declarations.FrameDecl.{FrameDecl}
use Rattle.cl_forms.specs.Datum.{Datum}
use Rattle.cl_forms.specs.Outer.{Outer, outers_of}
use Rattle.cl_forms.specs.declared.outer.DeclarationKind.{DeclarationKind}
use Rattle.cl_forms.specs.declared.outer.DeclarationKind.TheVariants.{Record, PresentationType, HostType, PresentMethod, AcceptMethod, Function, Display, CommandTable, Command}
use Rattle.cl_forms.specs.declared.outer.DeclarationKind.TheVariants.{Translator, CommandTranslator, Dialog, Frame}
use Rattle.cl_forms.specs.declared.outer.OuterKind.{OuterKind}
use Rattle.cl_forms.specs.declared.outer.OuterKind.TheVariants.{Declared, Planned, Unknown, Headless}
use Rattle.cl_words.specs.Signatures.{signatures_of}
use Rattle.cl_words.specs.declared.signatures.Signatures.{Signatures}
use Rattle.cl_expressions.specs.Load.{Fault, Load, Notes, after, nothing_noted}
use Rattle.cl_declare.specs.Callees.{parse_display, parse_function, parse_record}
use Rattle.cl_declare.specs.CommandTables.{parse_table}
use Rattle.cl_declare.specs.Commands.{parse_command}
use Rattle.cl_declare.specs.Declarations.{nothing_declared, parse_declaration, parse_declarations, parse_declared, parse_each_declaration, parse_kind}
use Rattle.cl_declare.specs.Dialogs.{parse_dialog}
use Rattle.cl_declare.specs.Methods.{parse_method}
use Rattle.cl_declare.specs.Sections.{parse_frame}
use Rattle.cl_declare.specs.Translators.{parse_translator}
use Rattle.cl_declare.specs.Types.{parse_host_type, parse_user_type}
use Rattle.cl_declare.specs.declared.declarations.Declarations.{Declarations}
use Rattle.cl_declare.specs.declared.frames.FrameForm.{FrameForm}
use Rattle.cl_declare.specs.declared.translator_shapes.TranslatorKind.TheVariants as translator
use Rattle.cl_load.specs.Application.{LoadsAs, data_of}
use Rattle.cl_load.specs.Outcome.{Comes, IsVerdict, parse}
use Rattle.cl_opening.specs.Placing.{place_frame}
use Rattle.cl_load.specs.Refusals.{app_in, app_of, app_placed, faults, first_fault}
use Rattle.cl_load.specs.Types.{Bounds}
use Rattle.cl_loaded.specs.Texts.{StandUnderTheirNames}

abbrev Types : Type 0
Types = List (List ℕ × TypeDecl)

abbrev AreOwned : Types → Type 0
AreOwned types = All (λ e. e.0 ≡ e.1.name) types

-- ---- what is declared

with-owned : (b : Bool) (types : Types) (d : TypeDecl) → AreOwned types → AreOwned (if b then types else types ++ (d.name, d) ∷ [])
with-owned true types d own = own
with-owned false types d own = All-push (λ e. e.0 ≡ e.1.name) types (d.name, d) own refl

-- the user types of what is read, unless that failed
abbrev AreKept : Result (Declarations × Notes) Fault → Type 0
AreKept (Ok x) = AreOwned x.0.types
AreKept (Err fault) = Unit {0}

after-kept : {A : Type 0} (r : Result (A × Notes) Fault) (f : A → Load Declarations) → ((x : A) (notes : Notes) → AreKept (f x notes)) → AreKept (after r f)
after-kept (Ok x) f kept = kept x.0 x.1
after-kept (Err fault) f kept = tt

declared-kept : (w : Signatures) (k : DeclarationKind) (at : ℕ) (ds : List Datum) (s : Declarations) → AreOwned s.types → (notes : Notes)
    → AreKept (parse_declared w k at ds s notes)
declared-kept w Record at ds s own notes = after-kept (parse_record at ds notes) _ (λ d later. own)
declared-kept w PresentationType at ds s own notes =
    after-kept (parse_user_type w at ds notes) _ (λ d later. with-owned (is_some (named d.name s.types)) s.types d own)
declared-kept w HostType at ds s own notes = after-kept (parse_host_type at ds notes) _ (λ d later. own)
declared-kept w PresentMethod at ds s own notes = after-kept (parse_method w at ds notes) _ (λ d later. own)
declared-kept w AcceptMethod at ds s own notes = after-kept (parse_method w at ds notes) _ (λ d later. own)
declared-kept w Function at ds s own notes = after-kept (parse_function w at ds notes) _ (λ d later. own)
declared-kept w Display at ds s own notes = after-kept (parse_display w at ds notes) _ (λ d later. own)
declared-kept w CommandTable at ds s own notes = after-kept (parse_table w at ds notes) _ (λ d later. own)
declared-kept w Command at ds s own notes = after-kept (parse_command w at ds notes) _ (λ d later. own)
declared-kept w Translator at ds s own notes = after-kept (parse_translator w translator.Object at ds notes) _ (λ d later. own)
declared-kept w CommandTranslator at ds s own notes = after-kept (parse_translator w translator.Command at ds notes) _ (λ d later. own)
declared-kept w Dialog at ds s own notes = after-kept (parse_dialog w at ds notes) _ (λ d later. own)
declared-kept w Frame at ds s own notes = after-kept (parse_frame w at ds notes) _ (λ d later. own)

kind-kept : (w : Signatures) (k : OuterKind) (at : ℕ) (ds : List Datum) (s : Declarations) → AreOwned s.types → (notes : Notes)
    → AreKept (parse_kind w k at ds s notes)
kind-kept w (Declared k) at ds s own notes = declared-kept w k at ds s own notes
kind-kept w (Planned head_at) at ds s own notes = tt
kind-kept w (Unknown head_at) at ds s own notes = tt
kind-kept w Headless at ds s own notes = tt

-- what comes behind a form
then-kept : (r : Result (Declarations × Notes) Fault) (f : Declarations → Load Declarations)
    → ((s : Declarations) → AreOwned s.types → (notes : Notes) → AreKept (f s notes)) → AreKept r → AreKept (after r f)
then-kept (Ok x) f kept own = kept x.0 own x.1
then-kept (Err fault) f kept own = tt

each-kept : (w : Signatures) (os : List Outer) (s : Declarations) → AreOwned s.types → (notes : Notes) → AreKept (parse_each_declaration w os s notes)
each-kept w [] s own notes = own
each-kept w (o ∷ os) s own notes =
    then-kept (parse_declaration w o s notes) (λ t. parse_each_declaration w os t) (λ t k later. each-kept w os t k later)
    (kind-kept w o.kind o.at o.parts s own notes)

all-kept : (w : Signatures) (os : List Outer) → AreKept (parse_declarations w os nothing_noted)
all-kept w os = each-kept w os nothing_declared (All-nil (λ e. e.0 ≡ e.1.name)) nothing_noted

-- ---- what loads

same-app : (a b : App) → Some a ≡ Some b → a ≡ b
same-app a b h = cc

placed-owned : (s : Declarations) (r : Result FrameDecl Fault) (app : App) → app_placed s r ≡ Some app → AreOwned s.types → AreOwned app.types
placed-owned s (Ok f) app h own = subst (λ (a : App). AreOwned a.types) (same-app (app_of s f) app h) own
placed-owned s (Err fault) app h own = cc

framed-owned : (s : Declarations) (fs : List FrameForm) (app : App) → app_in s fs ≡ Some app → AreOwned s.types → AreOwned app.types
framed-owned s [] app h own = cc
framed-owned s (f ∷ fs) app h own = placed-owned s (place_frame f) app h own

no-fault : (first : Option Fault) (o : Option App) (app : App) → IsVerdict first o (Ok app) → o ≡ Some app
no-fault (Some fault) o app h = cc
no-fault None o app h = h

settled-owned : (bounds : Bounds) (size : ℕ) (ds : List Datum) (r : Result (Declarations × Notes) Fault) (app : App) → AreKept r
    → Comes bounds size ds r (Ok app) → AreOwned app.types
settled-owned bounds size ds (Ok x) app own h =
    framed-owned x.0 x.0.frames app
    (no-fault (first_fault (faults bounds size ds x.0 x.1 h.ring h.misfit h.large h.reading)) (app_in x.0 x.0.frames) app h.verdict) own
settled-owned bounds size ds (Err fault) app own h = cc

pub loaded-owned : (bounds : Bounds) (bytes : List ℕ) (app : App) → LoadsAs bounds bytes (Ok app) → StandUnderTheirNames app
loaded-owned bounds bytes app h =
    let ds : List Datum = data_of h.0.forms in
    settled-owned bounds _ ds (parse ds nothing_noted) app (all-kept (signatures_of (outers_of ds)) (outers_of ds)) h.0.comes
