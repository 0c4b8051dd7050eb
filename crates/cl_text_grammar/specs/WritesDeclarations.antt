-- How a declaration is written, and the declarations of a text.
use Rattle.std.specs.Prelude.{◌≡◌, ℕ, List, [], ◌∷◌, ◌++◌, Option, Some, codes}
use Rattle.cl_table.specs.Names.{with_first}
use Rattle.cl_syntax.specs.ActTree.{ActTree, act_trees_of}
use Rattle.cl_syntax.specs.ExprTree.{ExprTree}
use Rattle.cl_syntax.specs.ShapeTree.{ShapeTree, shape_trees_of}
use Rattle.cl_syntax.specs.TypeSpecTree.{TypeSpecTree}
use Rattle.cl_forms.specs.Datum.{Datum, Datums, word, list, in_order}
use Rattle.cl_forms.specs.Naming.{name_in}
use Rattle.cl_words.specs.declared.signatures.Signatures.{Signatures}
use Rattle.cl_expressions.specs.Scopes.{Names}
use Rattle.cl_syntax.specs.declared.type_decls.RecordDecl.{RecordDecl}
use Rattle.cl_syntax.specs.declared.type_decls.TypeDecl.{TypeDecl}
use Rattle.cl_application.specs.declared.declarations.HostDecl.{HostDecl}
use Rattle.cl_application.specs.declared.declarations.MethodDecl.{MethodDecl}
use Rattle.cl_application.specs.declared.declarations.FunctionDecl.{FunctionDecl}
use Rattle.cl_application.specs.declared.declarations.DisplayDecl.{DisplayDecl}
use Rattle.cl_application.specs.declared.declarations.ArgumentDecl.{ArgumentDecl}
use Rattle.cl_application.specs.declared.declarations.CommandDecl.{CommandDecl}
use Rattle.cl_application.specs.declared.declarations.TranslatorDecl.{TranslatorDecl}
use Rattle.cl_application.specs.declared.declarations.DialogDecl.{DialogDecl}
use Rattle.cl_application.specs.declared.declarations.QueryDecl.{QueryDecl}
use Rattle.cl_application.specs.declared.declarations.SlotDecl.{SlotDecl}
use Rattle.cl_tables.specs.declared.declarations.TableDecl.{TableDecl}
use Rattle.cl_declare.specs.declared.declarations.Declarations.{Declarations}
use Rattle.cl_declare.specs.declared.frames.FrameForm.{FrameForm}
use Rattle.cl_declare.specs.declared.pane_forms.PaneForm.{PaneForm}
use Rattle.cl_declare.specs.declared.frames.Size.{Size}
use Rattle.cl_declare.specs.CommandShapes.{given_or_made}
use Rattle.cl_declare.specs.CommandTables.{table_or_global}
use Rattle.cl_declare.specs.Declarations.{nothing_declared}
use Rattle.cl_declare.specs.TypeShapes.{described}
use Rattle.cl_declare.specs.Types.{or_everything}
use Rattle.cl_declare.specs.declared.translator_shapes.TranslatorKind.TheVariants.{Object, Command}
use Rattle.cl_grammar.specs.Writes.{Writes}
use Rattle.cl_text_grammar.specs.WritesShapes.{WritesShapes}
use Rattle.cl_text_grammar.specs.WritesActs.{WritesActs}
use Rattle.cl_text_grammar.specs.WritesNames.{WritesNames, WritesNameList}
use Rattle.cl_text_grammar.specs.WritesFrames.{WritesSections, slots_of}
use Rattle.cl_text_grammar.specs.WritesUserTypes.{WritesTypeKeys}
use Rattle.cl_text_grammar.specs.WritesCommands.{WritesCommandHead, WritesCommandArguments, with_arguments, WritesParents}
use Rattle.cl_text_grammar.specs.WritesTranslators.{WritesTranslator}
use Rattle.cl_text_grammar.specs.WritesDialogs.{WritesDialogKeys, WritesQueries, with_queries, AskFor}

-- a method of a type, declared at this offset, writes what stands behind the head
pub data WritesMethod (at : ℕ) : MethodDecl → List Datum → Type 0 where
  -- NAME (PARAMETER) BODY
  a_method : {x p : List ℕ} {t : ExprTree} {n ps e : Datum} → name_in n ≡ Some x → WritesNameList (p ∷ []) ps → Writes t e
      → WritesMethod at (record { name = x; parameter = p; body = t; at = at }) (n ∷ ps ∷ e ∷ [])

-- what one outermost form declares
pub data Declaration : Type 0 where
  of_record : RecordDecl → Declaration
  of_user_type : TypeDecl → Declaration
  of_host_type : HostDecl → Declaration
  of_present_method : MethodDecl → Declaration
  of_accept_method : MethodDecl → Declaration
  of_function : FunctionDecl → Declaration
  of_display : DisplayDecl → Declaration
  of_command_table : TableDecl → Declaration
  of_command : CommandDecl → Declaration
  of_translator : TranslatorDecl → Declaration
  of_dialog : DialogDecl → Declaration
  of_frame : FrameForm → Declaration

-- a declaration at this offset writes the parts of a list
pub data WritesDeclared (w : Signatures) (at : ℕ) : Declaration → List Datum → Type 0 where
  -- (define-record NAME FIELD FIELD ...)
  a_record : {x f : List ℕ} {fs : Names} {n : Datum} {ds : List Datum} {h : ℕ} → name_in n ≡ Some x → WritesNames (f ∷ fs) ds
      → WritesDeclared w at (of_record (record { name = x; fields = f ∷ fs; at = at })) (word (codes "define-record") h ∷ n ∷ ds)
  -- (define-presentation-type NAME (PARAMETER ...) KEY VALUE ...): `t` where it inherits from nothing else, and its name where nothing describes it
  a_user_type : {x : List ℕ} {xs : Names} {i : Option TypeSpecTree} {f t : Option (List ℕ)} {n ps : Datum} {ds : List Datum} {h : ℕ} → name_in n ≡ Some x
      → WritesNameList xs ps → WritesTypeKeys w xs i f t ds
      → WritesDeclared w at
      (of_user_type (record { name = x; parameters = xs; inherit_from = or_everything i; satisfies = f; description = described x t; at = at }))
      (word (codes "define-presentation-type") h ∷ n ∷ ps ∷ ds)
  -- (define-host-type NAME)
  a_host_type : {x : List ℕ} {n : Datum} {h : ℕ} → name_in n ≡ Some x
      → WritesDeclared w at (of_host_type (record { name = x; at = at })) (word (codes "define-host-type") h ∷ n ∷ [])
  -- (define-present-method NAME (PARAMETER) BODY)
  a_present_method : {m : MethodDecl} {ds : List Datum} {h : ℕ} → WritesMethod at m ds
      → WritesDeclared w at (of_present_method m) (word (codes "define-present-method") h ∷ ds)
  -- (define-accept-method NAME (PARAMETER) BODY)
  an_accept_method : {m : MethodDecl} {ds : List Datum} {h : ℕ} → WritesMethod at m ds
      → WritesDeclared w at (of_accept_method m) (word (codes "define-accept-method") h ∷ ds)
  -- (define-function NAME (PARAMETER ...) BODY)
  a_function : {x : List ℕ} {xs : Names} {t : ExprTree} {n ps e : Datum} {h : ℕ} → name_in n ≡ Some x → WritesNameList xs ps → Writes t e
      → WritesDeclared w at (of_function (record { name = x; parameters = xs; body = t; at = at })) (word (codes "define-function") h ∷ n ∷ ps ∷ e ∷ [])
  -- (define-display NAME (PARAMETER ...) FORM ...)
  a_display : {x : List ℕ} {xs : Names} {fs : List ShapeTree} {n ps : Datum} {ds : List Datum} {h : ℕ} → name_in n ≡ Some x → WritesNameList xs ps
      → WritesShapes w (shape_trees_of fs) ds
      → WritesDeclared w at (of_display (record { name = x; parameters = xs; body = fs; at = at })) (word (codes "define-display") h ∷ n ∷ ps ∷ ds)
  -- (define-command-table NAME :inherit-from (TABLE ...))
  a_command_table : {x : List ℕ} {xs : Names} {n : Datum} {ds : List Datum} {h : ℕ} → name_in n ≡ Some x → WritesParents xs ds
      → WritesDeclared w at (of_command_table (record { name = x; inherit_from = xs; at = at })) (word (codes "define-command-table") h ∷ n ∷ ds)
  -- (define-command HEAD (ARGUMENT ...) STATEMENT ...): in the table that each text has where no other is named, and under the name that is made from its
  -- own where no other is given
  a_command : {x : List ℕ} {c t k : Option (List ℕ)} {a : List ArgumentDecl} {ss : List ActTree} {n : Datum} {es : Datums} {ds : List Datum} {list_at h : ℕ}
      → WritesCommandHead x c t k n → WritesCommandArguments w a (in_order es) → WritesActs (act_trees_of ss) ds
      → WritesDeclared w at
      (of_command (record {
        name = x;
        table = table_or_global c;
        line_name = given_or_made t x;
        keystroke = k;
        arguments = with_arguments [] a;
        body = ss;
        at = at;
      }))
      (word (codes "define-command") h ∷ n ∷ list es list_at ∷ ds)
  -- (define-presentation-translator NAME (FROM TO KEY VALUE ...) (PARAMETER) BODY)
  a_translator : {t : TranslatorDecl} {ds : List Datum} {h : ℕ} → WritesTranslator w Object at t ds
      → WritesDeclared w at (of_translator t) (word (codes "define-presentation-translator") h ∷ ds)
  -- (define-presentation-to-command-translator NAME (FROM COMMAND KEY VALUE ...) (PARAMETER) BODY)
  a_command_translator : {t : TranslatorDecl} {ds : List Datum} {h : ℕ} → WritesTranslator w Command at t ds
      → WritesDeclared w at (of_translator t) (word (codes "define-presentation-to-command-translator") h ∷ ds)
  -- (define-dialog NAME (:command COMMAND :pane PANE) QUERY ...)
  a_dialog : {x c p : List ℕ} {qs : List QueryDecl} {n : Datum} {keys : Datums} {ds : List Datum} {keys_at h : ℕ} → name_in n ≡ Some x
      → WritesDialogKeys (Some c) (Some p) (in_order keys) → WritesQueries qs ds → AskFor w c qs
      → WritesDeclared w at (of_dialog (record { name = x; command = c; pane = p; queries = with_queries [] qs; at = at }))
      (word (codes "define-dialog") h ∷ n ∷ list keys keys_at ∷ ds)
  -- (define-application-frame NAME SECTION ...): with the table that each text has where no other is named
  a_frame : {x : List ℕ} {z : Size} {ss : Option (List SlotDecl)} {ps : List PaneForm} {c : Option (List ℕ)} {n : Datum} {ds : List Datum} {h : ℕ}
      → name_in n ≡ Some x → WritesSections w (Some z) ss (Some ps) c ds
      → WritesDeclared w at
      (of_frame (record { name = x; width = z.width; height = z.height; slots = slots_of ss; panes = ps; table = table_or_global c; at = at }))
      (word (codes "define-application-frame") h ∷ n ∷ ds)

-- a declaration writes a datum
pub data WritesDeclaration (w : Signatures) : Declaration → Datum → Type 0 where
  a_declaration : {e : Declaration} {ds : Datums} {at : ℕ} → WritesDeclared w at e (in_order ds) → WritesDeclaration w e (list ds at)

-- declarations write the data of a text, one each
pub data WritesText (w : Signatures) : List Declaration → List Datum → Type 0 where
  nothing : WritesText w [] []
  one_more : {e : Declaration} {es : List Declaration} {d : Datum} {ds : List Datum} → WritesDeclaration w e d → WritesText w es ds
      → WritesText w (e ∷ es) (d ∷ ds)

-- ---- tables

-- behind others: of two of one name in one table the first counts, and all frames are kept
abbrev pub with_declaration : Declarations → Declaration → Declarations
with_declaration s (of_record d) = record s { records = with_first (λ e. e.name) s.records d }
with_declaration s (of_user_type d) = record s { types = with_first (λ e. e.name) s.types d }
with_declaration s (of_host_type d) = record s { hosts = with_first (λ e. e.name) s.hosts d }
with_declaration s (of_present_method d) = record s { present_methods = with_first (λ e. e.name) s.present_methods d }
with_declaration s (of_accept_method d) = record s { accept_methods = with_first (λ e. e.name) s.accept_methods d }
with_declaration s (of_function d) = record s { functions = with_first (λ e. e.name) s.functions d }
with_declaration s (of_display d) = record s { displays = with_first (λ e. e.name) s.displays d }
with_declaration s (of_command_table d) = record s { tables = with_first (λ e. e.name) s.tables d }
with_declaration s (of_command d) = record s { commands = with_first (λ e. e.name) s.commands d }
with_declaration s (of_translator d) = record s { translators = with_first (λ e. e.name) s.translators d }
with_declaration s (of_dialog d) = record s { dialogs = with_first (λ e. e.name) s.dialogs d }
with_declaration s (of_frame d) = record s { frames = s.frames ++ d ∷ [] }

-- the tables with declarations put in, one after another
abbrev pub with_declarations : Declarations → List Declaration → Declarations
with_declarations s [] = s
with_declarations s (e ∷ es) = with_declarations (with_declaration s e) es

-- the tables hold what declarations that write the data of a text declare
pub record IsDeclaredIn (w : Signatures) (before : Declarations) (ds : List Datum) (tables : Declarations) : Type 0 where
  pub declarations : List Declaration
  pub written : WritesText w declarations ds
  pub tabled : tables ≡ with_declarations before declarations

-- the tables of a text
abbrev pub TextDeclares : Signatures → List Datum → Declarations → Type 0
TextDeclares w ds tables = IsDeclaredIn w nothing_declared ds tables
