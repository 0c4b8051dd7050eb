-- The declarations of a text. Each is wrong at its own offset where its counts, names or keys are; then its forms are read in the
-- order of the text. Of two of one name in one table the first counts; all frames are kept.
use Rattle.std.specs.Prelude.{ℕ, List, [], ◌∷◌, ◌++◌}
use Rattle.cl_table.specs.Names.{with_first}
use Rattle.cl_forms.specs.Datum.{Datum}
use Rattle.cl_forms.specs.Outer.{Outer}
use Rattle.cl_forms.specs.declared.outer.DeclarationKind.{DeclarationKind}
use Rattle.cl_forms.specs.declared.outer.DeclarationKind.TheVariants.{Record, PresentationType, HostType, PresentMethod, AcceptMethod, Function, Display, CommandTable, Command, Translator, CommandTranslator, Dialog, Frame}
use Rattle.cl_forms.specs.declared.outer.OuterKind.{OuterKind}
use Rattle.cl_forms.specs.declared.outer.OuterKind.TheVariants.{Declared, Planned, Unknown, Headless}
use Rattle.cl_words.specs.declared.signatures.Signatures.{Signatures}
use Rattle.cl_expressions.specs.Load.{Load, ◌>>=◌, give, refuse}
use Rattle.cl_declare.specs.Callees.{parse_record, parse_function, parse_display}
use Rattle.cl_declare.specs.CommandTables.{parse_table}
use Rattle.cl_declare.specs.Commands.{parse_command}
use Rattle.cl_declare.specs.Dialogs.{parse_dialog}
use Rattle.cl_declare.specs.Methods.{parse_method}
use Rattle.cl_declare.specs.Sections.{parse_frame}
use Rattle.cl_declare.specs.Translators.{parse_translator}
use Rattle.cl_declare.specs.Types.{parse_host_type, parse_user_type}
use Rattle.cl_declare.specs.declared.declarations.Declarations.{Declarations}
use Rattle.cl_declare.specs.declared.translator_shapes.TranslatorKind.TheVariants as kind

-- behind what was declared before
abbrev pub parse_declared : Signatures → DeclarationKind → ℕ → List Datum → Declarations → Load Declarations
parse_declared w Record at parts s = parse_record at parts >>= λ d. give (record s { records = with_first (λ e. e.name) s.records d })
parse_declared w PresentationType at parts s = parse_user_type w at parts >>= λ d. give (record s { types = with_first (λ e. e.name) s.types d })
parse_declared w HostType at parts s = parse_host_type at parts >>= λ d. give (record s { hosts = with_first (λ e. e.name) s.hosts d })
parse_declared w PresentMethod at parts s = parse_method w at parts >>= λ d. give (record s { present_methods = with_first (λ e. e.name) s.present_methods d })
parse_declared w AcceptMethod at parts s = parse_method w at parts >>= λ d. give (record s { accept_methods = with_first (λ e. e.name) s.accept_methods d })
parse_declared w Function at parts s = parse_function w at parts >>= λ d. give (record s { functions = with_first (λ e. e.name) s.functions d })
parse_declared w Display at parts s = parse_display w at parts >>= λ d. give (record s { displays = with_first (λ e. e.name) s.displays d })
parse_declared w CommandTable at parts s = parse_table w at parts >>= λ d. give (record s { tables = with_first (λ e. e.name) s.tables d })
parse_declared w Command at parts s = parse_command w at parts >>= λ d. give (record s { commands = with_first (λ e. e.name) s.commands d })
parse_declared w Translator at parts s = parse_translator w kind.Object at parts >>= λ d. give (record s { translators = with_first (λ e. e.name) s.translators d })
parse_declared w CommandTranslator at parts s = parse_translator w kind.Command at parts >>= λ d. give (record s { translators = with_first (λ e. e.name) s.translators d })
parse_declared w Dialog at parts s = parse_dialog w at parts >>= λ d. give (record s { dialogs = with_first (λ e. e.name) s.dialogs d })
parse_declared w Frame at parts s = parse_frame w at parts >>= λ d. give (record s { frames = s.frames ++ d ∷ [] })

-- an outermost form: 6 where no symbol heads it, 5 where the symbol heads no declaration, 0 where that is not built yet
abbrev pub parse_kind : Signatures → OuterKind → ℕ → List Datum → Declarations → Load Declarations
parse_kind w (Declared kind) at parts s = parse_declared w kind at parts s
parse_kind w (Planned head_at) at parts s = refuse 0 head_at
parse_kind w (Unknown head_at) at parts s = refuse 5 head_at
parse_kind w Headless at parts s = refuse 6 at

-- what an outermost form declares, behind what was declared before
abbrev pub parse_declaration : Signatures → Outer → Declarations → Load Declarations
parse_declaration w o s = parse_kind w o.kind o.at o.parts s

-- what outermost forms declare one after another, behind what was declared before
abbrev pub parse_each_declaration : Signatures → List Outer → Declarations → Load Declarations
parse_each_declaration w [] s = give s
parse_each_declaration w (o ∷ os) s = parse_declaration w o s >>= λ t. parse_each_declaration w os t

-- no declaration in any table
abbrev pub nothing_declared : Declarations
nothing_declared = record {
  records = [];
  types = [];
  hosts = [];
  present_methods = [];
  accept_methods = [];
  functions = [];
  displays = [];
  tables = [];
  commands = [];
  translators = [];
  dialogs = [];
  frames = [];
}

-- what the outermost forms of a text declare
abbrev pub parse_declarations : Signatures → List Outer → Load Declarations
parse_declarations w os = parse_each_declaration w os nothing_declared
