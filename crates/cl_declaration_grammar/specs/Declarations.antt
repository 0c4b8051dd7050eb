-- What is looked at of a declaration.
use Rattle.std.specs.Prelude.{ℕ, ◌&&◌, is_some, if◌then◌else◌, List, [], ◌∷◌, Option, Some, None, codes}
use Rattle.cl_table.specs.Names.{named}
use Rattle.cl_forms.specs.Datum.{Datum, number, literal, word, quoted, stray, list, parts_of, offset}
use Rattle.cl_forms.specs.Naming.{are_names, name_in}
use Rattle.cl_words.specs.declared.signatures.Signatures.{Signatures}
use Rattle.cl_declare.specs.Names.{is_name_list, variables_in}
use Rattle.cl_declare.specs.TypeShapes.{name_alone}
use Rattle.cl_declare.specs.declared.translator_shapes.TranslatorKind.TheVariants.{Object, Command}
use Rattle.cl_grammar.specs.Sights.{expression}
use Rattle.cl_text_grammar.specs.FormSights.{forms_seen}
use Rattle.cl_declaration_grammar.specs.Parts.{Part, refused, method_name, expressions, shapes, wrong, planned}
use Rattle.cl_declaration_grammar.specs.Commands.{command_seen, command_table_seen}
use Rattle.cl_declaration_grammar.specs.Frames.{frame_seen}
use Rattle.cl_declaration_grammar.specs.UserTypes.{user_type_seen}
use Rattle.cl_declaration_grammar.specs.Translators.{translator_seen}
use Rattle.cl_declaration_grammar.specs.Dialogs.{dialog_seen}

-- what is looked at of a declaration, by its offset, the offset of its head, and its parts
abbrev pub Row : Type 0
Row = ℕ → ℕ → List Datum → List Part

-- `(define-record NAME FIELD FIELD ...)`: nothing but names
abbrev pub record_seen : Row
record_seen at h (n ∷ f ∷ fs) = if are_names (n ∷ f ∷ fs) then [] else wrong at
record_seen at h parts = wrong at

-- `(define-host-type NAME)`
abbrev pub host_type_seen : Row
host_type_seen at h (n ∷ []) = if is_some (name_in n) then [] else wrong at
host_type_seen at h parts = wrong at

-- the name of a type, and a body that sees the parameter
abbrev pub method_named_seen : ℕ → ℕ → Option (List ℕ) → Option (List ℕ) → Datum → List Part
method_named_seen at name_at (Some x) (Some p) e = method_name x name_at ∷ expressions (expression (p ∷ []) e ∷ []) ∷ []
method_named_seen at name_at (Some x) None e = wrong at
method_named_seen at name_at None parameter e = wrong at

-- `(define-present-method NAME (PARAMETER) BODY)`, or the same of `define-accept-method`
abbrev pub method_seen : Row
method_seen at h (n ∷ ps ∷ e ∷ []) = method_named_seen at (offset n) (name_in n) (name_alone (parts_of ps)) e
method_seen at h parts = wrong at

-- `(define-function NAME (PARAMETER ...) BODY)`: the body sees the parameters
abbrev pub function_seen : Row
function_seen at h (n ∷ ps ∷ e ∷ []) =
    if is_some (name_in n) && is_name_list ps then expressions (expression (variables_in ps) e ∷ []) ∷ [] else wrong at
function_seen at h parts = wrong at

-- `(define-display NAME (PARAMETER ...) FORM ...)`: the body sees the parameters
abbrev pub display_seen : Row
display_seen at h (n ∷ ps ∷ body) = if is_some (name_in n) && is_name_list ps then shapes (forms_seen (variables_in ps) body) ∷ [] else wrong at
display_seen at h parts = wrong at

-- what is not built yet
abbrev pub planned_seen : Row
planned_seen at h parts = planned h ∷ []

-- the rows by their words
abbrev pub rows : Signatures → List (List ℕ × Row)
rows w =
    (codes "define-record", record_seen)
    ∷ (codes "define-presentation-type", λ at h parts. user_type_seen w at parts)
    ∷ (codes "define-host-type", host_type_seen)
    ∷ (codes "define-present-method", method_seen)
    ∷ (codes "define-accept-method", method_seen)
    ∷ (codes "define-function", function_seen)
    ∷ (codes "define-display", display_seen)
    ∷ (codes "define-command-table", λ at h parts. command_table_seen at parts)
    ∷ (codes "define-command", λ at h parts. command_seen w at parts)
    ∷ (codes "define-presentation-translator", λ at h parts. translator_seen w Object at parts)
    ∷ (codes "define-presentation-to-command-translator", λ at h parts. translator_seen w Command at parts)
    ∷ (codes "define-dialog", λ at h parts. dialog_seen w at parts)
    ∷ (codes "define-application-frame", λ at h parts. frame_seen w at parts)
    ∷ (codes "define-drag-and-drop-translator", planned_seen)
    ∷ []

-- one of the rows: no other word heads a declaration
abbrev pub row_seen : Option Row → Row
row_seen (Some row) at h parts = row at h parts
row_seen None at h parts = refused 5 h ∷ []

-- a declaration begins with a symbol
abbrev pub listed_seen : Signatures → ℕ → List Datum → List Part
listed_seen w at (word x h ∷ parts) = row_seen (named x (rows w)) at h parts
listed_seen w at [] = wrong at
listed_seen w at (number z h ∷ parts) = wrong at
listed_seen w at (literal s h ∷ parts) = wrong at
listed_seen w at (quoted s h name_at ∷ parts) = wrong at
listed_seen w at (stray h ∷ parts) = wrong at
listed_seen w at (list es h ∷ parts) = wrong at

-- a declaration is a list; an atom has no parts
abbrev pub declaration_seen : Signatures → Datum → List Part
declaration_seen w d = listed_seen w (offset d) (parts_of d)
