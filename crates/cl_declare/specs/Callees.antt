-- Records, functions and displays, as forms declare them: what stands behind the head, with the offset of the form.
use Rattle.std.specs.Prelude.{ℕ, ◌&&◌, is_some, if◌then◌else◌, List, [], ◌∷◌}
use Rattle.cl_forms.specs.Datum.{Datum, parts_of, datums_of}
use Rattle.cl_forms.specs.Naming.{are_names, name_in, symbol_of}
use Rattle.cl_words.specs.declared.signatures.Signatures.{Signatures}
use Rattle.cl_expressions.specs.Load.{Load, ◌>>=◌, give, refuse}
use Rattle.cl_expressions.specs.Expressions.{parse_expression}
use Rattle.cl_bodies.specs.DisplayForms.{parse_shapes}
use Rattle.cl_syntax.specs.declared.type_decls.RecordDecl.{RecordDecl}
use Rattle.cl_application.specs.declared.declarations.FunctionDecl.{FunctionDecl}
use Rattle.cl_application.specs.declared.declarations.DisplayDecl.{DisplayDecl}
use Rattle.cl_declare.specs.Names.{names_of, is_name_list, variables_in}

-- `(define-record NAME FIELD FIELD ...)`
abbrev pub parse_record : ℕ → List Datum → Load RecordDecl
parse_record at [] = refuse 6 at
parse_record at (n ∷ []) = refuse 6 at
parse_record at (n ∷ f ∷ fs) =
    if are_names (n ∷ f ∷ fs) then give (record { name = symbol_of n; fields = names_of (f ∷ fs); at = at }) else refuse 6 at

-- `(define-function NAME (PARAMETER ...) BODY)`
abbrev pub parse_function : Signatures → ℕ → List Datum → Load FunctionDecl
parse_function w at (n ∷ ps ∷ e ∷ []) =
    if is_some (name_in n) && is_name_list ps
    then (parse_expression w e (variables_in ps) >>= λ t. give (record { name = symbol_of n; parameters = names_of (parts_of ps); body = t; at = at }))
    else refuse 6 at
parse_function w at parts = refuse 6 at

-- `(define-display NAME (PARAMETER ...) FORM ...)`
abbrev pub parse_display : Signatures → ℕ → List Datum → Load DisplayDecl
parse_display w at [] = refuse 6 at
parse_display w at (n ∷ []) = refuse 6 at
parse_display w at (n ∷ ps ∷ body) =
    if is_some (name_in n) && is_name_list ps
    then (parse_shapes w (datums_of body) (variables_in ps) >>= λ fs. give (record { name = symbol_of n; parameters = names_of (parts_of ps); body = fs; at = at }))
    else refuse 6 at
