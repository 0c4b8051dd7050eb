-- The methods of types, as forms declare them.
use Rattle.std.specs.Prelude.{ℕ, Bool, true, false, List, [], ◌∷◌, Option, Some, None}
use Rattle.cl_forms.specs.Datum.{Datum, parts_of, offset}
use Rattle.cl_forms.specs.Naming.{name_in}
use Rattle.cl_words.specs.Signatures.{type_in}
use Rattle.cl_words.specs.declared.signatures.Signatures.{Signatures}
use Rattle.cl_words.specs.declared.signatures.TypeHead.{TypeHead}
use Rattle.cl_words.specs.declared.signatures.TypeKind.TheVariants as type
use Rattle.cl_expressions.specs.Load.{Load, ◌>>=◌, give, refuse, noted}
use Rattle.cl_expressions.specs.Expressions.{parse_expression}
use Rattle.cl_expressions.specs.Scopes.{in_sight}
use Rattle.cl_application.specs.declared.declarations.MethodDecl.{MethodDecl}
use Rattle.cl_declare.specs.TypeShapes.{name_alone}

-- records and user types may have methods
abbrev pub may_have_methods : Option TypeHead → Bool
may_have_methods None = false
may_have_methods (Some t) = elim t.kind [ type.Record ↦ true | type.Host ↦ false | type.User ↦ true ]

-- the name of the type stands at this offset; it is noted where that may have no methods
abbrev pub parse_named_method : Signatures → ℕ → ℕ → Option (List ℕ) → Option (List ℕ) → Datum → Load MethodDecl
parse_named_method w at name_at (Some x) (Some p) e =
    noted (may_have_methods (type_in w x)) name_at >>= λ u. parse_expression w e (in_sight (p ∷ []) []) >>= λ t.
    give (record { name = x; parameter = p; body = t; at = at })
parse_named_method w at name_at (Some x) None e = refuse 6 at
parse_named_method w at name_at None parameter e = refuse 6 at

-- `(define-present-method NAME (PARAMETER) BODY)`, or the same of `define-accept-method`
abbrev pub parse_method : Signatures → ℕ → List Datum → Load MethodDecl
parse_method w at (n ∷ ps ∷ e ∷ []) = parse_named_method w at (offset n) (name_in n) (name_alone (parts_of ps)) e
parse_method w at parts = refuse 6 at
