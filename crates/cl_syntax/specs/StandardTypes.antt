-- The standard types by their names.
use Rattle.std.specs.Prelude.{ℕ, if◌then◌else◌, List, codes, Option, Some, None}
use Rattle.std.specs.Str.{bytes_eq}
use Rattle.cl_syntax.specs.declared.type_names.StandardType.{StandardType}
use Rattle.cl_syntax.specs.declared.type_names.StandardType.TheVariants as standard

-- those without parts or constants
abbrev pub plain_named : List ℕ → Option StandardType
plain_named name =
    if bytes_eq name (codes "t") then Some standard.T
    else (if bytes_eq name (codes "nil") then Some standard.Nil
    else (if bytes_eq name (codes "boolean") then Some standard.Boolean
    else (if bytes_eq name (codes "integer") then Some standard.Integer
    else (if bytes_eq name (codes "string") then Some standard.String
    else (if bytes_eq name (codes "symbol") then Some standard.Symbol
    else (if bytes_eq name (codes "blank-area") then Some standard.BlankArea
    else (if bytes_eq name (codes "command") then Some standard.Command
    else (if bytes_eq name (codes "dialog-choice") then Some standard.DialogChoice else None))))))))

-- those that are made of constants or of other types
abbrev pub built_named : List ℕ → Option StandardType
built_named name =
    if bytes_eq name (codes "member") then Some standard.Member
    else (if bytes_eq name (codes "subset") then Some standard.Subset
    else (if bytes_eq name (codes "sequence") then Some standard.Sequence
    else (if bytes_eq name (codes "or") then Some standard.Or
    else (if bytes_eq name (codes "and") then Some standard.And
    else (if bytes_eq name (codes "null-or-type") then Some standard.NullOrType
    else (if bytes_eq name (codes "token-or-type") then Some standard.TokenOrType else None))))))

-- the first of two types that is there
abbrev pub first_of : Option StandardType → Option StandardType → Option StandardType
first_of (Some t) other = Some t
first_of None other = other

-- the standard type of a name; None where it is none
abbrev pub standard_named : List ℕ → Option StandardType
standard_named name = first_of (plain_named name) (built_named name)
