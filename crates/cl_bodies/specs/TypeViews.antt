-- What the program reads of a type, as the definitions say it.
use Rattle.std.specs.Prelude.{ℕ, List, [], Vec, map}
use Rattle.std.specs.declared.alloc.Global.{Global}
use Rattle.cl_syntax.specs.TypeSpec.{arg_tree_of}
use Rattle.cl_syntax.specs.TypeSpecTree.{TypeArgTree, TypeSpecTree}
use Rattle.cl_syntax.specs.declared.type_specs.TypeArg.{TypeArg}
use Rattle.cl_forms.specs.Datum.{Datum, number, literal, word, quoted, stray, list}
use Rattle.cl_expressions.specs.Load.{Load, refuse}
use Rattle.cl_expressions.specs.Scopes.{Names}
use Rattle.cl_words.specs.declared.signatures.Signatures.{Signatures}
use Rattle.cl_bodies.specs.Specifiers.{parse_headed, parse_listed}

-- what the arguments of the program are
abbrev pub args_of : Vec TypeArg Global → List TypeArgTree
args_of v = map arg_tree_of v.items

-- a type by itself, before it is noted
abbrev pub parse_specifier : Signatures → Names → Datum → Load TypeSpecTree
parse_specifier w ps (number z at) = refuse 6 at
parse_specifier w ps (literal s at) = refuse 6 at
parse_specifier w ps (word x at) = parse_headed w ps at (word x at) []
parse_specifier w ps (quoted x at name_at) = refuse 6 at
parse_specifier w ps (stray at) = refuse 6 at
parse_specifier w ps (list ds at) = parse_listed w ps at ds
