-- The kinds of arguments, and which of them a standard type takes.
use Rattle.std.specs.Prelude.{Bool, true, false, Option, Some, None}
use Rattle.cl_value.specs.Data.{Data, int, bool, text, symbol, null, list, rec}
use Rattle.cl_syntax.specs.TypeSpecTree.{TypeArgTree, Constant, Any, Param, Spec, Names}
use Rattle.cl_syntax.specs.declared.type_names.StandardType.{StandardType}
use Rattle.cl_syntax.specs.declared.type_names.StandardType.TheVariants as standard
use Rattle.cl_arguments.specs.declared.kinds.ArgumentKind.{ArgumentKind}
use Rattle.cl_arguments.specs.declared.kinds.ArgumentKind.TheVariants as kind

-- the kind of a constant: a number or another constant
abbrev pub kind_of_constant : Data → ArgumentKind
kind_of_constant (int z) = kind.Number
kind_of_constant (bool b) = kind.Constant
kind_of_constant (text s) = kind.Constant
kind_of_constant (symbol s) = kind.Constant
kind_of_constant null = kind.Constant
kind_of_constant (list ds) = kind.Constant
kind_of_constant (rec x ds) = kind.Constant

-- the kind of an argument; None for a parameter and for what a type is made of
abbrev pub kind_of : TypeArgTree → Option ArgumentKind
kind_of (Constant d) = Some (kind_of_constant d)
kind_of Any = Some kind.Any
kind_of (Param x) = None
kind_of (Spec s) = None
kind_of (Names xs) = None

-- what a bound of an integer may be: a number or `*`
abbrev pub is_bound : ArgumentKind → Bool
is_bound kind.Number = true
is_bound kind.Any = true
is_bound kind.Constant = false

-- what the length of a string may be: a number
abbrev pub is_length : ArgumentKind → Bool
is_length kind.Number = true
is_length kind.Any = false
is_length kind.Constant = false

-- what a member may be: a number or another constant
abbrev pub is_constant : ArgumentKind → Bool
is_constant kind.Number = true
is_constant kind.Any = false
is_constant kind.Constant = true

-- whether a standard type takes an argument of this kind; in a text that comes so far, no constant is written behind those that take all
abbrev pub takes : StandardType → ArgumentKind → Bool
takes standard.T k = true
takes standard.Nil k = true
takes standard.Boolean k = true
takes standard.Integer k = is_bound k
takes standard.String k = is_length k
takes standard.Symbol k = true
takes standard.Member k = is_constant k
takes standard.Subset k = is_constant k
takes standard.Sequence k = true
takes standard.Or k = true
takes standard.And k = true
takes standard.NullOrType k = true
takes standard.TokenOrType k = true
takes standard.BlankArea k = true
takes standard.Command k = true
takes standard.DialogChoice k = true
