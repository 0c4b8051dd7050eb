-- What stands behind the names of types in a specifier.
use Rattle.std.specs.Prelude.{ℕ, ◌+◌, ◌==◌, Bool, false, not, if◌then◌else◌, List, [], ◌∷◌, ◌++◌, Option, Some, None}
use Rattle.std.specs.Cmp.Lexicographic.{pointwise}
use Rattle.cl_syntax.specs.StandardTypes.{standard_named}
use Rattle.cl_syntax.specs.TypeSpecTree.{TypeSpecTree, specifier, name_of, TypeArgTree, Constant, Any, Param, Spec, Names, TypeArgTrees, none, argument}
use Rattle.cl_syntax.specs.declared.type_names.StandardType.{StandardType}
use Rattle.cl_arguments.specs.Kinds.{kind_of, takes}
use Rattle.cl_arguments.specs.declared.kinds.ArgumentKind.{ArgumentKind}
use Rattle.cl_arguments.specs.declared.probes.Put.{Put}
use Rattle.cl_arguments.specs.declared.probes.Probe.{Probe}

-- a standard type that does not take an argument, where both are there
abbrev pub refuses : Option StandardType → Option Put → Bool
refuses None put = false
refuses (Some t) None = false
refuses (Some t) (Some p) = not (takes t p.kind)

-- an argument behind the name of a standard type that does not take it
abbrev pub is_wrong : Probe → Bool
is_wrong q = refuses (standard_named q.name) q.put

-- the type of a name itself
abbrev pub itself : List ℕ → Probe
itself x = record { name = x; put = None }

-- an argument behind a name, where it has a kind
abbrev pub put_at : List ℕ → ℕ → Option ArgumentKind → List Probe
put_at x i None = []
put_at x i (Some k) = record { name = x; put = Some (record { place = i; kind = k }) } ∷ []

-- those of the arguments behind a name that have a kind, from a place on
abbrev pub puts_from : (TypeArgTree → Option ArgumentKind) → List ℕ → ℕ → TypeArgTrees → List Probe
puts_from kind x i none = []
puts_from kind x i (argument a ts) = put_at x i (kind a) ++ puts_from kind x (i + 1) ts

-- those of the arguments of a specifier that have a kind, at their places from 0
abbrev pub puts_in : (TypeArgTree → Option ArgumentKind) → TypeSpecTree → List Probe
puts_in kind (specifier x ts o) = puts_from kind x 0 ts

-- the type of a specifier itself, and its arguments that are constants
abbrev pub own_probes : TypeSpecTree → List Probe
own_probes s = itself (name_of s) ∷ puts_in kind_of s

-- an argument that is this parameter
abbrev pub is_parameter : List ℕ → TypeArgTree → Bool
is_parameter p (Constant d) = false
is_parameter p Any = false
is_parameter p (Param x) = pointwise ◌==◌ p x
is_parameter p (Spec s) = false
is_parameter p (Names xs) = false

-- the kind of what stands for a parameter; None for every other argument
abbrev pub kind_for : List ℕ → ArgumentKind → TypeArgTree → Option ArgumentKind
kind_for p k a = if is_parameter p a then Some k else None

-- where an argument of this kind comes to stand in a specifier, if it stands for a parameter
abbrev pub stands_at : List ℕ → ArgumentKind → TypeSpecTree → List Probe
stands_at p k s = puts_in (kind_for p k) s

-- what is found in a specifier itself, and then in those in its arguments, deep
abbrev mutual
  pub in_parts : (TypeSpecTree → List Probe) → TypeSpecTree → List Probe
  in_parts found (specifier x ts o) = found (specifier x ts o) ++ in_parts_all found ts

  -- what is found in the specifiers among arguments, deep
  pub in_parts_all : (TypeSpecTree → List Probe) → TypeArgTrees → List Probe
  in_parts_all found none = []
  in_parts_all found (argument a ts) = in_parts_arg found a ++ in_parts_all found ts

  -- what is found in an argument that is a specifier, deep
  pub in_parts_arg : (TypeSpecTree → List Probe) → TypeArgTree → List Probe
  in_parts_arg found (Constant d) = []
  in_parts_arg found Any = []
  in_parts_arg found (Param x) = []
  in_parts_arg found (Spec s) = in_parts found s
  in_parts_arg found (Names xs) = []
