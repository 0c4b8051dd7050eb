-- Arguments of specifiers, with parameters put in.
use Rattle.std.specs.Prelude.{ℕ, ◌+◌, ℤ, List, [], ◌∷◌, Option, Some, None, map, ◌==◌, if◌then◌else◌}
use Rattle.std.specs.Cmp.Lexicographic.{pointwise}
use Rattle.cl_value.specs.Data.{Data, int, bool, text, symbol, null, list, rec}
use Rattle.cl_syntax.specs.TypeSpec.{arg_tree_of}
use Rattle.cl_syntax.specs.declared.type_specs.TypeArg.{TypeArg}
use Rattle.cl_lattice.specs.declared.arguments.Bound.{Bound}
use Rattle.cl_lattice.specs.declared.arguments.Bound.TheVariants as bound
use Rattle.cl_syntax.specs.TypeSpecTree.{arg_trees_of, TypeArgTree, Constant, Any, Param, Spec, Names, TypeArgTrees, none, argument}
use Rattle.cl_table.specs.Names.{named}

-- what is given for parameters; None stands for a written `*`
abbrev pub Given : Type 0
Given = List (List ℕ × Option Data)

-- parameters with what is given for them, as long as both last
abbrev pub given : List (List ℕ) → List (Option Data) → Given
given [] vs = []
given (x ∷ xs) [] = []
given (x ∷ xs) (v ∷ vs) = (x, v) ∷ given xs vs

-- what was found for a parameter; None for `*`, and where nothing was found
abbrev pub known : Option (Option Data) → Option Data
known None = None
known (Some v) = v

-- the constant that an argument is; None for `*`, and for what is no constant
abbrev pub value_of : Given → TypeArgTree → Option Data
value_of g (Constant d) = Some d
value_of g Any = None
value_of g (Param x) = known (named x g)
value_of g (Spec s) = None
value_of g (Names xs) = None

-- the constants that arguments are, one by one; None for each that is none
abbrev pub values_of : Given → TypeArgTrees → List (Option Data)
values_of g none = []
values_of g (argument a ts) = value_of g a ∷ values_of g ts

-- the constants among values
abbrev pub constant_before : Option Data → List Data → List Data
constant_before None ds = ds
constant_before (Some d) ds = d ∷ ds

-- the constants among values, in their order
abbrev pub constants : List (Option Data) → List Data
constants [] = []
constants (v ∷ vs) = constant_before v (constants vs)

-- the number that a value is; None where it is no number, or there is no value
abbrev pub number_in : Option Data → Option ℤ
number_in None = None
number_in (Some (int z)) = Some z
number_in (Some (bool b)) = None
number_in (Some (text s)) = None
number_in (Some (symbol s)) = None
number_in (Some null) = None
number_in (Some (list ds)) = None
number_in (Some (rec x ds)) = None

-- the number of the first value; None where it is no number, or there is no value
abbrev pub first_number : List (Option Data) → Option ℤ
first_number [] = None
first_number (v ∷ vs) = number_in v

-- the number of the second value; None where it is no number, or there is no such value
abbrev pub second_number : List (Option Data) → Option ℤ
second_number [] = None
second_number (v ∷ vs) = first_number vs

-- the tokens among arguments: those of the first argument that has any
abbrev pub tokens_before : TypeArgTree → List (List ℕ) → List (List ℕ)
tokens_before (Constant d) xs = xs
tokens_before Any xs = xs
tokens_before (Param x) xs = xs
tokens_before (Spec s) xs = xs
tokens_before (Names ts) xs = ts

-- the tokens of the first argument that has any; none where no argument has
abbrev pub tokens_in : TypeArgTrees → List (List ℕ)
tokens_in none = []
tokens_in (argument a ts) = tokens_before a (tokens_in ts)

-- ---- arguments of the program

-- arguments as their trees
abbrev pub trees_of : List TypeArg → TypeArgTrees
trees_of ts = arg_trees_of (map arg_tree_of ts)

-- the argument that is given for the first parameter of a name
abbrev pub arg_given : List ℕ → List (List ℕ) → TypeArgTrees → Option TypeArgTree
arg_given x [] ts = None
arg_given x (y ∷ ys) none = None
arg_given x (y ∷ ys) (argument a ts) = if pointwise ◌==◌ x y then Some a else arg_given x ys ts

-- what is given for the parameters of a declaration, where these in turn may be parameters of the declaration around
abbrev pub given_by : Bound → Given
given_by bound.Nothing = []
given_by (bound.Given' xs ts p outer) = given xs.now (values_of (given_by outer) (trees_of ts.now))

-- so many declarations one around another
abbrev pub layers : Bound → ℕ
layers bound.Nothing = 0
layers (bound.Given' xs ts p outer) = layers outer + 1
