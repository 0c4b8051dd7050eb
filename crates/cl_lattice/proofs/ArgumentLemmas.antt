-- What is given for a parameter, found among the arguments.
use Rattle.std.proofs.Common.{◌≡◌, ℕ, Bool, true, false, List, [], ◌∷◌, refl}
use Rattle.std.specs.Prelude.{Option, Some, None, ◌==◌, ◌||◌, if◌then◌else◌}
use Rattle.std.specs.Cmp.Lexicographic.{pointwise}
use Rattle.cl_value.specs.Data.{Data}
use Rattle.cl_syntax.specs.TypeSpecTree.{TypeArgTree, TypeArgTrees, none, argument}
use Rattle.cl_table.specs.Names.{named}
use Rattle.cl_lattice.specs.Arguments.{Given, given, known, value_of, values_of, arg_given, constant_before}
use Rattle.cl_lattice.specs.Members.{is_among, is_given}

-- the value of an argument that is there
abbrev pub value_in : Given → Option TypeArgTree → Option Data
value_in g None = None
value_in g (Some a) = value_of g a

by_test : (g : Given) (b : Bool) (a : TypeArgTree) (v : Option Data) (more : Option (Option Data)) (other : Option TypeArgTree) → known more ≡ value_in g other
    → v ≡ value_of g a → known (if b then Some v else more) ≡ value_in g (if b then Some a else other)
by_test g true a v more other h e = e
by_test g false a v more other h e = h

pub found_value : (g : Given) (x : List ℕ) (ys : List (List ℕ)) (ts : TypeArgTrees) → known (named x (given ys (values_of g ts))) ≡ value_in g (arg_given x ys ts)
found_value g x [] ts = refl
found_value g x (y ∷ ys) none = refl
found_value g x (y ∷ ys) (argument a ts) = by_test g (pointwise ◌==◌ x y) a (value_of g a) _ _ (found_value g x ys ts) refl

-- one of the constants is the first, or one of the others
pub before : (d : Data) (v : Option Data) (cs : List Data) → is_among d (constant_before v cs) ≡ (is_given d v || is_among d cs)
before d None cs = refl
before d (Some c) cs = refl
