-- Which fields are taken of the parts of `(get E FIELD)`.
use Rattle.std.proofs.Common.{◌≡◌, ◌≢◌, ℕ, List, [], ◌∷◌, length, refl, arith}
use Rattle.cl_syntax.specs.ExprTree.{ExprTree, expr_trees_of}
use Rattle.cl_syntax.specs.declared.operators.Operator.TheVariants as operator
use Rattle.cl_syntax.specs.declared.operators.RecordOperator.TheVariants as fields
use Rattle.cl_syntax.specs.Paths.{Along}
use Rattle.cl_eval.specs.ReadPaths.{operand_fields}

pub taken_of_one : (f : List ℕ) (ts : List ExprTree) (along : Along) → length ts ≡ 1 → operand_fields (operator.Record (fields.Get f)) (expr_trees_of ts) along ≡ f ∷ along
taken_of_one f [] along e = absurd (omega (arith, e))
taken_of_one f (t ∷ []) along e = refl
taken_of_one f (t ∷ u ∷ ts) along e = absurd (omega (arith, e))

pub taken_of_others : (f : List ℕ) (ts : List ExprTree) (along : Along) → length ts ≢ 1 → operand_fields (operator.Record (fields.Get f)) (expr_trees_of ts) along ≡ []
taken_of_others f [] along n = refl
taken_of_others f (t ∷ []) along n = absurd (n refl)
taken_of_others f (t ∷ u ∷ ts) along n = refl
