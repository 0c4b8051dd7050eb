-- The words that head expressions: the operators with their counts, and the fixed heads, which head no call.
use Rattle.std.specs.Prelude.{◌≡◌, ℕ, true, false, List, [], ◌∷◌, Option, Some, None, codes}
use Rattle.cl_forms.specs.Words.{is_name}
use Rattle.cl_syntax.specs.declared.operators.Operator.{Operator}
use Rattle.cl_syntax.specs.declared.operators.Operator.TheVariants as operator
use Rattle.cl_syntax.specs.declared.operators.Arithmetic.TheVariants.{Add, Subtract, Multiply, Least, Greatest, Quotient, Remainder}
use Rattle.cl_syntax.specs.declared.operators.Comparison.TheVariants.{Less, AtMost, Greater, AtLeast}
use Rattle.cl_syntax.specs.declared.operators.ListOperator.TheVariants as list
use Rattle.cl_syntax.specs.declared.operators.TextOperator.TheVariants as text
use Rattle.cl_words.specs.Signatures.{function_in}
use Rattle.cl_words.specs.declared.signatures.Signatures.{Signatures}
use Rattle.cl_expressions.specs.Scopes.{Names, among}

-- an operator, and how many parts it takes; None where it takes any number
abbrev pub Counted : Type 0
Counted = Operator × Option ℕ

-- the operators by their words
abbrev pub operators : List (List ℕ × Counted)
operators =
    (codes "+", (operator.Arithmetic Add, Some 2))
    ∷ (codes "-", (operator.Arithmetic Subtract, Some 2))
    ∷ (codes "*", (operator.Arithmetic Multiply, Some 2))
    ∷ (codes "min", (operator.Arithmetic Least, Some 2))
    ∷ (codes "max", (operator.Arithmetic Greatest, Some 2))
    ∷ (codes "div", (operator.Arithmetic Quotient, Some 2))
    ∷ (codes "mod", (operator.Arithmetic Remainder, Some 2))
    ∷ (codes "<", (operator.Comparison Less, Some 2))
    ∷ (codes "<=", (operator.Comparison AtMost, Some 2))
    ∷ (codes ">", (operator.Comparison Greater, Some 2))
    ∷ (codes ">=", (operator.Comparison AtLeast, Some 2))
    ∷ (codes "list", (operator.List list.List, None))
    ∷ (codes "nth", (operator.List list.Nth, Some 2))
    ∷ (codes "rest", (operator.List list.Rest, Some 1))
    ∷ (codes "cons", (operator.List list.Cons, Some 2))
    ∷ (codes "append", (operator.List list.Append, Some 2))
    ∷ (codes "contains", (operator.List list.Contains, Some 2))
    ∷ (codes "range", (operator.List list.Range, Some 2))
    ∷ (codes "concat", (operator.Text text.Concat, Some 2))
    ∷ (codes "subtext", (operator.Text text.Subtext, Some 3))
    ∷ (codes "pad", (operator.Text text.Pad, Some 2))
    ∷ (codes "text", (operator.Text text.Written, Some 1))
    ∷ (codes "not", (operator.Not, Some 1))
    ∷ (codes "=", (operator.Equal, Some 2))
    ∷ (codes "length", (operator.Length, Some 1))
    ∷ (codes "is-null", (operator.IsNull, Some 1))
    ∷ []

-- the fixed heads of expressions, display forms and statements
abbrev pub fixed_heads : Names
fixed_heads =
    codes "slot" ∷ codes "if" ∷ codes "let" ∷ codes "and" ∷ codes "or" ∷ codes "make" ∷ codes "get" ∷ codes "with"
    ∷ codes "map" ∷ codes "filter" ∷ codes "fold"
    ∷ codes "+" ∷ codes "-" ∷ codes "*" ∷ codes "min" ∷ codes "max" ∷ codes "div" ∷ codes "mod"
    ∷ codes "<" ∷ codes "<=" ∷ codes ">" ∷ codes ">=" ∷ codes "=" ∷ codes "not"
    ∷ codes "list" ∷ codes "nth" ∷ codes "rest" ∷ codes "cons" ∷ codes "append" ∷ codes "contains" ∷ codes "range"
    ∷ codes "concat" ∷ codes "subtext" ∷ codes "pad" ∷ codes "text" ∷ codes "length" ∷ codes "is-null"
    ∷ codes "when" ∷ codes "dolist" ∷ codes "progn" ∷ codes "write-text" ∷ codes "newline"
    ∷ codes "draw-point" ∷ codes "draw-hline" ∷ codes "draw-vline" ∷ codes "draw-box" ∷ codes "fill-box"
    ∷ codes "indenting-output" ∷ codes "with-ink" ∷ codes "with-room-for-graphics"
    ∷ codes "present" ∷ codes "with-output-as-presentation" ∷ codes "updating-output"
    ∷ codes "formatting-table" ∷ codes "formatting-row" ∷ codes "formatting-cell"
    ∷ codes "setf" ∷ codes "reply" ∷ codes "enable" ∷ codes "disable" ∷ codes "open-dialog"
    ∷ []

-- a word that may head a call
pub record IsCallable (x : List ℕ) : Type 0 where
  pub is_a_name : is_name x ≡ true
  pub is_not_fixed : among x fixed_heads ≡ false

-- the functions that are declared have names
abbrev pub CallsNames : Signatures → Type 0
CallsNames w = (x : List ℕ) (count : Option ℕ) → function_in w x ≡ Some count → is_name x ≡ true
