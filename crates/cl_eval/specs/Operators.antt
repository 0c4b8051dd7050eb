-- The operators, over the values of their parts: a value, or the kind of a trap.
-- Traps: 1 a wrong kind, or a wrong count of parts; 2 a number past 64 bits; 3 a zero divisor; 4 no such place; 7 a value past its limits.
use Rattle.std.specs.Prelude.{ℕ, zero, suc, ◌+◌, ◌-◌, ◌^◌, ℤ, pos, negsuc, neg_ℤ, ◌+ℤ◌, ◌-ℤ◌, ◌*ℤ◌, int_lt, int_le, Bool, true, false, not, ◌&&◌}
use Rattle.std.specs.Prelude.{nat_lt, nat_le, ◌==◌, if◌then◌else◌, List, [], ◌∷◌, ◌++◌, length, replicate, slice_range, Option, Some, None, Result}
use Rattle.std.specs.Prelude.{Ok, Err}
use Rattle.std.specs.Fmt.{signed_decimal}
use Rattle.std.specs.Int.{int_min, int_max, int_div_euclid}
use Rattle.std.specs.declared.cmp.Ordering.{Ordering}
use Rattle.std.specs.declared.cmp.Ordering.TheVariants.{Less, Equal, Greater}
use Rattle.cl_eval.specs.declared.operators.TheConstants.{MAX_VALUE_DEPTH, MAX_VALUE_SIZE}
use Rattle.cl_value.specs.Data.{Data, int, bool, text, symbol, null, list, rec, Items, none, item, items_of, size_of, depth_of, order_of}
use Rattle.cl_table.specs.Names.{place_of}
use Rattle.cl_application.specs.App.{record_named}
use Rattle.cl_application.specs.declared.applications.App.{App}
use Rattle.cl_syntax.specs.declared.type_decls.RecordDecl.{RecordDecl}
use Rattle.cl_syntax.specs.declared.operators.Arithmetic.{Arithmetic}
use Rattle.cl_syntax.specs.declared.operators.Arithmetic.TheVariants as arithmetic
use Rattle.cl_syntax.specs.declared.operators.Comparison.{Comparison}
use Rattle.cl_syntax.specs.declared.operators.Comparison.TheVariants as comparison
use Rattle.cl_syntax.specs.declared.operators.ListOperator.{ListOperator}
use Rattle.cl_syntax.specs.declared.operators.ListOperator.TheVariants as row
use Rattle.cl_syntax.specs.declared.operators.TextOperator.{TextOperator}
use Rattle.cl_syntax.specs.declared.operators.TextOperator.TheVariants as written
use Rattle.cl_syntax.specs.declared.operators.RecordOperator.{RecordOperator}
use Rattle.cl_syntax.specs.declared.operators.RecordOperator.TheVariants as fields
use Rattle.cl_syntax.specs.declared.operators.Operator.{Operator}
use Rattle.cl_syntax.specs.declared.operators.Operator.TheVariants as operator

-- a value, or the kind of a trap
abbrev pub Answer : Type 0
Answer = Result Data ℕ

-- a value that is no larger and no deeper than the greatest, of size 65,536 and depth 64
abbrev pub within_limits : Data → Answer
within_limits d = if nat_le (size_of d) MAX_VALUE_SIZE && nat_le (depth_of d) MAX_VALUE_DEPTH then Ok d else Err 7

-- the parts of a list or a record
abbrev pub list_of : Items → List Data
list_of none = []
list_of (item d ds) = d ∷ list_of ds

-- the value that is there, else the trap of this kind
abbrev pub or_trap : {A : Type 0} → ℕ → Option A → Result A ℕ
or_trap kind None = Err kind
or_trap kind (Some x) = Ok x

-- a Bool, where a test is asked for
abbrev pub truth : Data → Result Bool ℕ
truth (bool b) = Ok b
truth d = Err 1

-- the parts of a list, where one is asked for
abbrev pub elements : Data → Result (List Data) ℕ
elements (list ds) = Ok (list_of ds)
elements d = Err 1

-- ---- numbers

-- the number is one of 64 bits with a sign
abbrev pub fits_int : ℤ → Bool
fits_int (pos n) = nat_lt n (2 ^ 63)
fits_int (negsuc n) = nat_lt n (2 ^ 63)

-- a number, where it is one of 64 bits
abbrev pub number : ℤ → Answer
number z = if fits_int z then Ok (int z) else Err 2

-- the quotient rounded down, and what is left of it; the divisor is not 0
abbrev pub quotient : ℤ → ℤ → ℤ
quotient x (pos n) = int_div_euclid x (pos n)
quotient x (negsuc n) = int_div_euclid (neg_ℤ x) (pos (suc n))

-- what is left of a division that is rounded down
abbrev pub remainder : ℤ → ℤ → ℤ
remainder x y = x -ℤ y *ℤ quotient x y

-- the number is 0
abbrev pub is_zero : ℤ → Bool
is_zero (pos n) = n == 0
is_zero (negsuc n) = false

-- what each arithmetic makes of two numbers
abbrev pub calculate : Arithmetic → ℤ → ℤ → Answer
calculate arithmetic.Add x y = number (x +ℤ y)
calculate arithmetic.Subtract x y = number (x -ℤ y)
calculate arithmetic.Multiply x y = number (x *ℤ y)
calculate arithmetic.Least x y = Ok (int (int_min x y))
calculate arithmetic.Greatest x y = Ok (int (int_max x y))
calculate arithmetic.Quotient x y = if is_zero y then Err 3 else number (quotient x y)
calculate arithmetic.Remainder x y = if is_zero y then Err 3 else Ok (int (remainder x y))

-- whether a comparison holds of two numbers
abbrev pub compare_numbers : Comparison → ℤ → ℤ → Bool
compare_numbers comparison.Less x y = int_lt x y
compare_numbers comparison.AtMost x y = int_le x y
compare_numbers comparison.Greater x y = int_lt y x
compare_numbers comparison.AtLeast x y = int_le y x

-- ---- lists

-- an order calls two values equal
abbrev pub is_equal : Ordering → Bool
is_equal Equal = true
is_equal Less = false
is_equal Greater = false

-- two values are the same, by the defined order
abbrev pub same_value : Data → Data → Bool
same_value d e = is_equal (order_of d e)

-- one of the values is this one
abbrev pub has_part : Data → List Data → Bool
has_part d [] = false
has_part d (e ∷ es) = if same_value e d then true else has_part d es

-- the value at a place, counted from 0
abbrev pub part_at : {A : Type 0} → ℕ → List A → Option A
part_at n [] = None
part_at zero (x ∷ xs) = Some x
part_at (suc n) (x ∷ xs) = part_at n xs

-- the part of a list at a number
abbrev pub nth_of : List Data → ℤ → Answer
nth_of ds (pos n) = or_trap 4 (part_at n ds)
nth_of ds (negsuc n) = Err 4

-- a list without its first part
abbrev pub rest_of : List Data → Answer
rest_of [] = Err 4
rest_of (d ∷ ds) = Ok (list (items_of ds))

-- so many numbers, from the first
abbrev pub numbers_from : ℤ → ℕ → List Data
numbers_from x zero = []
numbers_from x (suc n) = int x ∷ numbers_from (x +ℤ pos 1) n

-- how many numbers there are from one to another, both included
abbrev pub count_to : ℤ → ℕ
count_to (pos n) = n + 1
count_to (negsuc n) = 0

-- the list of the numbers from one to another
abbrev pub range_of : ℤ → ℤ → Answer
range_of x y = within_limits (list (items_of (numbers_from x (count_to (y -ℤ x)))))

-- what each operator of lists makes of the values of its parts
abbrev pub list_answer : ListOperator → List Data → Answer
list_answer row.List ds = within_limits (list (items_of ds))
list_answer row.Nth (list ds ∷ int z ∷ []) = nth_of (list_of ds) z
list_answer row.Rest (list ds ∷ []) = rest_of (list_of ds)
list_answer row.Cons (d ∷ list ds ∷ []) = within_limits (list (item d ds))
list_answer row.Append (list ds ∷ list es ∷ []) = within_limits (list (items_of (list_of ds ++ list_of es)))
list_answer row.Contains (list ds ∷ d ∷ []) = Ok (bool (has_part d (list_of ds)))
list_answer row.Range (int x ∷ int y ∷ []) = range_of x y
list_answer o ds = Err 1

-- ---- texts

-- the bytes of a text between two places
abbrev pub subtext_of : List ℕ → ℤ → ℤ → Answer
subtext_of s (pos from) (pos to) = if nat_le from to && nat_le to (length s) then Ok (text (slice_range s from to)) else Err 4
subtext_of s from to = Err 4

-- followed by spaces up to that length
abbrev pub pad_to : List ℕ → ℤ → List ℕ
pad_to s (pos n) = s ++ replicate (n - length s) 32
pad_to s (negsuc n) = s

-- a number in decimal, a symbol's name, a text itself
abbrev pub text_of : Data → Answer
text_of (int z) = Ok (text (signed_decimal z))
text_of (symbol s) = Ok (text s)
text_of (text s) = Ok (text s)
text_of d = Err 1

-- what each operator of texts makes of the values of its parts
abbrev pub text_answer : TextOperator → List Data → Answer
text_answer written.Concat (text s ∷ text t ∷ []) = within_limits (text (s ++ t))
text_answer written.Subtext (text s ∷ int from ∷ int to ∷ []) = subtext_of s from to
text_answer written.Pad (text s ∷ int n ∷ []) = within_limits (text (pad_to s n))
text_answer written.Written (d ∷ []) = text_of d
text_answer o ds = Err 1

-- ---- records

-- the place of a field among those of a record that is declared
abbrev pub field_place : List ℕ → Option RecordDecl → Option ℕ
field_place f None = None
field_place f (Some r) = place_of f r.fields

-- a record of these fields, where so many are declared
abbrev pub make_record : List ℕ → Option RecordDecl → List Data → Answer
make_record r None ds = Err 1
make_record r (Some decl) ds = if length ds == length decl.fields then within_limits (rec r (items_of ds)) else Err 1

-- the value of a field at its place
abbrev pub value_at : Option ℕ → List Data → Answer
value_at None ds = Err 1
value_at (Some n) ds = or_trap 1 (part_at n ds)

-- the values with another one at a place
abbrev pub with_part : {A : Type 0} → ℕ → A → List A → List A
with_part n x [] = []
with_part zero x (y ∷ ys) = x ∷ ys
with_part (suc n) x (y ∷ ys) = y ∷ with_part n x ys

-- a record with another value in a field
abbrev pub changed_at : List ℕ → Option ℕ → Data → List Data → Answer
changed_at r None d ds = Err 1
changed_at r (Some n) d ds = if nat_lt n (length ds) then within_limits (rec r (items_of (with_part n d ds))) else Err 1

-- what each operator of records makes of the values of its parts
abbrev pub record_answer : App → RecordOperator → List Data → Answer
record_answer app (fields.Make r) ds = make_record r (record_named r app) ds
record_answer app (fields.Get f) (rec r ds ∷ []) = value_at (field_place f (record_named r app)) (list_of ds)
record_answer app (fields.With f) (rec r ds ∷ d ∷ []) = changed_at r (field_place f (record_named r app)) d (list_of ds)
record_answer app o ds = Err 1

-- ---- all

-- the value is null
abbrev pub is_null : Data → Bool
is_null null = true
is_null d = false

-- arithmetic of two numbers; all else is of a wrong kind
abbrev pub arithmetic_of : Arithmetic → List Data → Answer
arithmetic_of o (int x ∷ int y ∷ []) = calculate o x y
arithmetic_of o ds = Err 1

-- a comparison of two numbers; all else is of a wrong kind
abbrev pub comparison_of : Comparison → List Data → Answer
comparison_of o (int x ∷ int y ∷ []) = Ok (bool (compare_numbers o x y))
comparison_of o ds = Err 1

-- the other Bool
abbrev pub not_of : List Data → Answer
not_of (bool b ∷ []) = Ok (bool (not b))
not_of ds = Err 1

-- whether two values are the same
abbrev pub equal_of : List Data → Answer
equal_of (d ∷ e ∷ []) = Ok (bool (same_value d e))
equal_of ds = Err 1

-- how many bytes a text has, or how many parts a list
abbrev pub length_of : List Data → Answer
length_of (list ds ∷ []) = number (pos (length (list_of ds)))
length_of (text s ∷ []) = number (pos (length s))
length_of ds = Err 1

-- whether a value is null
abbrev pub is_null_of : List Data → Answer
is_null_of (d ∷ []) = Ok (bool (is_null d))
is_null_of ds = Err 1

-- what an operator makes of the values of its parts
abbrev pub operate : App → Operator → List Data → Answer
operate app (operator.Arithmetic o) ds = arithmetic_of o ds
operate app (operator.Comparison o) ds = comparison_of o ds
operate app (operator.List o) ds = list_answer o ds
operate app (operator.Text o) ds = text_answer o ds
operate app (operator.Record o) ds = record_answer app o ds
operate app operator.Not ds = not_of ds
operate app operator.Equal ds = equal_of ds
operate app operator.Length ds = length_of ds
operate app operator.IsNull ds = is_null_of ds
