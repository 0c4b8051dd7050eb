-- What falls where texts are read.
use Rattle.std.specs.Prelude.{ℕ, ◌+◌, List, Option, Some, None, length}
use Rattle.cl_lattice.specs.Expanded.{weight}
use Rattle.cl_lattice.specs.declared.arguments.Bound.{Bound}
use Rattle.cl_ptext.specs.Presenting.{expanded}
use Rattle.cl_ptext.specs.declared.books.TypeBook.{TypeBook}
use Rattle.cl_ptext.specs.declared.reading.Element.{Element}
use Rattle.cl_ptext.specs.declared.reading.Element.TheVariants as element

-- the weight of what a part is read as
abbrev pub element_weight : {H : Type 0} → TypeBook H → Bound → Element → ℕ
element_weight k bound (element.Constant args) = 0
element_weight k bound (element.Member s) = weight (expanded k bound s.now)

-- the length of what is left of a text, and one more where a piece is
abbrev pub left_length : Option (List ℕ) → ℕ
left_length None = 0
left_length (Some bs) = length bs + 1
