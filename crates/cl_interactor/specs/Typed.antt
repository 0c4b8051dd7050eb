-- A line as a person sees it.
use Rattle.std.specs.Prelude.{ℕ, List, [], ◌∷◌, ◌++◌}
use Rattle.cl_line.specs.declared.elements.Element.{Element}
use Rattle.cl_line.specs.declared.elements.Element.TheVariants.{Char, Object}
use Rattle.cl_print.specs.Printed.{print_value}
use Rattle.cl_value.specs.Value.{data_of}

-- a character as it is, and an object as it is printed
abbrev pub shown_element : Element → List ℕ
shown_element (Char byte) = byte ∷ []
shown_element (Object value) = print_value (data_of value)

-- what was typed so far
abbrev pub typed_so_far : List Element → List ℕ
typed_so_far [] = []
typed_so_far (e ∷ es) = shown_element e ++ typed_so_far es
