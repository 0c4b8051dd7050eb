-- The plain form of values, as people read it.
use Rattle.std.specs.Prelude.{ℕ, true, false, List, codes}
use Rattle.std.specs.Fmt.{signed_decimal}
use Rattle.cl_value.specs.Data.{Data, bool, int, list, null, rec, symbol, text}
use Rattle.cl_print.specs.Printed.{print_value}

-- a number in decimal, a text as it is, a symbol's name, `Yes` or `No`, `None`, else the printed form
abbrev pub plain_of : Data → List ℕ
plain_of (int n) = signed_decimal n
plain_of (bool true) = codes "Yes"
plain_of (bool false) = codes "No"
plain_of (text bs) = bs
plain_of (symbol name) = name
plain_of null = codes "None"
plain_of (list ds) = print_value (list ds)
plain_of (rec name ds) = print_value (rec name ds)
