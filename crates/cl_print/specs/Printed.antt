-- The printed form of values.
use Rattle.std.specs.Prelude.{ℕ, Bool, true, false, ◌||◌, ◌==◌, if◌then◌else◌, List, [], ◌∷◌, ◌++◌, codes}
use Rattle.std.specs.Fmt.{signed_decimal}
use Rattle.cl_value.specs.Data.{Data, Items, bool, int, item, list, none, null, rec, symbol, text}

-- with a `\` before each `"` and `\`
abbrev pub escape : List ℕ → List ℕ
escape [] = []
escape (b ∷ bs) = if (b == 34) || (b == 92) then 92 ∷ b ∷ escape bs else b ∷ escape bs

abbrev mutual
  -- a number in decimal, a text in quotes, a symbol's name, the parts of a list in parentheses, and before them `#` and the name for a record
  pub print_value : Data → List ℕ
  print_value (int n) = signed_decimal n
  print_value (bool true) = codes "true"
  print_value (bool false) = codes "false"
  print_value (text bs) = 34 ∷ (escape bs ++ 34 ∷ [])
  print_value (symbol name) = name
  print_value null = codes "null"
  print_value (list ds) = 40 ∷ (print_parts true ds ++ 41 ∷ [])
  print_value (rec name ds) = 35 ∷ (name ++ 40 ∷ (print_parts true ds ++ 41 ∷ []))

  -- a space before each part but the first
  pub print_parts : (first : Bool) → Items → List ℕ
  print_parts first none = []
  print_parts true (item d ds) = print_value d ++ print_parts false ds
  print_parts false (item d ds) = 32 ∷ (print_value d ++ print_parts false ds)
