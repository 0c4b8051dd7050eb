-- The paths of a cache: a variable or a slot, or a field of what a path leads to. They are read as the expressions that they are.
use Rattle.std.specs.Prelude.{ℕ, List, [], ◌∷◌, Option, Some}
use Rattle.cl_syntax.specs.ExprTree.{ExprTree}
use Rattle.cl_forms.specs.Datum.{Datum, Datums, number, literal, word, quoted, stray, list, none, item}
use Rattle.cl_expressions.specs.Load.{Load, ◌>>=◌, give, refuse}
use Rattle.cl_expressions.specs.Scopes.{Names}
use Rattle.cl_expressions.specs.Expressions.{Sub, parse_variable, parse_slot, parse_get, parse_bindings}
use Rattle.cl_words.specs.Heads.{head_named}
use Rattle.cl_words.specs.declared.heads.Head.{Head}
use Rattle.cl_words.specs.declared.heads.Head.TheVariants as head
use Rattle.cl_words.specs.declared.heads.Special.TheVariants as special
use Rattle.cl_words.specs.declared.signatures.Signatures.{Signatures}

-- `(slot NAME)` or `(get PATH FIELD)`, and no other form
abbrev pub parse_path_head : Signatures → Option Head → ℕ → ℕ → List Sub → Names → Load ExprTree
parse_path_head w (Some (head.Special special.Slot)) head_at at parts env = parse_slot w at parts
parse_path_head w (Some (head.Special special.Get)) head_at at parts env = parse_get at parts env
parse_path_head w other head_at at parts env = refuse 5 head_at

-- a form begins with a symbol
abbrev pub parse_path_headed : Signatures → Datum → ℕ → List Sub → Names → Load ExprTree
parse_path_headed w (word x head_at) at parts env = parse_path_head w (head_named x) head_at at parts env
parse_path_headed w (number z head_at) at parts env = refuse 6 at
parse_path_headed w (literal s head_at) at parts env = refuse 6 at
parse_path_headed w (quoted s head_at name_at) at parts env = refuse 6 at
parse_path_headed w (stray head_at) at parts env = refuse 6 at
parse_path_headed w (list ds head_at) at parts env = refuse 6 at

-- a list that is a path
abbrev pub parse_path_form : Signatures → ℕ → List Sub → Names → Load ExprTree
parse_path_form w at [] env = refuse 6 at
parse_path_form w at (h ∷ parts) env = parse_path_headed w h.shape at parts env

abbrev mutual
  -- the expression that a path is
  pub parse_path : Signatures → Datum → Names → Load ExprTree
  parse_path w (word x at) env = parse_variable x at env
  parse_path w (list ds at) env = parse_path_form w at (path_subs w ds) env
  parse_path w (number z at) env = refuse 6 at
  parse_path w (literal s at) env = refuse 6 at
  parse_path w (quoted x at name_at) env = refuse 6 at
  parse_path w (stray at) env = refuse 6 at

  -- its parts: where other forms have expressions, a path has paths
  pub path_subs : Signatures → Datums → List Sub
  path_subs w none = []
  path_subs w (item d ds) = record { shape = d; expr = parse_path w d; bound = parse_bindings w d } ∷ path_subs w ds

-- all of them
abbrev pub parse_each_path : Signatures → List Datum → Names → Load (List ExprTree)
parse_each_path w [] env = give []
parse_each_path w (d ∷ ds) env = parse_path w d env >>= λ t. parse_each_path w ds env >>= λ ts. give (t ∷ ts)
