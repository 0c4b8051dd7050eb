-- The expression that a form is. Each row says first what makes the form itself wrong, and then its parts from left to right.
use Rattle.std.specs.Prelude.{ℕ, Bool, true, false, ◌&&◌, is_some, if◌then◌else◌, List, [], ◌∷◌, length, Option, Some, None, codes}
use Rattle.std.specs.Str.{bytes_eq}
use Rattle.cl_value.specs.Data as value
use Rattle.cl_syntax.specs.Expr.{bindings_of}
use Rattle.cl_syntax.specs.ExprTree.{ExprTree, expr_trees_of}
use Rattle.cl_syntax.specs.ExprTree as expr
use Rattle.cl_syntax.specs.declared.expressions.Binding.{Binding}
use Rattle.cl_syntax.specs.declared.operators.Operator.{Operator}
use Rattle.cl_syntax.specs.declared.operators.Operator.TheVariants as operator
use Rattle.cl_syntax.specs.declared.operators.RecordOperator.TheVariants.{Make, Get, With}
use Rattle.cl_forms.specs.Datum.{Datum, Datums, number, literal, word, quoted, stray, list, none, item, in_order, parts_of, offset}
use Rattle.cl_forms.specs.Naming.{fits}
use Rattle.cl_expressions.specs.Load.{Load, ◌>>=◌, give, refuse, noted}
use Rattle.cl_expressions.specs.Scopes.{Names, among}
use Rattle.cl_forms.specs.Words.{is_name}
use Rattle.cl_words.specs.Heads.{head_named, count_of}
use Rattle.cl_forms.specs.Naming.{name_in}
use Rattle.cl_words.specs.Signatures.{function_in, record_in, slot_in}
use Rattle.cl_words.specs.declared.heads.Head.{Head}
use Rattle.cl_words.specs.declared.heads.Head.TheVariants as head
use Rattle.cl_words.specs.declared.heads.Special.{Special}
use Rattle.cl_words.specs.declared.heads.Special.TheVariants as special
use Rattle.cl_words.specs.declared.signatures.Signatures.{Signatures}

-- bindings, and the variables that are seen behind them
abbrev pub Bound : Type 0
Bound = List Binding × Names

-- a part of a form: as it stands, the expression that it is, and the bindings that it is in a form at some offset
pub record Sub : Type 0 where
  pub shape : Datum
  pub expr : Names → Load ExprTree
  pub bound : ℕ → Names → Load Bound

-- a name, where the form at this offset asks for one
abbrev pub named_part : ℕ → Datum → Load (List ℕ)
named_part at d = elim (name_in d) [ None ↦ refuse 6 at | Some x ↦ give x ]

-- all parts are expressions
abbrev pub parse_each : List Sub → Names → Load (List ExprTree)
parse_each [] env = give []
parse_each (p ∷ ps) env = p.expr env >>= λ t. parse_each ps env >>= λ ts. give (t ∷ ts)

-- ---- atoms

-- a word that is a name is a variable, which is noted where none of this name is seen
abbrev pub parse_variable : List ℕ → ℕ → Names → Load ExprTree
parse_variable x at env = if is_name x then (noted (among x env) at >>= λ u. give (expr.Variable x)) else refuse 6 at

-- a word: one of the constants, or a variable
abbrev pub parse_word : List ℕ → ℕ → Names → Load ExprTree
parse_word x at env =
    if bytes_eq x (codes "true") then give (expr.Constant (value.bool true))
    else (if bytes_eq x (codes "false") then give (expr.Constant (value.bool false))
    else (if bytes_eq x (codes "null") then give (expr.Constant value.null) else parse_variable x at env))

-- ---- names in forms

-- `(slot NAME)`: the name is noted where no such slot is declared
abbrev pub parse_slot_name : Signatures → ℕ → Datum → Load ExprTree
parse_slot_name w at d = named_part at d >>= λ x. noted (slot_in w x) (offset d) >>= λ u. give (expr.Slot x)

-- `(slot NAME)`
abbrev pub parse_slot : Signatures → ℕ → List Sub → Load ExprTree
parse_slot w at (a ∷ []) = parse_slot_name w at a.shape
parse_slot w at parts = refuse 6 at

-- the parts of `(make RECORD E ...)`, one for each field
abbrev pub parse_make_parts : List ℕ → List Sub → Names → Load ExprTree
parse_make_parts x parts env = parse_each parts env >>= λ ts. give (expr.Operation (operator.Record (Make x)) (expr_trees_of ts))

-- a record that is not declared is noted; one that is takes as many parts as it has fields
abbrev pub parse_make_fields : Option (Option ℕ) → List ℕ → ℕ → ℕ → List Sub → Names → Load ExprTree
parse_make_fields None x name_at at parts env = noted false name_at >>= λ u. parse_make_parts x parts env
parse_make_fields (Some count) x name_at at parts env = if fits count (length parts) then parse_make_parts x parts env else refuse 6 at

-- `(make RECORD E ...)`
abbrev pub parse_make : Signatures → ℕ → List Sub → Names → Load ExprTree
parse_make w at [] env = refuse 6 at
parse_make w at (n ∷ parts) env = named_part at n.shape >>= λ x. parse_make_fields (record_in w x) x (offset n.shape) at parts env

-- `(get E FIELD)`
abbrev pub parse_get : ℕ → List Sub → Names → Load ExprTree
parse_get at (e ∷ f ∷ []) env =
    named_part at f.shape >>= λ x. e.expr env >>= λ t. give (expr.Operation (operator.Record (Get x)) (expr_trees_of (t ∷ [])))
parse_get at parts env = refuse 6 at

-- `(with E FIELD E)`
abbrev pub parse_with : ℕ → List Sub → Names → Load ExprTree
parse_with at (e ∷ f ∷ g ∷ []) env =
    named_part at f.shape >>= λ x. e.expr env >>= λ t. g.expr env >>= λ u.
    give (expr.Operation (operator.Record (With x)) (expr_trees_of (t ∷ u ∷ [])))
parse_with at parts env = refuse 6 at

-- ---- rows of expressions alone

-- `(if TEST THEN ELSE)`
abbrev pub parse_if : ℕ → List Sub → Names → Load ExprTree
parse_if at (a ∷ b ∷ c ∷ []) env = a.expr env >>= λ t. b.expr env >>= λ u. c.expr env >>= λ v. give (expr.If t u v)
parse_if at parts env = refuse 6 at

-- `(and E ...)`
abbrev pub parse_and : List Sub → Names → Load ExprTree
parse_and parts env = parse_each parts env >>= λ ts. give (expr.And (expr_trees_of ts))

-- `(or E ...)`
abbrev pub parse_or : List Sub → Names → Load ExprTree
parse_or parts env = parse_each parts env >>= λ ts. give (expr.Or (expr_trees_of ts))

-- an operator over its number of parts
abbrev pub parse_operation : Operator → ℕ → List Sub → Names → Load ExprTree
parse_operation o at parts env =
    if fits (count_of o) (length parts) then (parse_each parts env >>= λ ts. give (expr.Operation o (expr_trees_of ts))) else refuse 6 at

-- a call of what has this count of parameters, if a function
abbrev pub parse_call_counted : Option (Option ℕ) → List ℕ → ℕ → ℕ → List Sub → Names → Load ExprTree
parse_call_counted None x head_at at parts env = refuse 5 head_at
parse_call_counted (Some count) x head_at at parts env =
    if fits count (length parts) then (parse_each parts env >>= λ ts. give (expr.Call x (expr_trees_of ts))) else refuse 6 at

-- `(FUNCTION E ...)`
abbrev pub parse_call : Signatures → List ℕ → ℕ → ℕ → List Sub → Names → Load ExprTree
parse_call w x head_at at parts env = parse_call_counted (function_in w x) x head_at at parts env

-- ---- forms that bind

-- `(map NAME LIST BODY)`
abbrev pub parse_map : ℕ → List Sub → Names → Load ExprTree
parse_map at (n ∷ e ∷ b ∷ []) env =
    named_part at n.shape >>= λ x. e.expr env >>= λ t. b.expr (x ∷ env) >>= λ u. give (expr.Map x t u)
parse_map at parts env = refuse 6 at

-- `(filter NAME LIST BODY)`
abbrev pub parse_filter : ℕ → List Sub → Names → Load ExprTree
parse_filter at (n ∷ e ∷ b ∷ []) env =
    named_part at n.shape >>= λ x. e.expr env >>= λ t. b.expr (x ∷ env) >>= λ u. give (expr.Filter x t u)
parse_filter at parts env = refuse 6 at

-- `(fold NAME LIST ACCUMULATOR OPENING BODY)`
abbrev pub parse_fold : ℕ → List Sub → Names → Load ExprTree
parse_fold at (n ∷ e ∷ a ∷ o ∷ b ∷ []) env =
    named_part at n.shape >>= λ x. named_part at a.shape >>= λ y. e.expr env >>= λ t. o.expr env >>= λ u. b.expr (y ∷ x ∷ env) >>= λ v.
    give (expr.Fold x t y u v)
parse_fold at parts env = refuse 6 at

-- `(NAME E)`
abbrev pub is_binding : List Datum → Bool
is_binding (n ∷ e ∷ []) = is_some (name_in n)
is_binding parts = false

-- parts that are bindings each
abbrev pub are_bindings : List Datum → Bool
are_bindings [] = true
are_bindings (d ∷ ds) = is_binding (parts_of d) && are_bindings ds

-- a list of bindings
abbrev pub is_binding_list : Datum → Bool
is_binding_list (list ds at) = are_bindings (in_order ds)
is_binding_list (number z at) = false
is_binding_list (literal s at) = false
is_binding_list (word s at) = false
is_binding_list (quoted s at name_at) = false
is_binding_list (stray at) = false

-- the parts of `(NAME E)`
abbrev pub parse_binding_parts : ℕ → List Sub → Names → Load Binding
parse_binding_parts at (n ∷ e ∷ []) env = named_part at n.shape >>= λ x. e.expr env >>= λ t. give (record { name = x; value = t })
parse_binding_parts at parts env = refuse 6 at

-- `(let ((NAME E) ...) BODY)`: each binding sees the earlier ones
abbrev pub parse_let : ℕ → List Sub → Names → Load ExprTree
parse_let at (bs ∷ b ∷ []) env =
    if is_binding_list bs.shape
    then (bs.bound at env >>= λ r. b.expr r.1 >>= λ t. give (expr.Let (bindings_of r.0) t))
    else refuse 6 at
parse_let at parts env = refuse 6 at

-- ---- forms by their heads

-- a form by its head, where this heads expressions alone and is no operator over the values of its parts
abbrev pub parse_special : Signatures → Special → ℕ → List Sub → Names → Load ExprTree
parse_special w special.Slot at parts env = parse_slot w at parts
parse_special w special.Make at parts env = parse_make w at parts env
parse_special w special.Get at parts env = parse_get at parts env
parse_special w special.With at parts env = parse_with at parts env
parse_special w special.And at parts env = parse_and parts env
parse_special w special.Or at parts env = parse_or parts env
parse_special w special.Map at parts env = parse_map at parts env
parse_special w special.Filter at parts env = parse_filter at parts env
parse_special w special.Fold at parts env = parse_fold at parts env

-- a form by its head, as the table of heads has it; a head that is none of these calls a function
abbrev pub parse_head : Signatures → Option Head → List ℕ → ℕ → ℕ → List Sub → Names → Load ExprTree
parse_head w None x head_at at parts env = parse_call w x head_at at parts env
parse_head w (Some head.If) x head_at at parts env = parse_if at parts env
parse_head w (Some head.Let) x head_at at parts env = parse_let at parts env
parse_head w (Some (head.Special s)) x head_at at parts env = parse_special w s at parts env
parse_head w (Some (head.Operator o)) x head_at at parts env = parse_operation o at parts env
parse_head w (Some other) x head_at at parts env = refuse 5 head_at

-- a form begins with a symbol
abbrev pub parse_headed : Signatures → Datum → ℕ → List Sub → Names → Load ExprTree
parse_headed w (word x head_at) at parts env = parse_head w (head_named x) x head_at at parts env
parse_headed w (number z head_at) at parts env = refuse 6 at
parse_headed w (literal s head_at) at parts env = refuse 6 at
parse_headed w (quoted s head_at name_at) at parts env = refuse 6 at
parse_headed w (stray head_at) at parts env = refuse 6 at
parse_headed w (list ds head_at) at parts env = refuse 6 at

-- a list that is a form
abbrev pub parse_form : Signatures → ℕ → List Sub → Names → Load ExprTree
parse_form w at [] env = refuse 6 at
parse_form w at (h ∷ parts) env = parse_headed w h.shape at parts env

abbrev mutual
  -- the expression that a datum is
  pub parse_expression : Signatures → Datum → Names → Load ExprTree
  parse_expression w (number z at) env = give (expr.Constant (value.int z))
  parse_expression w (literal s at) env = give (expr.Constant (value.text s))
  parse_expression w (quoted x at name_at) env = give (expr.Constant (value.symbol x))
  parse_expression w (word x at) env = parse_word x at env
  parse_expression w (stray at) env = refuse 6 at
  parse_expression w (list ds at) env = parse_form w at (subs w ds) env

  -- each part of a form, with its expression and the bindings that it is, as it is read
  pub subs : Signatures → Datums → List Sub
  subs w none = []
  subs w (item d ds) = record { shape = d; expr = parse_expression w d; bound = parse_bindings w d } ∷ subs w ds

  -- the bindings that a datum is
  pub parse_bindings : Signatures → Datum → ℕ → Names → Load Bound
  parse_bindings w (list ds list_at) at env = parse_each_binding w ds at env
  parse_bindings w (number z d_at) at env = refuse 6 at
  parse_bindings w (literal s d_at) at env = refuse 6 at
  parse_bindings w (word s d_at) at env = refuse 6 at
  parse_bindings w (quoted s d_at name_at) at env = refuse 6 at
  parse_bindings w (stray d_at) at env = refuse 6 at

  -- bindings in a row, each of which sees those before it
  pub parse_each_binding : Signatures → Datums → ℕ → Names → Load Bound
  parse_each_binding w none at env = give ([], env)
  parse_each_binding w (item d ds) at env = parse_binding w d at env >>= λ b. parse_each_binding w ds at (b.name ∷ env) >>= λ r. give (b ∷ r.0, r.1)

  -- the binding that a datum is
  pub parse_binding : Signatures → Datum → ℕ → Names → Load Binding
  parse_binding w (list ds list_at) at env = parse_binding_parts at (subs w ds) env
  parse_binding w (number z d_at) at env = refuse 6 at
  parse_binding w (literal s d_at) at env = refuse 6 at
  parse_binding w (word s d_at) at env = refuse 6 at
  parse_binding w (quoted s d_at name_at) at env = refuse 6 at
  parse_binding w (stray d_at) at env = refuse 6 at
