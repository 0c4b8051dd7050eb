-- What a form sees of its parts: the expressions and names in it, in the order of the text; or what is wrong with the form itself.
use Rattle.std.specs.Prelude.{ℕ, if◌then◌else◌, List, [], ◌∷◌, ◌++◌, length, Option, Some, None, codes}
use Rattle.cl_table.specs.Names.{named}
use Rattle.cl_forms.specs.Datum.{Datum, number, literal, word, quoted, stray, list, parts_of, offset}
use Rattle.cl_forms.specs.Naming.{name_in, symbol_of, fits}
use Rattle.cl_words.specs.Signatures.{function_in, record_in}
use Rattle.cl_words.specs.declared.signatures.Signatures.{Signatures}
use Rattle.cl_expressions.specs.Scopes.{Names, among}
use Rattle.cl_expressions.specs.Expressions.{is_binding_list}
use Rattle.cl_grammar.specs.Heads.{Counted, operators, fixed_heads}

-- a part of a form that is looked at; a form of this language has none that is refused by itself, but others may
pub data Seen : Type 0 where
  -- an expression, with the variables that it sees
  expression : Names → Datum → Seen
  -- the name of a slot, with its offset
  slot_name : List ℕ → ℕ → Seen
  -- the name of a record, with its offset
  record_name : List ℕ → ℕ → Seen
  -- what is refused by itself, with the number of the refusal and its offset
  refused : ℕ → ℕ → Seen

-- what a form sees
pub data Sight : Type 0 where
  -- the form has a number of parts that it may not have, or a part of the wrong kind
  Misshapen : Sight
  -- no function has the name that heads the form at this offset
  UnknownHead : ℕ → Sight
  -- these parts, from left to right
  Sees : List Seen → Sight

-- all parts are expressions
abbrev pub all_seen : Names → List Datum → List Seen
all_seen env [] = []
all_seen env (d ∷ ds) = expression env d ∷ all_seen env ds

-- all parts are expressions, and as many as are asked for
abbrev pub counted_seen : Option ℕ → Names → List Datum → Sight
counted_seen count env ds = if fits count (length ds) then Sees (all_seen env ds) else Misshapen

-- a part is a name
abbrev pub where_named : Datum → (List ℕ → Sight) → Sight
where_named n seen = elim (name_in n) [ None ↦ Misshapen | Some x ↦ seen x ]

-- ---- rows

-- `(slot NAME)`
abbrev pub slot_seen : Names → List Datum → Sight
slot_seen env (n ∷ []) = where_named n λ x. Sees (slot_name x (offset n) ∷ [])
slot_seen env ds = Misshapen

-- `(if TEST THEN ELSE)`
abbrev pub if_seen : Names → List Datum → Sight
if_seen env (a ∷ b ∷ c ∷ []) = Sees (expression env a ∷ expression env b ∷ expression env c ∷ [])
if_seen env ds = Misshapen

-- behind a binding of a `let` its name is seen in front of those before it
abbrev pub names_behind : Names → List Datum → Names
names_behind env (n ∷ e ∷ []) = symbol_of n ∷ env
names_behind env ds = env

-- the value of a binding
abbrev pub value_seen : Names → List Datum → List Seen
value_seen env (n ∷ e ∷ []) = expression env e ∷ []
value_seen env ds = []

-- the names that are seen behind all bindings
abbrev pub names_bound : Names → List Datum → Names
names_bound env [] = env
names_bound env (d ∷ ds) = names_bound (names_behind env (parts_of d)) ds

-- the values of all bindings: each sees the names of the earlier ones
abbrev pub values_seen : Names → List Datum → List Seen
values_seen env [] = []
values_seen env (d ∷ ds) = value_seen env (parts_of d) ++ values_seen (names_behind env (parts_of d)) ds

-- `(let ((NAME E) ...) BODY)`
abbrev pub let_seen : Names → List Datum → Sight
let_seen env (bs ∷ b ∷ []) =
    if is_binding_list bs then Sees (values_seen env (parts_of bs) ++ expression (names_bound env (parts_of bs)) b ∷ []) else Misshapen
let_seen env ds = Misshapen

-- `(and E ...)`
abbrev pub and_seen : Names → List Datum → Sight
and_seen env ds = Sees (all_seen env ds)

-- `(or E ...)`
abbrev pub or_seen : Names → List Datum → Sight
or_seen env ds = Sees (all_seen env ds)

-- the parts behind the name of a record: as many as it has fields, where it is declared
abbrev pub fields_seen : Option (Option ℕ) → List ℕ → ℕ → Names → List Datum → Sight
fields_seen None x at env ds = Sees (record_name x at ∷ all_seen env ds)
fields_seen (Some count) x at env ds = counted_seen count env ds

-- `(make RECORD E ...)`
abbrev pub make_seen : Signatures → Names → List Datum → Sight
make_seen w env [] = Misshapen
make_seen w env (n ∷ ds) = where_named n λ x. fields_seen (record_in w x) x (offset n) env ds

-- `(get E FIELD)`
abbrev pub get_seen : Names → List Datum → Sight
get_seen env (a ∷ f ∷ []) = where_named f λ x. Sees (expression env a ∷ [])
get_seen env ds = Misshapen

-- `(with E FIELD E)`
abbrev pub with_seen : Names → List Datum → Sight
with_seen env (a ∷ f ∷ b ∷ []) = where_named f λ x. Sees (expression env a ∷ expression env b ∷ [])
with_seen env ds = Misshapen

-- `(map NAME LIST BODY)`
abbrev pub map_seen : Names → List Datum → Sight
map_seen env (n ∷ a ∷ b ∷ []) = where_named n λ x. Sees (expression env a ∷ expression (x ∷ env) b ∷ [])
map_seen env ds = Misshapen

-- `(filter NAME LIST BODY)`
abbrev pub filter_seen : Names → List Datum → Sight
filter_seen env (n ∷ a ∷ b ∷ []) = where_named n λ x. Sees (expression env a ∷ expression (x ∷ env) b ∷ [])
filter_seen env ds = Misshapen

-- `(fold NAME LIST ACCUMULATOR OPENING BODY)`
abbrev pub fold_seen : Names → List Datum → Sight
fold_seen env (n ∷ a ∷ m ∷ b ∷ c ∷ []) =
    where_named n λ x. where_named m λ y. Sees (expression env a ∷ expression env b ∷ expression (y ∷ x ∷ env) c ∷ [])
fold_seen env ds = Misshapen

-- `(FUNCTION E ...)`: as many parts as the function has parameters
abbrev pub call_seen : Option (Option ℕ) → ℕ → Names → List Datum → Sight
call_seen None head_at env ds = UnknownHead head_at
call_seen (Some count) head_at env ds = counted_seen count env ds

-- ---- forms by their heads

-- the rows by their words
abbrev pub rows : Signatures → List (List ℕ × (Names → List Datum → Sight))
rows w =
    (codes "slot", slot_seen)
    ∷ (codes "if", if_seen)
    ∷ (codes "let", let_seen)
    ∷ (codes "and", and_seen)
    ∷ (codes "or", or_seen)
    ∷ (codes "make", make_seen w)
    ∷ (codes "get", get_seen)
    ∷ (codes "with", with_seen)
    ∷ (codes "map", map_seen)
    ∷ (codes "filter", filter_seen)
    ∷ (codes "fold", fold_seen)
    ∷ []

-- an operator, or the name of a function: no other fixed head stands before an expression
abbrev pub operator_seen : Signatures → Option Counted → List ℕ → ℕ → Names → List Datum → Sight
operator_seen w (Some o) x head_at env ds = counted_seen o.1 env ds
operator_seen w None x head_at env ds =
    if among x fixed_heads then UnknownHead head_at else call_seen (function_in w x) head_at env ds

-- one of the rows, or an operator or the name of a function
abbrev pub row_seen : Signatures → Option (Names → List Datum → Sight) → List ℕ → ℕ → Names → List Datum → Sight
row_seen w (Some row) x head_at env ds = row env ds
row_seen w None x head_at env ds = operator_seen w (named x operators) x head_at env ds

-- a form begins with a symbol
abbrev pub headed_seen : Signatures → Names → Datum → List Datum → Sight
headed_seen w env (word x head_at) ds = row_seen w (named x (rows w)) x head_at env ds
headed_seen w env (number z at) ds = Misshapen
headed_seen w env (literal s at) ds = Misshapen
headed_seen w env (quoted s at name_at) ds = Misshapen
headed_seen w env (stray at) ds = Misshapen
headed_seen w env (list es at) ds = Misshapen

-- what the form of these parts sees
abbrev pub form_seen : Signatures → Names → List Datum → Sight
form_seen w env [] = Misshapen
form_seen w env (d ∷ ds) = headed_seen w env d ds
