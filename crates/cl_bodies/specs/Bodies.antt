-- What display forms and statements share: forms that choose, repeat and bind, and bodies. Each row says first what makes the form itself
-- wrong, and then its parts from left to right.
use Rattle.std.specs.Prelude.{ℕ, if◌then◌else◌, List, [], ◌∷◌, drop, Option, Some, None}
use Rattle.cl_syntax.specs.ExprTree.{ExprTree}
use Rattle.cl_syntax.specs.declared.expressions.Binding.{Binding}
use Rattle.cl_forms.specs.Datum.{Datum, Datums, number, literal, word, quoted, stray, list, none, item}
use Rattle.cl_expressions.specs.Load.{Load, ◌>>=◌, give, refuse}
use Rattle.cl_expressions.specs.Scopes.{Names}
use Rattle.cl_words.specs.Heads.{head_named}
use Rattle.cl_expressions.specs.Expressions.{Sub, parse_expression, parse_bindings, parse_binding, is_binding_list}
use Rattle.cl_words.specs.declared.heads.Head.{Head}
use Rattle.cl_words.specs.declared.heads.Head.TheVariants as head
use Rattle.cl_words.specs.declared.heads.Control.{Control}
use Rattle.cl_words.specs.declared.heads.Control.TheVariants as control
use Rattle.cl_words.specs.declared.signatures.Signatures.{Signatures}
use Rattle.cl_bodies.specs.declared.own.Own.{Own}
use Rattle.cl_bodies.specs.declared.own.Own.TheVariants.{Whole, Before}

-- a language of forms: F are its trees, O is what stands before the body in a form of its own, and C tells in what a form stands
pub record Language (F O C : Type 0) : Type 0 where
  pub choice : ExprTree → F → F → F
  pub when : ExprTree → List F → F
  pub bind : List Binding → List F → F
  pub each : List ℕ → ExprTree → List F → F
  pub sequence : List F → F
  -- a form of its own, up to its body, by its head, the offsets of the head and of the form, and its parts
  pub own : Signatures → C → Head → ℕ → ℕ → List Sub → Names → Load (Own F O C)
  -- a form that begins with any other symbol
  pub call : Signatures → List ℕ → ℕ → ℕ → List Sub → Names → Load F
  pub closed : O → List F → F

-- a part of a form: as an expression's part, and the form that it is
pub record Part (F C : Type 0) : Type 0 where
  pub sub : Sub
  pub form : C → Names → Load F

-- the parts as an expression's parts
abbrev pub subs_of : {F C : Type 0} → List (Part F C) → List Sub
subs_of [] = []
subs_of (p ∷ ps) = p.sub ∷ subs_of ps

-- all parts are forms
abbrev pub parse_each : {F C : Type 0} → C → List (Part F C) → Names → Load (List F)
parse_each c [] env = give []
parse_each c (p ∷ ps) env = p.form c env >>= λ f. parse_each c ps env >>= λ fs. give (f ∷ fs)

-- behind the test and the first form of an `if`
abbrev pub parse_else : {F O C : Type 0} → Language F O C → ExprTree → F → Load F → Load F
parse_else l t f other = other >>= λ g. give (l.choice t f g)

-- behind the test of an `if`
abbrev pub parse_then : {F O C : Type 0} → Language F O C → ExprTree → Load F → Load F → Load F
parse_then l t first other = first >>= λ f. parse_else l t f other

-- `(if TEST THEN ELSE)`
abbrev pub parse_if : {F O C : Type 0} → Language F O C → C → ℕ → List (Part F C) → Names → Load F
parse_if l c at (a ∷ b ∷ d ∷ []) env = a.sub.expr env >>= λ t. parse_then l t (b.form c env) (d.form c env)
parse_if l c at parts env = refuse 6 at

-- `(when TEST FORM ...)`
abbrev pub parse_when : {F O C : Type 0} → Language F O C → C → ℕ → List (Part F C) → Names → Load F
parse_when l c at [] env = refuse 6 at
parse_when l c at (a ∷ parts) env = a.sub.expr env >>= λ t. parse_each c parts env >>= λ fs. give (l.when t fs)

-- `(let ((NAME E) ...) FORM ...)`: each binding sees the earlier ones
abbrev pub parse_let : {F O C : Type 0} → Language F O C → C → ℕ → List (Part F C) → Names → Load F
parse_let l c at [] env = refuse 6 at
parse_let l c at (a ∷ parts) env =
    if is_binding_list a.sub.shape
    then (a.sub.bound at env >>= λ r. parse_each c parts r.1 >>= λ fs. give (l.bind r.0 fs))
    else refuse 6 at

-- the body of `dolist` sees its name
abbrev pub parse_dolist_body : {F O C : Type 0} → Language F O C → C → List ℕ → ExprTree → List (Part F C) → Names → Load F
parse_dolist_body l c x t parts env = parse_each c parts (x ∷ env) >>= λ fs. give (l.each x t fs)

-- `(dolist (NAME LIST) FORM ...)`
abbrev pub parse_dolist : {F O C : Type 0} → Language F O C → Signatures → C → ℕ → List (Part F C) → Names → Load F
parse_dolist l w c at [] env = refuse 6 at
parse_dolist l w c at (a ∷ parts) env = parse_binding w a.sub.shape at env >>= λ b. parse_dolist_body l c b.name b.value parts env

-- `(progn FORM ...)`
abbrev pub parse_progn : {F O C : Type 0} → Language F O C → C → List (Part F C) → Names → Load F
parse_progn l c parts env = parse_each c parts env >>= λ fs. give (l.sequence fs)

-- a form by its head, where all languages have it
abbrev pub parse_control : {F O C : Type 0} → Language F O C → Signatures → C → Control → ℕ → List (Part F C) → Names → Load F
parse_control l w c control.When at parts env = parse_when l c at parts env
parse_control l w c control.Dolist at parts env = parse_dolist l w c at parts env
parse_control l w c control.Progn at parts env = parse_progn l c parts env

-- ---- forms of the language's own

-- with its body
abbrev pub parse_closed : {F O C : Type 0} → Language F O C → C → O → List (Part F C) → Names → Load F
parse_closed l c o parts env = parse_each c parts env >>= λ fs. give (l.closed o fs)

-- whole as it is; or with the body behind so many parts, in what the body stands
abbrev pub finished : {F O C : Type 0} → Language F O C → Own F O C → List (Part F C) → Names → Load F
finished l (Whole f) parts env = give f
finished l (Before o count c) parts env = parse_closed l c o (drop count parts) env

-- by its head
abbrev pub parse_own : {F O C : Type 0} → Language F O C → Signatures → C → Head → ℕ → ℕ → List (Part F C) → Names → Load F
parse_own l w c h head_at at parts env = l.own w c h head_at at (subs_of parts) env >>= λ own. finished l own parts env

-- ---- forms by their heads

-- as the table of heads has it
abbrev pub parse_head : {F O C : Type 0} → Language F O C → Signatures → C → Option Head → List ℕ → ℕ → ℕ → List (Part F C) → Names → Load F
parse_head l w c None x head_at at parts env = l.call w x head_at at (subs_of parts) env
parse_head l w c (Some head.If) x head_at at parts env = parse_if l c at parts env
parse_head l w c (Some head.Let) x head_at at parts env = parse_let l c at parts env
parse_head l w c (Some (head.Control k)) x head_at at parts env = parse_control l w c k at parts env
parse_head l w c (Some other) x head_at at parts env = parse_own l w c other head_at at parts env

-- a form begins with a symbol
abbrev pub parse_headed : {F O C : Type 0} → Language F O C → Signatures → C → Datum → ℕ → List (Part F C) → Names → Load F
parse_headed l w c (word x head_at) at parts env = parse_head l w c (head_named x) x head_at at parts env
parse_headed l w c (number z head_at) at parts env = refuse 6 at
parse_headed l w c (literal s head_at) at parts env = refuse 6 at
parse_headed l w c (quoted s head_at name_at) at parts env = refuse 6 at
parse_headed l w c (stray head_at) at parts env = refuse 6 at
parse_headed l w c (list ds head_at) at parts env = refuse 6 at

-- a list that is a form
abbrev pub parse_listed : {F O C : Type 0} → Language F O C → Signatures → C → ℕ → List (Part F C) → Names → Load F
parse_listed l w c at [] env = refuse 6 at
parse_listed l w c at (h ∷ parts) env = parse_headed l w c h.sub.shape at parts env

abbrev mutual
  -- the form that a datum is
  pub parse_form : {F O C : Type 0} → Language F O C → Signatures → C → Datum → Names → Load F
  parse_form l w c (list ds at) env = parse_listed l w c at (parts_in l w ds) env
  parse_form l w c (number z at) env = refuse 6 at
  parse_form l w c (literal s at) env = refuse 6 at
  parse_form l w c (quoted x at name_at) env = refuse 6 at
  parse_form l w c (word x at) env = refuse 6 at
  parse_form l w c (stray at) env = refuse 6 at

  -- the parts of a form, each with what it is as an expression, as bindings and as a form
  pub parts_in : {F O C : Type 0} → Language F O C → Signatures → Datums → List (Part F C)
  parts_in l w none = []
  parts_in l w (item d ds) =
      record { sub = record { shape = d; expr = parse_expression w d; bound = parse_bindings w d }; form = λ c. parse_form l w c d } ∷ parts_in l w ds

-- the forms of a body
abbrev pub parse_body : {F O C : Type 0} → Language F O C → Signatures → C → Datums → Names → Load (List F)
parse_body l w c ds env = parse_each c (parts_in l w ds) env
