-- What is read of a datum writes it: a lemma for each row.
use Rattle.std.proofs.Common.{◌≡◌, ℕ, true, false, List, [], ◌∷◌, length, refl, sym, ap, suc}
use Rattle.std.specs.Prelude.{Option, Some, None, Ok, codes}
use Rattle.std.specs.Str.{bytes_eq}
use Rattle.std.proofs.lemmas.Result.{IfOk-at_ok, IfOk-weaker}
use Rattle.std.proofs.Math.Path.{subst}
use Rattle.cl_syntax.specs.Expr.{bindings_of}
use Rattle.cl_syntax.specs.ExprTree.{ExprTree, expr_trees_of}
use Rattle.cl_syntax.specs.ExprTree as expr
use Rattle.cl_syntax.specs.declared.expressions.Binding.{Binding}
use Rattle.cl_syntax.specs.declared.operators.Operator.{Operator}
use Rattle.cl_forms.specs.Datum.{Datum, Datums, number, literal, word, quoted, stray, list, none, item, in_order, offset}
use Rattle.cl_forms.specs.Naming.{fits, name_in}
use Rattle.cl_forms.specs.Words.{is_name}
use Rattle.cl_words.specs.Heads.{head_named, count_of}
use Rattle.cl_words.specs.Signatures.{function_in, record_in, slot_in}
use Rattle.cl_table.specs.Names.{named}
use Rattle.cl_words.specs.declared.heads.Head.{Head}
use Rattle.cl_words.specs.declared.heads.Head.TheVariants as head
use Rattle.cl_words.specs.declared.heads.Special.{Special}
use Rattle.cl_words.specs.declared.heads.Special.TheVariants as special
use Rattle.cl_words.specs.declared.signatures.Signatures.{Signatures}
use Rattle.cl_expressions.specs.Load.{Load, Notes}
use Rattle.cl_expressions.specs.Scopes.{Names, among}
use Rattle.cl_expressions.specs.Expressions.{Sub, parse_each, parse_variable, parse_word, parse_slot, parse_make_fields, parse_make, parse_get}
use Rattle.cl_expressions.specs.Expressions.{parse_with, parse_if, parse_and, parse_or, parse_operation, parse_call_counted, parse_map, parse_filter}
use Rattle.cl_expressions.specs.Expressions.{parse_fold, is_binding_list, parse_binding_parts, parse_let, parse_special, parse_head, parse_headed}
use Rattle.cl_expressions.specs.Expressions.{parse_form, parse_expression, subs, parse_bindings, parse_each_binding, parse_binding}
use Rattle.cl_grammar.specs.Heads.{operators, CallsNames}
use Rattle.cl_grammar.specs.Writes.{Writes, WritesForm, WritesAll, WritesBindings, a_number, a_text, a_quoted_name, the_true, the_false, the_null}
use Rattle.cl_grammar.specs.Writes.{a_variable, a_form, a_slot, an_if, a_let, an_and, an_or, a_make, a_get, a_with, a_map, a_filter, a_fold}
use Rattle.cl_grammar.specs.Writes.{an_operation, a_call, no_more, one_more, no_binding, one_binding}
use Rattle.cl_grammar.proofs.Endings.{Ends, gives, refuses, chooses, notes_then, binds, asks_name}
use Rattle.cl_grammar.proofs.Spelled.{same_word, word_of, IsSpelled, head_stands, not_fixed}

-- the parts as they stand
abbrev pub shapes : List Sub → List Datum
shapes [] = []
shapes (p ∷ ps) = p.shape ∷ shapes ps

pub shapes_subs : (w : Signatures) (ds : Datums) → shapes (subs w ds) ≡ in_order ds
shapes_subs w none = refl
shapes_subs w (item d ds) = ap (λ es. d ∷ es) (shapes_subs w ds)

-- bindings that are read write the parts of the datum, which is a list
abbrev pub WritesList : List Binding → Datum → Type 0
WritesList bs (list ds at) = WritesBindings (bindings_of bs) (in_order ds)
WritesList bs (number z at) = ⊥
WritesList bs (literal s at) = ⊥
WritesList bs (word s at) = ⊥
WritesList bs (quoted s at name_at) = ⊥
WritesList bs (stray at) = ⊥

-- what is read of a part writes it
pub record WrittenPart (p : Sub) : Type 0 where
  pub expr : (env : Names) → Ends (λ t. Writes t p.shape) (p.expr env)
  pub bound : (at : ℕ) (env : Names) → Ends (λ r. WritesList r.0 p.shape) (p.bound at env)

abbrev pub WrittenParts : List Sub → Type 0
WrittenParts [] = Unit {0}
WrittenParts (p ∷ ps) = WrittenPart p × WrittenParts ps

pub each_written : (ps : List Sub) (env : Names) → WrittenParts ps → Ends (λ ts. WritesAll (expr_trees_of ts) (shapes ps)) (parse_each ps env)
each_written [] env k = gives no_more
each_written (p ∷ ps) env k = binds (k.0.expr env) λ t a. binds (each_written ps env k.1) λ ts b. gives (one_more a b)

-- ---- atoms

variable_written : (x : List ℕ) (at : ℕ) (env : Names) → Ends (λ t. Writes t (word x at)) (parse_variable x at env)
variable_written x at env = chooses (is_name x) (λ e. notes_then (among x env) at (gives (a_variable e))) (λ e. refuses)

constant_written : (t : ExprTree) (x w : List ℕ) (at : ℕ) → bytes_eq x w ≡ true → Writes t (word w at) → Writes t (word x at)
constant_written t x w at e h = subst (λ y. Writes t (word y at)) (sym (same_word x w e)) h

word_written : (x : List ℕ) (at : ℕ) (env : Names) → Ends (λ t. Writes t (word x at)) (parse_word x at env)
word_written x at env =
    chooses (bytes_eq x (codes "true")) (λ e. gives (constant_written _ x (codes "true") at e the_true)) λ f.
    chooses (bytes_eq x (codes "false")) (λ e. gives (constant_written _ x (codes "false") at e the_false)) λ g.
    chooses (bytes_eq x (codes "null")) (λ e. gives (constant_written _ x (codes "null") at e the_null)) λ h.
    variable_written x at env

-- ---- forms by their heads

-- what is read writes the head with the parts behind it
abbrev pub RowEnds : List ℕ → ℕ → List Sub → ExprTree → Type 0
RowEnds x h ps t = WritesForm t (word x h ∷ shapes ps)

slot_written : (w : Signatures) (h at : ℕ) (ps : List Sub) → Ends (RowEnds (codes "slot") h ps) (parse_slot w at ps)
slot_written w h at (n ∷ []) = asks_name at n.shape λ x e. notes_then (slot_in w x) (offset n.shape) (gives (a_slot e))
slot_written w h at ps = refuses

make_fields_written : (c : Option (Option ℕ)) (x : List ℕ) (h name_at at : ℕ) (n : Sub) (ps : List Sub) (env : Names) → name_in n.shape ≡ Some x
    → WrittenParts ps → Ends (RowEnds (codes "make") h (n ∷ ps)) (parse_make_fields c x name_at at ps env)
make_fields_written None x h name_at at n ps env e k =
    notes_then false name_at (binds (each_written ps env k) λ ts b. gives (a_make e b))
make_fields_written (Some count) x h name_at at n ps env e k =
    chooses (fits count (length ps)) (λ f. binds (each_written ps env k) λ ts b. gives (a_make e b)) (λ f. refuses)

make_written : (w : Signatures) (h at : ℕ) (ps : List Sub) (env : Names) → WrittenParts ps → Ends (RowEnds (codes "make") h ps) (parse_make w at ps env)
make_written w h at [] env k = refuses
make_written w h at (n ∷ ps) env k =
    asks_name at n.shape λ x e. make_fields_written (record_in w x) x h (offset n.shape) at n ps env e k.1

get_written : (h at : ℕ) (ps : List Sub) (env : Names) → WrittenParts ps → Ends (RowEnds (codes "get") h ps) (parse_get at ps env)
get_written h at (a ∷ f ∷ []) env k = asks_name at f.shape λ x e. binds (k.0.expr env) λ t i. gives (a_get i e)
get_written h at ps env k = refuses

with_written : (h at : ℕ) (ps : List Sub) (env : Names) → WrittenParts ps → Ends (RowEnds (codes "with") h ps) (parse_with at ps env)
with_written h at (a ∷ f ∷ b ∷ []) env k =
    asks_name at f.shape λ x e. binds (k.0.expr env) λ t i. binds (k.1.1.0.expr env) λ u j. gives (a_with i e j)
with_written h at ps env k = refuses

if_written : (h at : ℕ) (ps : List Sub) (env : Names) → WrittenParts ps → Ends (RowEnds (codes "if") h ps) (parse_if at ps env)
if_written h at (a ∷ b ∷ c ∷ []) env k =
    binds (k.0.expr env) λ t i. binds (k.1.0.expr env) λ u j. binds (k.1.1.0.expr env) λ v l. gives (an_if i j l)
if_written h at ps env k = refuses

and_written : (h : ℕ) (ps : List Sub) (env : Names) → WrittenParts ps → Ends (RowEnds (codes "and") h ps) (parse_and ps env)
and_written h ps env k = binds (each_written ps env k) λ ts b. gives (an_and b)

or_written : (h : ℕ) (ps : List Sub) (env : Names) → WrittenParts ps → Ends (RowEnds (codes "or") h ps) (parse_or ps env)
or_written h ps env k = binds (each_written ps env k) λ ts b. gives (an_or b)

map_written : (h at : ℕ) (ps : List Sub) (env : Names) → WrittenParts ps → Ends (RowEnds (codes "map") h ps) (parse_map at ps env)
map_written h at (n ∷ a ∷ b ∷ []) env k =
    asks_name at n.shape λ x e. binds (k.1.0.expr env) λ t i. binds (k.1.1.0.expr (x ∷ env)) λ u j. gives (a_map e i j)
map_written h at ps env k = refuses

filter_written : (h at : ℕ) (ps : List Sub) (env : Names) → WrittenParts ps → Ends (RowEnds (codes "filter") h ps) (parse_filter at ps env)
filter_written h at (n ∷ a ∷ b ∷ []) env k =
    asks_name at n.shape λ x e. binds (k.1.0.expr env) λ t i. binds (k.1.1.0.expr (x ∷ env)) λ u j. gives (a_filter e i j)
filter_written h at ps env k = refuses

fold_written : (h at : ℕ) (ps : List Sub) (env : Names) → WrittenParts ps → Ends (RowEnds (codes "fold") h ps) (parse_fold at ps env)
fold_written h at (n ∷ a ∷ m ∷ b ∷ c ∷ []) env k =
    asks_name at n.shape λ x e. asks_name at m.shape λ y f. binds (k.1.0.expr env) λ t i. binds (k.1.1.1.0.expr env) λ u j.
    binds (k.1.1.1.1.0.expr (y ∷ x ∷ env)) λ v l. gives (a_fold e i f j l)
fold_written h at ps env k = refuses

bound_written : (t : ExprTree) (bs : List Binding) (d : Datum) (b : Datum) (h : ℕ) → WritesList bs d → Writes t b
    → WritesForm (expr.Let (bindings_of bs) t) (word (codes "let") h ∷ d ∷ b ∷ [])
bound_written t bs (list ds at) b h i j = a_let i j
bound_written t bs (number z at) b h i j = absurd i
bound_written t bs (literal s at) b h i j = absurd i
bound_written t bs (word s at) b h i j = absurd i
bound_written t bs (quoted s at name_at) b h i j = absurd i
bound_written t bs (stray at) b h i j = absurd i

let_written : (h at : ℕ) (ps : List Sub) (env : Names) → WrittenParts ps → Ends (RowEnds (codes "let") h ps) (parse_let at ps env)
let_written h at (bs ∷ b ∷ []) env k =
    chooses (is_binding_list bs.shape)
    (λ e. binds (k.0.bound at env) λ r i. binds (k.1.0.expr r.1) λ t j. gives (bound_written t r.0 bs.shape b.shape h i j)) (λ e. refuses)
let_written h at ps env k = refuses

special_written : (w : Signatures) (s : Special) (h at : ℕ) (ps : List Sub) (env : Names) → WrittenParts ps
    → Ends (RowEnds (word_of s) h ps) (parse_special w s at ps env)
special_written w special.Slot h at ps env k = slot_written w h at ps
special_written w special.And h at ps env k = and_written h ps env k
special_written w special.Or h at ps env k = or_written h ps env k
special_written w special.Make h at ps env k = make_written w h at ps env k
special_written w special.Get h at ps env k = get_written h at ps env k
special_written w special.With h at ps env k = with_written h at ps env k
special_written w special.Map h at ps env k = map_written h at ps env k
special_written w special.Filter h at ps env k = filter_written h at ps env k
special_written w special.Fold h at ps env k = fold_written h at ps env k

length_shapes : (ps : List Sub) (count : Option ℕ) → fits count (length ps) ≡ true → fits count (length (shapes ps)) ≡ true
length_shapes ps count e = subst (λ n. fits count n ≡ true) (counted ps) e
  where
    counted : (qs : List Sub) → length qs ≡ length (shapes qs)
    counted [] = refl
    counted (q ∷ qs) = ap suc (counted qs)

operation_written : (o : Operator) (x : List ℕ) (h at : ℕ) (ps : List Sub) (env : Names) → named x operators ≡ Some (o, count_of o) → WrittenParts ps
    → Ends (RowEnds x h ps) (parse_operation o at ps env)
operation_written o x h at ps env e k =
    chooses (fits (count_of o) (length ps))
    (λ f. binds (each_written ps env k) λ ts b. gives (an_operation e (length_shapes ps (count_of o) f) b)) (λ f. refuses)

module _ (w : Signatures) (names : CallsNames w) where
  call_written : (c : Option (Option ℕ)) (x : List ℕ) (h at : ℕ) (ps : List Sub) (env : Names) → function_in w x ≡ c → head_named x ≡ None
      → WrittenParts ps → Ends (RowEnds x h ps) (parse_call_counted c x h at ps env)
  call_written None x h at ps env e n k = refuses
  call_written (Some count) x h at ps env e n k =
      chooses (fits count (length ps))
      (λ f. binds (each_written ps env k) λ ts b. gives (a_call (record { is_a_name = names x count e; is_not_fixed = not_fixed x n }) b)) (λ f. refuses)

  spelled_so : (y x : List ℕ) (h : ℕ) (ps : List Sub) (m : Load ExprTree) → x ≡ y → Ends (RowEnds y h ps) m → Ends (RowEnds x h ps) m
  spelled_so y x h ps m e i = subst (λ z. Ends (RowEnds z h ps) m) (sym e) i

  under_written : (o : Head) (x : List ℕ) (h at : ℕ) (ps : List Sub) (env : Names) → IsSpelled x o → WrittenParts ps
      → Ends (RowEnds x h ps) (parse_head w (Some o) x h at ps env)
  under_written head.If x h at ps env e k = spelled_so (codes "if") x h ps (parse_if at ps env) e (if_written h at ps env k)
  under_written head.Let x h at ps env e k = spelled_so (codes "let") x h ps (parse_let at ps env) e (let_written h at ps env k)
  under_written (head.Special s) x h at ps env e k = spelled_so (word_of s) x h ps (parse_special w s at ps env) e (special_written w s h at ps env k)
  under_written (head.Operator o) x h at ps env e k = operation_written o x h at ps env e k
  under_written (head.Control c) x h at ps env e k = refuses
  under_written (head.Figure f) x h at ps env e k = refuses
  under_written (head.Setting s) x h at ps env e k = refuses
  under_written (head.Writing v) x h at ps env e k = refuses
  under_written (head.Change c) x h at ps env e k = refuses
  under_written (head.Planned p) x h at ps env e k = refuses

  head_written : (o : Option Head) (x : List ℕ) (h at : ℕ) (ps : List Sub) (env : Names) → head_named x ≡ o → WrittenParts ps
      → Ends (RowEnds x h ps) (parse_head w o x h at ps env)
  head_written (Some o) x h at ps env e k = under_written o x h at ps env (head_stands w x o e).spelled k
  head_written None x h at ps env e k = call_written (function_in w x) x h at ps env refl e k

  headed_written : (d : Datum) (at : ℕ) (ps : List Sub) (env : Names) → WrittenParts ps
      → Ends (λ t. WritesForm t (d ∷ shapes ps)) (parse_headed w d at ps env)
  headed_written (word x h) at ps env k = head_written (head_named x) x h at ps env refl k
  headed_written d at ps env k = refuses

  form_written : (at : ℕ) (ps : List Sub) (env : Names) → WrittenParts ps → Ends (λ t. WritesForm t (shapes ps)) (parse_form w at ps env)
  form_written at [] env k = refuses
  form_written at (p ∷ ps) env k = headed_written p.shape at ps env k.1

  list_written : (ds : Datums) (at : ℕ) (env : Names) → WrittenParts (subs w ds)
      → Ends (λ t. Writes t (list ds at)) (parse_form w at (subs w ds) env)
  list_written ds at env k =
      record {
        ends = λ u. IfOk-weaker (parse_form w at (subs w ds) env u) _ _
            (λ x i. a_form (subst (WritesForm x.0) (shapes_subs w ds) i)) ((form_written at (subs w ds) env k).ends u);
      }

  -- in front of other bindings, the binding writes the datum
  abbrev WritesBefore : Binding → Datum → Type 0
  WritesBefore b d = (bs : List Binding) (es : List Datum) → WritesBindings (bindings_of bs) es → WritesBindings (bindings_of (b ∷ bs)) (d ∷ es)

  binding_parts_written : (ds : Datums) (at list_at : ℕ) (env : Names) → WrittenParts (subs w ds)
      → Ends (λ b. WritesBefore b (list ds list_at))
      (parse_binding_parts at (subs w ds) env)
  binding_parts_written (item n (item e none)) at list_at env k =
      asks_name at n λ x i. binds (k.1.0.expr env) λ t j. gives (λ bs es l. one_binding i j l)
  binding_parts_written ds at list_at env k = refuses

  mutual
    pub expression_ends : (d : Datum) (env : Names) → Ends (λ t. Writes t d) (parse_expression w d env)
    expression_ends (number z at) env = gives a_number
    expression_ends (literal s at) env = gives a_text
    expression_ends (quoted x at name_at) env = gives a_quoted_name
    expression_ends (word x at) env = word_written x at env
    expression_ends (stray at) env = refuses
    expression_ends (list ds at) env = list_written ds at env (parts_written ds)

    parts_written : (ds : Datums) → WrittenParts (subs w ds)
    parts_written none = tt
    parts_written (item d ds) =
        (record { expr = λ env. expression_ends d env; bound = λ at env. bindings_written d at env }, parts_written ds)

    pub bindings_written : (d : Datum) (at : ℕ) (env : Names) → Ends (λ r. WritesList r.0 d) (parse_bindings w d at env)
    bindings_written (list ds list_at) at env = each_binding_written ds at env
    bindings_written (number z d_at) at env = refuses
    bindings_written (literal s d_at) at env = refuses
    bindings_written (word s d_at) at env = refuses
    bindings_written (quoted s d_at name_at) at env = refuses
    bindings_written (stray d_at) at env = refuses

    each_binding_written : (ds : Datums) (at : ℕ) (env : Names) → Ends (λ r. WritesBindings (bindings_of r.0) (in_order ds)) (parse_each_binding w ds at env)
    each_binding_written none at env = gives no_binding
    each_binding_written (item d ds) at env =
        binds (binding_written d at env) λ b i. binds (each_binding_written ds at (b.name ∷ env)) λ r j. gives (i r.0 (in_order ds) j)

    binding_written : (d : Datum) (at : ℕ) (env : Names)
        → Ends (λ b. WritesBefore b d) (parse_binding w d at env)
    binding_written (list ds list_at) at env = binding_parts_written ds at list_at env (parts_written ds)
    binding_written (number z d_at) at env = refuses
    binding_written (literal s d_at) at env = refuses
    binding_written (word s d_at) at env = refuses
    binding_written (quoted s d_at name_at) at env = refuses
    binding_written (stray d_at) at env = refuses

  pub expression_written : (d : Datum) (env : Names) (u v : Notes) (t : ExprTree) → parse_expression w d env u ≡ Ok (t, v) → Writes t d
  expression_written d env u v t e = IfOk-at_ok (λ x. Writes x.0 d) e ((expression_ends d env).ends u)
