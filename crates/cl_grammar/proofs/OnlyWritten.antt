-- What is read of a datum is the one expression that writes it: a lemma for each row.
use Rattle.std.proofs.Common.{◌≡◌, ℕ, Bool, true, false, if◌then◌else◌, List, [], ◌∷◌, length, refl, sym, ap, ◌∙◌}
use Rattle.std.specs.Prelude.{Option, Some, None, Ok, codes}
use Rattle.std.specs.Str.{bytes_eq}
use Rattle.std.proofs.lemmas.Result.{IfOk-at_ok}
use Rattle.std.proofs.Math.Path.{subst}
use Rattle.cl_syntax.specs.ExprTree.{ExprTree, expr_trees_of}
use Rattle.cl_syntax.specs.ExprTree as expr
use Rattle.cl_syntax.specs.declared.expressions.Binding.{Binding}
use Rattle.cl_forms.specs.Datum.{Datum, Datums, number, literal, word, quoted, stray, list, none, item, in_order, offset}
use Rattle.cl_forms.specs.Naming.{fits, name_in}
use Rattle.cl_forms.specs.Words.{is_name}
use Rattle.cl_words.specs.Heads.{head_named, count_of}
use Rattle.cl_words.specs.Signatures.{function_in, record_in, slot_in}
use Rattle.cl_words.specs.declared.heads.Head.{Head}
use Rattle.cl_words.specs.declared.heads.Head.TheVariants as head
use Rattle.cl_words.specs.declared.heads.Special.{Special}
use Rattle.cl_words.specs.declared.heads.Special.TheVariants as special
use Rattle.cl_words.specs.declared.signatures.Signatures.{Signatures}
use Rattle.cl_expressions.specs.Load.{Load, Notes, give}
use Rattle.cl_expressions.specs.Scopes.{Names, among}
use Rattle.cl_expressions.specs.Expressions.{Sub, parse_each, parse_variable, parse_word, parse_slot, parse_make_fields, parse_make, parse_get, parse_with, parse_if, parse_and, parse_or, parse_call_counted, parse_map, parse_filter, parse_fold, is_binding_list, parse_binding_parts, parse_let, parse_special, parse_head, parse_headed, parse_form, parse_expression, subs, parse_bindings, parse_each_binding, parse_binding}
use Rattle.cl_value.specs.Data as value
use Rattle.std.proofs.lemmas.Bool.{false_from_ne_true}
use Rattle.cl_grammar.specs.Writes.{Writes, the_true, the_false, the_null, a_variable, a_form}
use Rattle.cl_grammar.proofs.Endings.{Ends, gives, refuses, chooses, notes_then, binds, asks_name, ends_weaker}
use Rattle.cl_grammar.proofs.OnlyRows.{Only, OnlyAll, OnlyBindings, OnlyList, OnlyForm, only_number, only_literal, only_quoted, only_none, only_more, only_unbound, only_bound, only_slot, only_if, only_let, only_and, only_or, only_make, only_get, only_with, only_map, only_filter, only_fold, only_operation, only_call}
use Rattle.cl_grammar.proofs.Spelled.{false_true, same_word, word_of, IsSpelled, head_stands}
use Rattle.cl_grammar.proofs.Written.{shapes, shapes_subs}

-- what is read of a part is the one expression that writes it
pub record OnlyPart (p : Sub) : Type 0 where
  pub expr : (env : Names) → Ends (λ t. Only t p.shape) (p.expr env)
  pub bound : (at : ℕ) (env : Names) → Ends (λ r. OnlyList r.0 p.shape) (p.bound at env)

abbrev pub OnlyParts : List Sub → Type 0
OnlyParts [] = Unit {0}
OnlyParts (p ∷ ps) = OnlyPart p × OnlyParts ps

each_only : (ps : List Sub) (env : Names) → OnlyParts ps → Ends (λ ts. OnlyAll ts (shapes ps)) (parse_each ps env)
each_only [] env k = gives only_none
each_only (p ∷ ps) env k = binds (k.0.expr env) λ t a. binds (each_only ps env k.1) λ ts b. gives (only_more t ts p.shape (shapes ps) a b)

-- ---- atoms

-- the expression that a word alone is
abbrev word_tree : List ℕ → ExprTree
word_tree x =
    if bytes_eq x (codes "true") then expr.Constant (value.bool true)
    else (if bytes_eq x (codes "false") then expr.Constant (value.bool false)
    else (if bytes_eq x (codes "null") then expr.Constant value.null else expr.Variable x))

-- a name is none of the constants
no_constant : (x w : List ℕ) → is_name w ≡ false → is_name x ≡ true → bytes_eq x w ≡ false
no_constant x w e f = false_from_ne_true (bytes_eq x w) (λ i. false_true (sym e ∙ (sym (ap is_name (same_word x w i)) ∙ f)))

named_tree : (a b c : Bool) (t u v s : ExprTree) → a ≡ false → b ≡ false → c ≡ false → s ≡ (if a then t else (if b then u else (if c then v else s)))
named_tree a b c t u v s e f g = rw (e, f, g) refl

word_only : (x : List ℕ) (at : ℕ) (s : ExprTree) → Writes s (word x at) → s ≡ word_tree x
word_only x at s the_true = refl
word_only x at s the_false = refl
word_only x at s the_null = refl
word_only x at s (a_variable e) =
    named_tree (bytes_eq x (codes "true")) (bytes_eq x (codes "false")) (bytes_eq x (codes "null")) _ _ _ (expr.Variable x)
    (no_constant x (codes "true") refl e) (no_constant x (codes "false") refl e) (no_constant x (codes "null") refl e)

variable_ends : (x : List ℕ) (at : ℕ) (env : Names) → Ends (λ t. expr.Variable x ≡ t) (parse_variable x at env)
variable_ends x at env = chooses (is_name x) (λ e. notes_then (among x env) at (gives refl)) (λ e. refuses)

-- the word is read as this
word_chosen : (a b c : Bool) (t u v s : ExprTree) (m : Load ExprTree) → Ends (λ r. s ≡ r) m
    → Ends (λ r. (if a then t else (if b then u else (if c then v else s))) ≡ r) (if a then give t else (if b then give u else (if c then give v else m)))
word_chosen true b c t u v s m h = gives refl
word_chosen false true c t u v s m h = gives refl
word_chosen false false true t u v s m h = gives refl
word_chosen false false false t u v s m h = h

word_ends : (x : List ℕ) (at : ℕ) (env : Names) → Ends (λ t. Only t (word x at)) (parse_word x at env)
word_ends x at env =
    ends_weaker (λ t e s i. word_only x at s i ∙ e)
    (word_chosen (bytes_eq x (codes "true")) (bytes_eq x (codes "false")) (bytes_eq x (codes "null")) _ _ _ (expr.Variable x) (parse_variable x at env)
    (variable_ends x at env))

-- ---- forms by their heads

-- no other expression writes the head with the parts behind it
abbrev pub RowOnly : List ℕ → ℕ → List Sub → ExprTree → Type 0
RowOnly x h ps t = OnlyForm t (word x h ∷ shapes ps)

slot_ends : (w : Signatures) (h at : ℕ) (ps : List Sub) → Ends (RowOnly (codes "slot") h ps) (parse_slot w at ps)
slot_ends w h at (n ∷ []) = asks_name at n.shape λ x e. notes_then (slot_in w x) (offset n.shape) (gives (only_slot x h n.shape e))
slot_ends w h at ps = refuses

make_fields_ends : (c : Option (Option ℕ)) (x : List ℕ) (h name_at at : ℕ) (n : Sub) (ps : List Sub) (env : Names) → name_in n.shape ≡ Some x
    → OnlyParts ps → Ends (RowOnly (codes "make") h (n ∷ ps)) (parse_make_fields c x name_at at ps env)
make_fields_ends None x h name_at at n ps env e k =
    notes_then false name_at (binds (each_only ps env k) λ ts b. gives (only_make x ts h n.shape (shapes ps) e b))
make_fields_ends (Some count) x h name_at at n ps env e k =
    chooses (fits count (length ps)) (λ f. binds (each_only ps env k) λ ts b. gives (only_make x ts h n.shape (shapes ps) e b)) (λ f. refuses)

make_ends : (w : Signatures) (h at : ℕ) (ps : List Sub) (env : Names) → OnlyParts ps → Ends (RowOnly (codes "make") h ps) (parse_make w at ps env)
make_ends w h at [] env k = refuses
make_ends w h at (n ∷ ps) env k =
    asks_name at n.shape λ x e. make_fields_ends (record_in w x) x h (offset n.shape) at n ps env e k.1

get_ends : (h at : ℕ) (ps : List Sub) (env : Names) → OnlyParts ps → Ends (RowOnly (codes "get") h ps) (parse_get at ps env)
get_ends h at (a ∷ f ∷ []) env k = asks_name at f.shape λ x e. binds (k.0.expr env) λ t i. gives (only_get x t h a.shape f.shape e i)
get_ends h at ps env k = refuses

with_ends : (h at : ℕ) (ps : List Sub) (env : Names) → OnlyParts ps → Ends (RowOnly (codes "with") h ps) (parse_with at ps env)
with_ends h at (a ∷ f ∷ b ∷ []) env k =
    asks_name at f.shape λ x e. binds (k.0.expr env) λ t i. binds (k.1.1.0.expr env) λ u j. gives (only_with x t u h a.shape f.shape b.shape e i j)
with_ends h at ps env k = refuses

if_ends : (h at : ℕ) (ps : List Sub) (env : Names) → OnlyParts ps → Ends (RowOnly (codes "if") h ps) (parse_if at ps env)
if_ends h at (a ∷ b ∷ c ∷ []) env k =
    binds (k.0.expr env) λ t i. binds (k.1.0.expr env) λ u j. binds (k.1.1.0.expr env) λ v l. gives (only_if t u v h a.shape b.shape c.shape i j l)
if_ends h at ps env k = refuses

and_ends : (h : ℕ) (ps : List Sub) (env : Names) → OnlyParts ps → Ends (RowOnly (codes "and") h ps) (parse_and ps env)
and_ends h ps env k = binds (each_only ps env k) λ ts b. gives (only_and ts h (shapes ps) b)

or_ends : (h : ℕ) (ps : List Sub) (env : Names) → OnlyParts ps → Ends (RowOnly (codes "or") h ps) (parse_or ps env)
or_ends h ps env k = binds (each_only ps env k) λ ts b. gives (only_or ts h (shapes ps) b)

map_ends : (h at : ℕ) (ps : List Sub) (env : Names) → OnlyParts ps → Ends (RowOnly (codes "map") h ps) (parse_map at ps env)
map_ends h at (n ∷ a ∷ b ∷ []) env k =
    asks_name at n.shape λ x e. binds (k.1.0.expr env) λ t i. binds (k.1.1.0.expr (x ∷ env)) λ u j. gives (only_map x t u h n.shape a.shape b.shape e i j)
map_ends h at ps env k = refuses

filter_ends : (h at : ℕ) (ps : List Sub) (env : Names) → OnlyParts ps → Ends (RowOnly (codes "filter") h ps) (parse_filter at ps env)
filter_ends h at (n ∷ a ∷ b ∷ []) env k =
    asks_name at n.shape λ x e. binds (k.1.0.expr env) λ t i. binds (k.1.1.0.expr (x ∷ env)) λ u j. gives (only_filter x t u h n.shape a.shape b.shape e i j)
filter_ends h at ps env k = refuses

fold_ends : (h at : ℕ) (ps : List Sub) (env : Names) → OnlyParts ps → Ends (RowOnly (codes "fold") h ps) (parse_fold at ps env)
fold_ends h at (n ∷ a ∷ m ∷ b ∷ c ∷ []) env k =
    asks_name at n.shape λ x e. asks_name at m.shape λ y f. binds (k.1.0.expr env) λ t i. binds (k.1.1.1.0.expr env) λ u j.
    binds (k.1.1.1.1.0.expr (y ∷ x ∷ env)) λ v l. gives (only_fold x y t u v h n.shape a.shape m.shape b.shape c.shape e i f j l)
fold_ends h at ps env k = refuses

let_ends : (h at : ℕ) (ps : List Sub) (env : Names) → OnlyParts ps → Ends (RowOnly (codes "let") h ps) (parse_let at ps env)
let_ends h at (bs ∷ b ∷ []) env k =
    chooses (is_binding_list bs.shape)
    (λ e. binds (k.0.bound at env) λ r i. binds (k.1.0.expr r.1) λ t j. gives (only_let r.0 t h bs.shape b.shape i j)) (λ e. refuses)
let_ends h at ps env k = refuses

special_ends : (w : Signatures) (s : Special) (h at : ℕ) (ps : List Sub) (env : Names) → OnlyParts ps
    → Ends (RowOnly (word_of s) h ps) (parse_special w s at ps env)
special_ends w special.Slot h at ps env k = slot_ends w h at ps
special_ends w special.And h at ps env k = and_ends h ps env k
special_ends w special.Or h at ps env k = or_ends h ps env k
special_ends w special.Make h at ps env k = make_ends w h at ps env k
special_ends w special.Get h at ps env k = get_ends h at ps env k
special_ends w special.With h at ps env k = with_ends h at ps env k
special_ends w special.Map h at ps env k = map_ends h at ps env k
special_ends w special.Filter h at ps env k = filter_ends h at ps env k
special_ends w special.Fold h at ps env k = fold_ends h at ps env k

module _ (w : Signatures) where
  call_ends : (c : Option (Option ℕ)) (x : List ℕ) (h at : ℕ) (ps : List Sub) (env : Names) → head_named x ≡ None → OnlyParts ps
      → Ends (RowOnly x h ps) (parse_call_counted c x h at ps env)
  call_ends None x h at ps env n k = refuses
  call_ends (Some count) x h at ps env n k =
      chooses (fits count (length ps)) (λ f. binds (each_only ps env k) λ ts b. gives (only_call ts x h (shapes ps) n b)) (λ f. refuses)

  spelled_so : (y x : List ℕ) (h : ℕ) (ps : List Sub) (m : Load ExprTree) → x ≡ y → Ends (RowOnly y h ps) m → Ends (RowOnly x h ps) m
  spelled_so y x h ps m e i = subst (λ z. Ends (RowOnly z h ps) m) (sym e) i

  under_ends : (o : Head) (x : List ℕ) (h at : ℕ) (ps : List Sub) (env : Names) → IsSpelled x o → OnlyParts ps
      → Ends (RowOnly x h ps) (parse_head w (Some o) x h at ps env)
  under_ends head.If x h at ps env e k = spelled_so (codes "if") x h ps (parse_if at ps env) e (if_ends h at ps env k)
  under_ends head.Let x h at ps env e k = spelled_so (codes "let") x h ps (parse_let at ps env) e (let_ends h at ps env k)
  under_ends (head.Special s) x h at ps env e k = spelled_so (word_of s) x h ps (parse_special w s at ps env) e (special_ends w s h at ps env k)
  under_ends (head.Operator o) x h at ps env e k =
      chooses (fits (count_of o) (length ps))
      (λ f. binds (each_only ps env k) λ ts b. gives (only_operation o (count_of o) ts x h (shapes ps) e b)) (λ f. refuses)
  under_ends (head.Control c) x h at ps env e k = refuses
  under_ends (head.Figure f) x h at ps env e k = refuses
  under_ends (head.Setting s) x h at ps env e k = refuses
  under_ends (head.Writing v) x h at ps env e k = refuses
  under_ends (head.Change c) x h at ps env e k = refuses
  under_ends (head.Planned p) x h at ps env e k = refuses

  head_ends : (o : Option Head) (x : List ℕ) (h at : ℕ) (ps : List Sub) (env : Names) → head_named x ≡ o → OnlyParts ps
      → Ends (RowOnly x h ps) (parse_head w o x h at ps env)
  head_ends (Some o) x h at ps env e k = under_ends o x h at ps env (head_stands w x o e).spelled k
  head_ends None x h at ps env e k = call_ends (function_in w x) x h at ps env e k

  headed_ends : (d : Datum) (at : ℕ) (ps : List Sub) (env : Names) → OnlyParts ps
      → Ends (λ t. OnlyForm t (d ∷ shapes ps)) (parse_headed w d at ps env)
  headed_ends (word x h) at ps env k = head_ends (head_named x) x h at ps env refl k
  headed_ends d at ps env k = refuses

  form_ends : (at : ℕ) (ps : List Sub) (env : Names) → OnlyParts ps → Ends (λ t. OnlyForm t (shapes ps)) (parse_form w at ps env)
  form_ends at [] env k = refuses
  form_ends at (p ∷ ps) env k = headed_ends p.shape at ps env k.1

  only_list : (t : ExprTree) (ds : Datums) (at : ℕ) → OnlyForm t (in_order ds) → Only t (list ds at)
  only_list t ds at f s (a_form i) = f s i

  list_ends : (ds : Datums) (at : ℕ) (env : Names) → OnlyParts (subs w ds) → Ends (λ t. Only t (list ds at)) (parse_form w at (subs w ds) env)
  list_ends ds at env k =
      ends_weaker (λ t f. only_list t ds at (subst (OnlyForm t) (shapes_subs w ds) f)) (form_ends at (subs w ds) env k)

  -- in front of other bindings, no other binding writes the datum
  abbrev OnlyBinding : Binding → Datum → Type 0
  OnlyBinding b d = (bs : List Binding) (ds : List Datum) → OnlyBindings bs ds → OnlyBindings (b ∷ bs) (d ∷ ds)

  binding_parts_ends : (ds : Datums) (at list_at : ℕ) (env : Names) → OnlyParts (subs w ds)
      → Ends (λ b. OnlyBinding b (list ds list_at)) (parse_binding_parts at (subs w ds) env)
  binding_parts_ends (item n (item e none)) at list_at env k =
      asks_name at n λ x i. binds (k.1.0.expr env) λ t j. gives (λ bs es l. only_bound x t n e list_at bs es i j l)
  binding_parts_ends ds at list_at env k = refuses

  mutual
    expression_ends : (d : Datum) (env : Names) → Ends (λ t. Only t d) (parse_expression w d env)
    expression_ends (number z at) env = gives (only_number z at)
    expression_ends (literal s at) env = gives (only_literal s at)
    expression_ends (quoted x at name_at) env = gives (only_quoted x at name_at)
    expression_ends (word x at) env = word_ends x at env
    expression_ends (stray at) env = refuses
    expression_ends (list ds at) env = list_ends ds at env (parts_only ds)

    parts_only : (ds : Datums) → OnlyParts (subs w ds)
    parts_only none = tt
    parts_only (item d ds) =
        (record { expr = λ env. expression_ends d env; bound = λ at env. bindings_ends d at env }, parts_only ds)

    bindings_ends : (d : Datum) (at : ℕ) (env : Names) → Ends (λ r. OnlyList r.0 d) (parse_bindings w d at env)
    bindings_ends (list ds list_at) at env = each_binding_ends ds at env
    bindings_ends (number z d_at) at env = refuses
    bindings_ends (literal s d_at) at env = refuses
    bindings_ends (word s d_at) at env = refuses
    bindings_ends (quoted s d_at name_at) at env = refuses
    bindings_ends (stray d_at) at env = refuses

    each_binding_ends : (ds : Datums) (at : ℕ) (env : Names) → Ends (λ r. OnlyBindings r.0 (in_order ds)) (parse_each_binding w ds at env)
    each_binding_ends none at env = gives only_unbound
    each_binding_ends (item d ds) at env =
        binds (binding_ends d at env) λ b i. binds (each_binding_ends ds at (b.name ∷ env)) λ r j. gives (i r.0 (in_order ds) j)

    binding_ends : (d : Datum) (at : ℕ) (env : Names) → Ends (λ b. OnlyBinding b d) (parse_binding w d at env)
    binding_ends (list ds list_at) at env = binding_parts_ends ds at list_at env (parts_only ds)
    binding_ends (number z d_at) at env = refuses
    binding_ends (literal s d_at) at env = refuses
    binding_ends (word s d_at) at env = refuses
    binding_ends (quoted s d_at name_at) at env = refuses
    binding_ends (stray d_at) at env = refuses

  pub only_parsed : (d : Datum) (env : Names) (u v : Notes) (s t : ExprTree) → parse_expression w d env u ≡ Ok (t, v) → Writes s d → s ≡ t
  only_parsed d env u v s t e i = IfOk-at_ok (λ x. Only x.0 d) e ((expression_ends d env).ends u) s i
