-- The faults of an expression stand in its form.
use Rattle.std.proofs.Common.{inl, inr, ℕ, false, List, [], ◌∷◌, length, refl}
use Rattle.std.specs.Prelude.{Option, Some, None, codes}
use Rattle.std.specs.Str.{bytes_eq}
use Rattle.cl_syntax.specs.ExprTree as expr
use Rattle.cl_syntax.specs.declared.operators.Operator.{Operator}
use Rattle.cl_forms.specs.Datum.{Datum, Datums, number, literal, word, quoted, stray, list, none, item, offset}
use Rattle.cl_expressions.specs.Scopes.{Names, among}
use Rattle.cl_forms.specs.Words.{is_name}
use Rattle.cl_words.specs.Heads.{head_named, count_of}
use Rattle.cl_words.specs.Signatures.{function_in, record_in, slot_in}
use Rattle.cl_expressions.specs.Expressions.{Sub, parse_each, parse_variable, parse_word, parse_slot_name, parse_slot, parse_make_parts, parse_make_fields, parse_make, parse_get, parse_with, parse_if, parse_and, parse_or, parse_operation, parse_call_counted, parse_call, parse_map, parse_filter, parse_fold, is_binding_list, parse_binding_parts, parse_let, parse_special, parse_head, parse_headed, parse_form, parse_expression, subs, parse_bindings, parse_each_binding, parse_binding}
use Rattle.cl_forms.specs.Naming.{fits}
use Rattle.cl_words.specs.declared.heads.Head.{Head}
use Rattle.cl_words.specs.declared.heads.Head.TheVariants as head
use Rattle.cl_words.specs.declared.heads.Special.{Special}
use Rattle.cl_words.specs.declared.heads.Special.TheVariants as special
use Rattle.cl_words.specs.declared.signatures.Signatures.{Signatures}
use Rattle.cl_faults.specs.Faults.{StandsIn, StandsAmong}
use Rattle.cl_faults.proofs.FaultLemmas.{FaultsAt, gives, refuses, notes, notes_then, binds, chooses, asks_name}

-- P holds of each offset that stands in the datum
abbrev pub Covers : (ℕ → Type 0) → Datum → Type 0
Covers P d = (o : ℕ) → StandsIn o d → P o

abbrev pub CoversAll : (ℕ → Type 0) → Datums → Type 0
CoversAll P ds = (o : ℕ) → StandsAmong o ds → P o

pub own_offset : (d : Datum) → StandsIn (offset d) d
own_offset (number z at) = refl
own_offset (literal s at) = refl
own_offset (word s at) = refl
own_offset (quoted s at name_at) = inl refl
own_offset (stray at) = refl
own_offset (list ds at) = inl refl

-- P holds of each offset that stands in the part, and of each fault of it, as an expression and as bindings
pub record CoversPart (P : ℕ → Type 0) (p : Sub) : Type 0 where
  pub shape : Covers P p.shape
  pub expr : (env : Names) → FaultsAt P (p.expr env)
  pub bound : (at : ℕ) (env : Names) → P at → FaultsAt P (p.bound at env)

abbrev pub CoversParts : (ℕ → Type 0) → List Sub → Type 0
CoversParts P [] = Unit {0}
CoversParts P (p ∷ ps) = CoversPart P p × CoversParts P ps

module _ {P : ℕ → Type 0} where
  pub covers_offset : (d : Datum) → Covers P d → P (offset d)
  covers_offset d h = h (offset d) (own_offset d)

  pub each_faults : (ps : List Sub) (env : Names) → CoversParts P ps → FaultsAt P (parse_each ps env)
  each_faults [] env h = gives
  each_faults (p ∷ ps) env h = binds (h.0.expr env) λ t. binds (each_faults ps env h.1) λ ts. gives

  pub name_faults : (x : List ℕ) (at : ℕ) (env : Names) → P at → FaultsAt P (parse_variable x at env)
  name_faults x at env h = chooses (is_name x) (notes_then (among x env) at (expr.Variable x)) (refuses h)

  word_faults : (x : List ℕ) (at : ℕ) (env : Names) → P at → FaultsAt P (parse_word x at env)
  word_faults x at env h =
      chooses (bytes_eq x (codes "true")) gives
      (chooses (bytes_eq x (codes "false")) gives (chooses (bytes_eq x (codes "null")) gives (name_faults x at env h)))

  slot_part_faults : (w : Signatures) (at : ℕ) (d : Datum) → P at → FaultsAt P (parse_slot_name w at d)
  slot_part_faults w at d h = binds (asks_name at d h) λ x. notes_then (slot_in w x) (offset d) (expr.Slot x)

  pub slot_faults : (w : Signatures) (at : ℕ) (ps : List Sub) → P at → FaultsAt P (parse_slot w at ps)
  slot_faults w at (a ∷ []) h = slot_part_faults w at a.shape h
  slot_faults w at ps h = refuses h

  made_faults : (x : List ℕ) (ps : List Sub) (env : Names) → CoversParts P ps → FaultsAt P (parse_make_parts x ps env)
  made_faults x ps env k = binds (each_faults ps env k) λ ts. gives

  make_counted_faults : (c : Option (Option ℕ)) (x : List ℕ) (name_at at : ℕ) (ps : List Sub) (env : Names) → P at → CoversParts P ps
      → FaultsAt P (parse_make_fields c x name_at at ps env)
  make_counted_faults None x name_at at ps env h k = binds (notes false name_at) λ u. made_faults x ps env k
  make_counted_faults (Some count) x name_at at ps env h k = chooses (fits count (length ps)) (made_faults x ps env k) (refuses h)

  make_faults : (w : Signatures) (at : ℕ) (ps : List Sub) (env : Names) → P at → CoversParts P ps → FaultsAt P (parse_make w at ps env)
  make_faults w at [] env h k = refuses h
  make_faults w at (n ∷ ps) env h k =
      binds (asks_name at n.shape h) λ x. make_counted_faults (record_in w x) x (offset n.shape) at ps env h k.1

  pub get_faults : (at : ℕ) (ps : List Sub) (env : Names) → P at → CoversParts P ps → FaultsAt P (parse_get at ps env)
  get_faults at (e ∷ f ∷ []) env h k = binds (asks_name at f.shape h) λ x. binds (k.0.expr env) λ t. gives
  get_faults at ps env h k = refuses h

  with_faults : (at : ℕ) (ps : List Sub) (env : Names) → P at → CoversParts P ps → FaultsAt P (parse_with at ps env)
  with_faults at (e ∷ f ∷ g ∷ []) env h k =
      binds (asks_name at f.shape h) λ x. binds (k.0.expr env) λ t. binds (k.1.1.0.expr env) λ u. gives
  with_faults at ps env h k = refuses h

  if_faults : (at : ℕ) (ps : List Sub) (env : Names) → P at → CoversParts P ps → FaultsAt P (parse_if at ps env)
  if_faults at (a ∷ b ∷ c ∷ []) env h k =
      binds (k.0.expr env) λ t. binds (k.1.0.expr env) λ u. binds (k.1.1.0.expr env) λ v. gives
  if_faults at ps env h k = refuses h

  every_faults : (ps : List Sub) (env : Names) → CoversParts P ps → FaultsAt P (parse_and ps env)
  every_faults ps env k = binds (each_faults ps env k) λ ts. gives

  some_faults : (ps : List Sub) (env : Names) → CoversParts P ps → FaultsAt P (parse_or ps env)
  some_faults ps env k = binds (each_faults ps env k) λ ts. gives

  operation_faults : (o : Operator) (at : ℕ) (ps : List Sub) (env : Names) → P at → CoversParts P ps
      → FaultsAt P (parse_operation o at ps env)
  operation_faults o at ps env h k =
      chooses (fits (count_of o) (length ps)) (binds (each_faults ps env k) λ ts. gives) (refuses h)

  call_counted_faults : (c : Option (Option ℕ)) (x : List ℕ) (head_at at : ℕ) (ps : List Sub) (env : Names) → P head_at → P at
      → CoversParts P ps → FaultsAt P (parse_call_counted c x head_at at ps env)
  call_counted_faults None x head_at at ps env g h k = refuses g
  call_counted_faults (Some count) x head_at at ps env g h k =
      chooses (fits count (length ps)) (binds (each_faults ps env k) λ ts. gives) (refuses h)

  map_faults : (at : ℕ) (ps : List Sub) (env : Names) → P at → CoversParts P ps → FaultsAt P (parse_map at ps env)
  map_faults at (n ∷ e ∷ b ∷ []) env h k =
      binds (asks_name at n.shape h) λ x. binds (k.1.0.expr env) λ t. binds (k.1.1.0.expr (x ∷ env)) λ u. gives
  map_faults at ps env h k = refuses h

  filter_faults : (at : ℕ) (ps : List Sub) (env : Names) → P at → CoversParts P ps → FaultsAt P (parse_filter at ps env)
  filter_faults at (n ∷ e ∷ b ∷ []) env h k =
      binds (asks_name at n.shape h) λ x. binds (k.1.0.expr env) λ t. binds (k.1.1.0.expr (x ∷ env)) λ u. gives
  filter_faults at ps env h k = refuses h

  fold_faults : (at : ℕ) (ps : List Sub) (env : Names) → P at → CoversParts P ps → FaultsAt P (parse_fold at ps env)
  fold_faults at (n ∷ e ∷ a ∷ o ∷ b ∷ []) env h k =
      binds (asks_name at n.shape h) λ x. binds (asks_name at a.shape h) λ y. binds (k.1.0.expr env) λ t.
      binds (k.1.1.1.0.expr env) λ u. binds (k.1.1.1.1.0.expr (y ∷ x ∷ env)) λ v. gives
  fold_faults at ps env h k = refuses h

  binding_faults : (at : ℕ) (ps : List Sub) (env : Names) → P at → CoversParts P ps → FaultsAt P (parse_binding_parts at ps env)
  binding_faults at (n ∷ e ∷ []) env h k = binds (asks_name at n.shape h) λ x. binds (k.1.0.expr env) λ t. gives
  binding_faults at ps env h k = refuses h

  let_faults : (at : ℕ) (ps : List Sub) (env : Names) → P at → CoversParts P ps → FaultsAt P (parse_let at ps env)
  let_faults at (bs ∷ b ∷ []) env h k =
      chooses (is_binding_list bs.shape) (binds (k.0.bound at env h) λ r. binds (k.1.0.expr r.1) λ t. gives) (refuses h)
  let_faults at ps env h k = refuses h

  special_faults : (w : Signatures) (s : Special) (at : ℕ) (ps : List Sub) (env : Names) → P at → CoversParts P ps
      → FaultsAt P (parse_special w s at ps env)
  special_faults w special.Slot at ps env h k = slot_faults w at ps h
  special_faults w special.And at ps env h k = every_faults ps env k
  special_faults w special.Or at ps env h k = some_faults ps env k
  special_faults w special.Make at ps env h k = make_faults w at ps env h k
  special_faults w special.Get at ps env h k = get_faults at ps env h k
  special_faults w special.With at ps env h k = with_faults at ps env h k
  special_faults w special.Map at ps env h k = map_faults at ps env h k
  special_faults w special.Filter at ps env h k = filter_faults at ps env h k
  special_faults w special.Fold at ps env h k = fold_faults at ps env h k

  call_faults : (w : Signatures) (x : List ℕ) (head_at at : ℕ) (ps : List Sub) (env : Names) → P head_at → P at → CoversParts P ps
      → FaultsAt P (parse_call w x head_at at ps env)
  call_faults w x head_at at ps env g h k = call_counted_faults (function_in w x) x head_at at ps env g h k

  head_faults : (w : Signatures) (s : Option Head) (x : List ℕ) (head_at at : ℕ) (ps : List Sub) (env : Names) → P head_at → P at
      → CoversParts P ps → FaultsAt P (parse_head w s x head_at at ps env)
  head_faults w None x head_at at ps env g h k = call_faults w x head_at at ps env g h k
  head_faults w (Some head.If) x head_at at ps env g h k = if_faults at ps env h k
  head_faults w (Some head.Let) x head_at at ps env g h k = let_faults at ps env h k
  head_faults w (Some (head.Special s)) x head_at at ps env g h k = special_faults w s at ps env h k
  head_faults w (Some (head.Operator o)) x head_at at ps env g h k = operation_faults o at ps env h k
  head_faults w (Some other) x head_at at ps env g h k = refuses g

  headed_faults : (w : Signatures) (d : Datum) (at : ℕ) (ps : List Sub) (env : Names) → Covers P d → P at → CoversParts P ps
      → FaultsAt P (parse_headed w d at ps env)
  headed_faults w (word x head_at) at ps env c h k = head_faults w (head_named x) x head_at at ps env (c head_at refl) h k
  headed_faults w d at ps env c h k = refuses h

  form_faults : (w : Signatures) (at : ℕ) (ps : List Sub) (env : Names) → P at → CoversParts P ps → FaultsAt P (parse_form w at ps env)
  form_faults w at [] env h k = refuses h
  form_faults w at (p ∷ ps) env h k = headed_faults w p.shape at ps env k.0.shape h k.1

  mutual
    pub expr_faults : (w : Signatures) (d : Datum) (env : Names) → Covers P d → FaultsAt P (parse_expression w d env)
    expr_faults w (number z at) env c = gives
    expr_faults w (literal s at) env c = gives
    expr_faults w (quoted x at name_at) env c = gives
    expr_faults w (word x at) env c = word_faults x at env (c at refl)
    expr_faults w (stray at) env c = refuses (c at refl)
    expr_faults w (list ds at) env c = form_faults w at (subs w ds) env (c at (inl refl)) (covers_subs w ds (λ o s. c o (inr s)))

    pub covers_subs : (w : Signatures) (ds : Datums) → CoversAll P ds → CoversParts P (subs w ds)
    covers_subs w none c = tt
    covers_subs w (item d ds) c = (
      record {
        shape = λ o s. c o (inl s);
        expr = λ env. expr_faults w d env (λ o s. c o (inl s));
        bound = λ at env h. bound_faults w d at env h (λ o s. c o (inl s));
      },
      covers_subs w ds (λ o s. c o (inr s)),
    )

    pub bound_faults : (w : Signatures) (d : Datum) (at : ℕ) (env : Names) → P at → Covers P d → FaultsAt P (parse_bindings w d at env)
    bound_faults w (list ds list_at) at env h c = bound_all_faults w ds at env h (λ o s. c o (inr s))
    bound_faults w (number z d_at) at env h c = refuses h
    bound_faults w (literal s d_at) at env h c = refuses h
    bound_faults w (word s d_at) at env h c = refuses h
    bound_faults w (quoted s d_at name_at) at env h c = refuses h
    bound_faults w (stray d_at) at env h c = refuses h

    bound_all_faults : (w : Signatures) (ds : Datums) (at : ℕ) (env : Names) → P at → CoversAll P ds → FaultsAt P (parse_each_binding w ds at env)
    bound_all_faults w none at env h c = gives
    bound_all_faults w (item d ds) at env h c =
        binds (binding_in_faults w d at env h (λ o s. c o (inl s))) λ b.
        binds (bound_all_faults w ds at (b.name ∷ env) h (λ o s. c o (inr s))) λ r. gives

    pub binding_in_faults : (w : Signatures) (d : Datum) (at : ℕ) (env : Names) → P at → Covers P d → FaultsAt P (parse_binding w d at env)
    binding_in_faults w (list ds list_at) at env h c = binding_faults at (subs w ds) env h (covers_subs w ds (λ o s. c o (inr s)))
    binding_in_faults w (number z d_at) at env h c = refuses h
    binding_in_faults w (literal s d_at) at env h c = refuses h
    binding_in_faults w (word s d_at) at env h c = refuses h
    binding_in_faults w (quoted s d_at name_at) at env h c = refuses h
    binding_in_faults w (stray d_at) at env h c = refuses h
