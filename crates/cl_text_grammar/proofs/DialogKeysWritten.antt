-- The keys of a dialog and of a query write their data.
use Rattle.std.proofs.Common.{◌≡◌, ℕ, Bool, true, false, ◌||◌, List, [], ◌∷◌, ◌++◌, refl, sym, ap, ◌∙◌}
use Rattle.std.specs.Prelude.{Option, Some, None, codes}
use Rattle.std.proofs.Math.Path.{subst}
use denote.Enum.Bare.{same_true}
use Rattle.cl_syntax.specs.ExprTree.{ExprTree}
use Rattle.cl_forms.specs.contracts.keys.Key.{the_type}
use Rattle.cl_forms.specs.Datum.{Datum, word, offset}
use Rattle.cl_forms.specs.Keys.{Keyed, same_key, is_among, has_key, values_of, keyed_pairs}
use Rattle.cl_forms.specs.Naming.{name_in}
use Rattle.cl_forms.specs.declared.keys.Key.{Key}
use Rattle.cl_forms.specs.declared.keys.Key.TheVariants as key
use Rattle.cl_words.specs.declared.signatures.Signatures.{Signatures}
use Rattle.cl_expressions.specs.Scopes.{Names}
use Rattle.cl_application.specs.declared.declarations.DefaultDecl.{DefaultDecl}
use Rattle.cl_declare.specs.DialogShapes.{dialog_keys, query_keys, are_together}
use Rattle.cl_declare.specs.Dialogs.{parse_when, parse_else, no_condition, condition_with, condition_of, parse_query_keys}
use Rattle.cl_declare.specs.TypeShapes.{name_behind}
use Rattle.cl_declare.specs.declared.dialogs.Condition.{Condition}
use Rattle.cl_grammar.specs.Heads.{CallsNames}
use Rattle.cl_grammar.specs.Writes.{Writes}
use Rattle.cl_grammar.proofs.Endings.{Ends, gives, binds}
use Rattle.cl_grammar.proofs.Spelled.{false_true, some_same}
use Rattle.cl_grammar.proofs.Written.{expression_ends}
use Rattle.cl_text_grammar.specs.WritesDialogs.{WritesDialogKeys, no_key, its_command, its_pane, WritesQueryKeys, no_query_key, its_when, its_else}
use Rattle.cl_text_grammar.specs.WritesDialogs.{WritesCondition, always_shown, shown_when}
use Rattle.cl_text_grammar.proofs.CommandKeysWritten.{keyed, stands_once, DefaultRead}
use Rattle.cl_text_grammar.proofs.KeyWords.{key_word, IsPair, a_pair, ArePairs, no_pairs, more_pairs, StandApart, Keys, pairs_stand, name_there}

-- ---- one of two keys

one_of : (P : Key → Type 0) (a b k : Key) (s t : Bool) → same_key k a ≡ s → same_key k b ≡ t → (s || (t || false)) ≡ true → P a → P b → P k
one_of P a b k true t e f g i j = subst P (sym (same_true the_type tt k a e)) i
one_of P a b k false true e f g i j = subst P (sym (same_true the_type tt k b f)) j
one_of P a b k false false e f g i j = absurd (false_true g)

each_of : (a b : Key) (P : Key → Type 0) → P a → P b → (k : Key) → is_among (a ∷ b ∷ []) k ≡ true → P k
each_of a b P i j k e = one_of P a b k (same_key k a) (same_key k b) refl refl e i j

-- ---- the keys of a dialog

-- the command and the pane, as far as they are there, are these
pub record Fine (c p : Option (List ℕ)) (ks : List Keyed) : Type 0 where
  pub command : name_behind (values_of key.Command ks) ≡ Some c
  pub pane : name_behind (values_of key.Pane ks) ≡ Some p

-- keys that say this write these data
abbrev pub AllWritten : List Keyed → List Datum → Type 0
AllWritten ks ds = (c p : Option (List ℕ)) → Fine c p ks → WritesDialogKeys c p ds

module _ (h : ℕ) (v : Datum) (so_far ks : List Keyed) (ds : List Datum) (rest : AllWritten ks ds) where
  abbrev KeyWritten : Key → Type 0
  KeyWritten k = StandApart so_far (keyed k h v ∷ ks) → AllWritten (keyed k h v ∷ ks) (word (key_word k) h ∷ v ∷ ds)

  command_written : KeyWritten key.Command
  command_written a c p g =
      let no_other : values_of key.Command ks ≡ None = stands_once key.Command h v so_far ks refl a in
      name_there (λ o. WritesDialogKeys o p (word (codes ":command") h ∷ v ∷ ds)) v (name_in v) c refl g.command
      λ x e. its_command e (rest None p (record { command = ap name_behind no_other; pane = g.pane }))

  pane_written : KeyWritten key.Pane
  pane_written a c p g =
      let no_other : values_of key.Pane ks ≡ None = stands_once key.Pane h v so_far ks refl a in
      name_there (λ o. WritesDialogKeys c o (word (codes ":pane") h ∷ v ∷ ds)) v (name_in v) p refl g.pane
      λ x e. its_pane e (rest c None (record { command = g.command; pane = ap name_behind no_other }))

  key_written : (k : Key) → is_among dialog_keys k ≡ true → KeyWritten k
  key_written k i = each_of key.Command key.Pane KeyWritten command_written pane_written k i

pair_written : (d v : Datum) (k : Keyed) (so_far ks : List Keyed) (ds : List Datum) → IsPair dialog_keys k d v → AllWritten ks ds → StandApart so_far (k ∷ ks)
    → AllWritten (k ∷ ks) (d ∷ v ∷ ds)
pair_written d v k so_far ks ds (a_pair {k = j} {h} i) rest a = key_written h v so_far ks ds rest j i a

none_written : AllWritten [] []
none_written c p g =
    subst (λ o. WritesDialogKeys o p []) (some_same g.command) (subst (λ o. WritesDialogKeys None o []) (some_same g.pane) no_key)

keys_written : (so_far ks : List Keyed) (ds : List Datum) → ArePairs dialog_keys ks ds → StandApart so_far ks → AllWritten ks ds
keys_written so_far ks ds no_pairs a = none_written
keys_written so_far ks ds (more_pairs {k} {ks = js} {d} {v} {ds = es} i j) a = pair_written d v k so_far js es i (keys_written (so_far ++ k ∷ []) js es j a.1) a

-- the keys that are read of these data write them
pub dialog_keys_written : (ks : List Keyed) (ds : List Datum) → keyed_pairs dialog_keys [] ds ≡ Some ks → AllWritten ks ds
dialog_keys_written ks ds e =
    let k : Keys (ArePairs dialog_keys) [] ks ds = pairs_stand dialog_keys [] ks ds e in
    keys_written [] ks ds (subst (λ js. ArePairs dialog_keys js ds) (sym k.whole) k.stand) (subst (StandApart []) (sym k.whole) k.apart)

-- ---- the keys of a query

-- there is no third key beside two that differ
module _ (h l : ℕ) (d b : Datum) where
  abbrev NoThird : Key → Key → Key → Type 0
  NoThird j k m = has_key k (keyed j h d ∷ []) ≡ false → has_key m (keyed j h d ∷ keyed k l b ∷ []) ≡ false → ⊥

  no_third : (j k m : Key) → is_among query_keys j ≡ true → is_among query_keys k ≡ true → is_among query_keys m ≡ true → NoThird j k m
  no_third j k m i g f =
      each_of key.When key.Else (λ n. NoThird n k m)
      (each_of key.When key.Else (λ n. NoThird key.When n m) (λ a e. false_true (sym a))
      (each_of key.When key.Else (λ n. NoThird key.When key.Else n) (λ a e. false_true (sym e)) (λ a e. false_true (sym e)) m f) k g)
      (each_of key.When key.Else (λ n. NoThird key.Else n m)
      (each_of key.When key.Else (λ n. NoThird key.Else key.When n) (λ a e. false_true (sym e)) (λ a e. false_true (sym e)) m f)
      (λ a e. false_true (sym a)) k g)
      j i

condition_written : (c : Condition) (t : ExprTree) (v : DefaultDecl) (ds : List Datum) → c.when ≡ Some t → c.otherwise ≡ Some v → WritesQueryKeys (Some t) (Some v) ds
    → WritesCondition (condition_of c) ds
condition_written c t v ds e f i =
    subst (λ o. WritesCondition (condition_with o c.otherwise) ds) (sym e)
    (subst (λ o. WritesCondition (condition_with (Some t) o) ds) (sym f) (shown_when i))

-- when a query is shown, as it is read of a datum
record WhenRead (d : Datum) (before after : Condition) : Type 0 where
  expression : ExprTree
  is : after.when ≡ Some expression
  kept : after.otherwise ≡ before.otherwise
  written : Writes expression d

-- what stands for a query that is not shown, as it is read of a datum
record ElseRead (d : Datum) (before after : Condition) : Type 0 where
  kept : after.when ≡ before.when
  read : DefaultRead d after.otherwise

module _ (w : Signatures) (names : CallsNames w) (xs : Names) where
  when_ends : (d : Datum) (c : Condition) → Ends (WhenRead d c) (parse_when w xs (d ∷ []) c)
  when_ends d c = binds (expression_ends w names d xs) λ t i. gives (record { expression = t; is = refl; kept = refl; written = i })

  else_ends : (d : Datum) (c : Condition) → Ends (ElseRead d c) (parse_else w (d ∷ []) c)
  else_ends d c =
      binds {P = λ v. DefaultRead d (Some v)}
      (binds (expression_ends w names d []) λ t i. gives (record { value = t; is = refl; written = i })) λ v i. gives (record { kept = refl; read = i })

  -- what is read of the keys writes the data
  abbrev pub KeysEnd : List Keyed → List Datum → Type 0
  KeysEnd ks ds = Ends (λ c. WritesCondition (condition_of c) ds) (parse_query_keys w xs ks no_condition)

  module _ (h l : ℕ) (d b : Datum) where
    abbrev BothEnd : Key → Key → Type 0
    BothEnd j k =
        StandApart [] (keyed j h d ∷ keyed k l b ∷ []) → KeysEnd (keyed j h d ∷ keyed k l b ∷ []) (word (key_word j) h ∷ d ∷ word (key_word k) l ∷ b ∷ [])

    when_else : BothEnd key.When key.Else
    when_else a =
        binds (when_ends d no_condition) λ c i. binds (else_ends b c) λ e j.
        gives (condition_written e i.expression (record { value = j.read.value; at = offset b }) _ (j.kept ∙ i.is) j.read.is
        (its_when i.written (its_else j.read.written no_query_key)))

    else_when : BothEnd key.Else key.When
    else_when a =
        binds (else_ends d no_condition) λ c i. binds (when_ends b c) λ e j.
        gives (condition_written e j.expression (record { value = i.read.value; at = offset d }) _ j.is (j.kept ∙ i.read.is)
        (its_else i.read.written (its_when j.written no_query_key)))

    both_end : (j k : Key) → is_among query_keys j ≡ true → is_among query_keys k ≡ true → BothEnd j k
    both_end j k i g =
        each_of key.When key.Else (λ n. BothEnd n k)
        (each_of key.When key.Else (λ n. BothEnd key.When n) (λ a. absurd (false_true (sym a.1.0))) when_else k g)
        (each_of key.When key.Else (λ n. BothEnd key.Else n) else_when (λ a. absurd (false_true (sym a.1.0))) k g) j i

  third_ends : (h l : ℕ) (d b : Datum) (j k : Key) (q : Keyed) (x y : Datum) (ks : List Keyed) (ds : List Datum) → is_among query_keys j ≡ true
      → is_among query_keys k ≡ true → IsPair query_keys q x y → StandApart [] (keyed j h d ∷ keyed k l b ∷ q ∷ ks)
      → KeysEnd (keyed j h d ∷ keyed k l b ∷ q ∷ ks) ds
  third_ends h l d b j k q x y ks ds i g (a_pair {k = m} f) a = absurd (no_third h l d b j k m i g f a.1.0 a.1.1.0)

  two_end : (d v : Datum) (k : Keyed) (e b : Datum) (m : Keyed) (ks : List Keyed) (ds : List Datum) → IsPair query_keys k d v → IsPair query_keys m e b
      → ArePairs query_keys ks ds → StandApart [] (k ∷ m ∷ ks) → KeysEnd (k ∷ m ∷ ks) (d ∷ v ∷ e ∷ b ∷ ds)
  two_end d v k e b m ks ds (a_pair {k = j} {h} i) (a_pair {k = n} {h = l} g) no_pairs a = both_end h l v b j n i g a
  two_end d v k e b m ks ds (a_pair {k = j} {h} i) (a_pair {k = n} {h = l} g) (more_pairs {k = q} {ks = js} {d = x} {v = y} f rest) a =
      third_ends h l v b j n q x y js _ i g f a

  one_ends : (d v : Datum) (k : Keyed) (ks : List Keyed) (ds : List Datum) → IsPair query_keys k d v → ArePairs query_keys ks ds → StandApart [] (k ∷ ks)
      → are_together (Some (k ∷ ks)) ≡ true → KeysEnd (k ∷ ks) (d ∷ v ∷ ds)
  one_ends d v k ks ds i no_pairs a t = absurd (false_true t)
  one_ends d v k ks ds i (more_pairs {k = m} {ks = js} {d = e} {v = b} {ds = es} j rest) a t = two_end d v k e b m js es i j rest a

  pairs_end : (ks : List Keyed) (ds : List Datum) → ArePairs query_keys ks ds → StandApart [] ks → are_together (Some ks) ≡ true → KeysEnd ks ds
  pairs_end ks ds no_pairs a t = gives always_shown
  pairs_end ks ds (more_pairs {k} {ks = js} {d} {v} {ds = es} i j) a t = one_ends d v k js es i j a t

  -- the keys that are found in these data are read
  pub query_keys_end : (ks : List Keyed) (ds : List Datum) → keyed_pairs query_keys [] ds ≡ Some ks → are_together (Some ks) ≡ true → KeysEnd ks ds
  query_keys_end ks ds e t =
      let k : Keys (ArePairs query_keys) [] ks ds = pairs_stand query_keys [] ks ds e in
      pairs_end ks ds (subst (λ js. ArePairs query_keys js ds) (sym k.whole) k.stand) (subst (StandApart []) (sym k.whole) k.apart) t
