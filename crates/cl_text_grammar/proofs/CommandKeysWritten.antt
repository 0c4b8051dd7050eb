-- The keys of a command and of an argument write their data.
use Rattle.std.proofs.Common.{◌≡◌, ℕ, true, List, [], ◌∷◌, ◌++◌, refl, sym, ap}
use Rattle.std.specs.Prelude.{Option, Some, None, codes}
use Rattle.std.proofs.Math.Path.{subst}
use Rattle.cl_syntax.specs.ExprTree.{ExprTree}
use Rattle.cl_forms.specs.Datum.{Datum, number, literal, word, quoted, stray, list, none, item, in_order, offset}
use Rattle.cl_forms.specs.Keys.{Keyed, same_key, is_among, values_of, keyed_pairs}
use Rattle.cl_forms.specs.Naming.{name_in}
use Rattle.cl_forms.specs.declared.keys.Key.{Key}
use Rattle.cl_forms.specs.declared.keys.Key.TheVariants as key
use Rattle.cl_bodies.specs.TypeArguments.{text_behind}
use Rattle.cl_application.specs.declared.declarations.DefaultDecl.{DefaultDecl}
use Rattle.cl_declare.specs.CommandShapes.{command_keys, head_name, head_keys, given_or_made, shape_with, command_shape, argument_keys}
use Rattle.cl_declare.specs.CommandTables.{table_or_global}
use Rattle.cl_declare.specs.TypeShapes.{name_behind}
use Rattle.cl_declare.specs.declared.command_shapes.CommandShape.{CommandShape}
use Rattle.cl_grammar.specs.Writes.{Writes}
use Rattle.cl_grammar.proofs.Spelled.{false_true, some_same, nothing_found}
use Rattle.cl_text_grammar.specs.WritesCommands.{WritesCommandKeys, no_key, its_table, its_line_name, its_keystroke, WritesCommandHead, alone, with_its_keys}
use Rattle.cl_text_grammar.specs.WritesCommands.{WritesArgumentKeys, no_argument_key, its_default, its_prompt}
use Rattle.cl_text_grammar.proofs.KeyWords.{key_word, IsPair, a_pair, ArePairs, no_pairs, more_pairs, StandApart, Keys, pairs_stand, has_last, stood_before}
use Rattle.cl_text_grammar.proofs.KeyWords.{name_there, text_there}

abbrev pub keyed : Key → ℕ → Datum → Keyed
keyed k h v = record { key = k; at = h; values = v ∷ [] }

-- a key that stands here does not stand again
pub stands_once : (k : Key) (h : ℕ) (v : Datum) (so_far ks : List Keyed) → same_key k k ≡ true → StandApart so_far (keyed k h v ∷ ks) → values_of k ks ≡ None
stands_once k h v so_far ks e a = stood_before k (so_far ++ keyed k h v ∷ []) ks a.1 (has_last k so_far (keyed k h v) e)

-- ---- the head of a command

-- the table, the command-line name and the keystroke, as far as they are there, are these
pub record Fine (c t k : Option (List ℕ)) (ks : List Keyed) : Type 0 where
  pub table : name_behind (values_of key.CommandTable ks) ≡ Some c
  pub line_name : text_behind (values_of key.Name ks) ≡ Some t
  pub keystroke : name_behind (values_of key.Keystroke ks) ≡ Some k

-- keys that say this write these data
abbrev AllWritten : List Keyed → List Datum → Type 0
AllWritten ks ds = (c t k : Option (List ℕ)) → Fine c t k ks → WritesCommandKeys c t k ds

module _ (h : ℕ) (v : Datum) (so_far ks : List Keyed) (ds : List Datum) (rest : AllWritten ks ds) where
  abbrev KeyWritten : Key → Type 0
  KeyWritten k = StandApart so_far (keyed k h v ∷ ks) → AllWritten (keyed k h v ∷ ks) (word (key_word k) h ∷ v ∷ ds)

  table_written : KeyWritten key.CommandTable
  table_written a c t k g =
      let no_other : values_of key.CommandTable ks ≡ None = stands_once key.CommandTable h v so_far ks refl a in
      name_there (λ o. WritesCommandKeys o t k (word (codes ":command-table") h ∷ v ∷ ds)) v (name_in v) c refl g.table
      λ x e. its_table e (rest None t k (record { table = ap name_behind no_other; line_name = g.line_name; keystroke = g.keystroke }))

  line_name_written : KeyWritten key.Name
  line_name_written a c t k g =
      let no_other : values_of key.Name ks ≡ None = stands_once key.Name h v so_far ks refl a in
      text_there (λ o d. WritesCommandKeys c o k (word (codes ":name") h ∷ d ∷ ds)) v t g.line_name
      λ s at. its_line_name (rest c None k (record { table = g.table; line_name = ap text_behind no_other; keystroke = g.keystroke }))

  keystroke_written : KeyWritten key.Keystroke
  keystroke_written a c t k g =
      let no_other : values_of key.Keystroke ks ≡ None = stands_once key.Keystroke h v so_far ks refl a in
      name_there (λ o. WritesCommandKeys c t o (word (codes ":keystroke") h ∷ v ∷ ds)) v (name_in v) k refl g.keystroke
      λ x e. its_keystroke e (rest c t None (record { table = g.table; line_name = g.line_name; keystroke = ap name_behind no_other }))

  key_written : (k : Key) → is_among command_keys k ≡ true → KeyWritten k
  key_written key.CommandTable i a = table_written a
  key_written key.Name i a = line_name_written a
  key_written key.Keystroke i a = keystroke_written a
  key_written key.Size i a = absurd (false_true i)
  key_written key.Slots i a = absurd (false_true i)
  key_written key.Panes i a = absurd (false_true i)
  key_written key.InheritFrom i a = absurd (false_true i)
  key_written key.Satisfies i a = absurd (false_true i)
  key_written key.Description i a = absurd (false_true i)
  key_written key.Separator i a = absurd (false_true i)
  key_written key.SingleBox i a = absurd (false_true i)
  key_written key.Default i a = absurd (false_true i)
  key_written key.Prompt i a = absurd (false_true i)
  key_written key.Gesture i a = absurd (false_true i)
  key_written key.Priority i a = absurd (false_true i)
  key_written key.Documentation i a = absurd (false_true i)
  key_written key.Tester i a = absurd (false_true i)
  key_written key.UniqueId i a = absurd (false_true i)
  key_written key.CacheValue i a = absurd (false_true i)
  key_written key.Command i a = absurd (false_true i)
  key_written key.Pane i a = absurd (false_true i)
  key_written key.When i a = absurd (false_true i)
  key_written key.Else i a = absurd (false_true i)

pair_written : (d v : Datum) (k : Keyed) (so_far ks : List Keyed) (ds : List Datum) → IsPair command_keys k d v → AllWritten ks ds → StandApart so_far (k ∷ ks)
    → AllWritten (k ∷ ks) (d ∷ v ∷ ds)
pair_written d v k so_far ks ds (a_pair {k = j} {h} i) rest a = key_written h v so_far ks ds rest j i a

none_written : AllWritten [] []
none_written c t k g =
    subst (λ o. WritesCommandKeys o t k []) (some_same g.table)
    (subst (λ o. WritesCommandKeys None o k []) (some_same g.line_name) (subst (λ o. WritesCommandKeys None None o []) (some_same g.keystroke) no_key))

keys_written : (so_far ks : List Keyed) (ds : List Datum) → ArePairs command_keys ks ds → StandApart so_far ks → AllWritten ks ds
keys_written so_far ks ds no_pairs a = none_written
keys_written so_far ks ds (more_pairs {k} {ks = js} {d} {v} {ds = es} i j) a = pair_written d v k so_far js es i (keys_written (so_far ++ k ∷ []) js es j a.1) a

-- the keys that are read of these data write them
read_keys_written : (ks : List Keyed) (ds : List Datum) → keyed_pairs command_keys [] ds ≡ Some ks → AllWritten ks ds
read_keys_written ks ds e =
    let k : Keys (ArePairs command_keys) [] ks ds = pairs_stand command_keys [] ks ds e in
    keys_written [] ks ds (subst (λ js. ArePairs command_keys js ds) (sym k.whole) k.stand) (subst (StandApart []) (sym k.whole) k.apart)

pub head_written : (n : Datum) (x : List ℕ) (ks : List Keyed) (c t k : Option (List ℕ)) → head_name n ≡ Some x → head_keys n ≡ Some ks → Fine c t k ks
    → WritesCommandHead x c t k n
head_written (list (item n ds) at) x ks c t k e f g = with_its_keys e (read_keys_written ks (in_order ds) f c t k g)
head_written (list none at) x ks c t k e f g = absurd (nothing_found e)
head_written (word s at) x ks c t k e f g =
    let i : Fine c t k [] = subst (Fine c t k) (sym (some_same f)) g in
    subst (λ o. WritesCommandHead x o t k (word s at)) (some_same i.table)
    (subst (λ o. WritesCommandHead x None o k (word s at)) (some_same i.line_name)
    (subst (λ o. WritesCommandHead x None None o (word s at)) (some_same i.keystroke) (alone e)))
head_written (number z at) x ks c t k e f g = absurd (nothing_found e)
head_written (literal s at) x ks c t k e f g = absurd (nothing_found e)
head_written (quoted s at name_at) x ks c t k e f g = absurd (nothing_found e)
head_written (stray at) x ks c t k e f g = absurd (nothing_found e)

-- what is given by the name and the keys
pub record Shaped (n : Datum) (ks : List Keyed) (s : CommandShape) : Type 0 where
  pub table : Option (List ℕ)
  pub line_name : Option (List ℕ)
  pub name : head_name n ≡ Some s.name
  pub fine : Fine table line_name s.keystroke ks
  pub tabled : table_or_global table ≡ s.table
  pub lined : given_or_made line_name s.name ≡ s.line_name

shape_keyed : (n : Datum) (ks : List Keyed) (s : CommandShape) (x : List ℕ) (c t k : Option (Option (List ℕ))) → head_name n ≡ Some x
    → name_behind (values_of key.CommandTable ks) ≡ c → text_behind (values_of key.Name ks) ≡ t → name_behind (values_of key.Keystroke ks) ≡ k
    → shape_with x c t k ≡ Some s → Shaped n ks s
shape_keyed n ks s x (Some c) (Some t) (Some k) e1 e2 e3 e4 e =
    subst (Shaped n ks) (some_same e)
    (record { table = c; line_name = t; name = e1; fine = record { table = e2; line_name = e3; keystroke = e4 }; tabled = refl; lined = refl })
shape_keyed n ks s x (Some c) (Some t) None e1 e2 e3 e4 e = absurd (nothing_found e)
shape_keyed n ks s x (Some c) None k e1 e2 e3 e4 e = absurd (nothing_found e)
shape_keyed n ks s x None t k e1 e2 e3 e4 e = absurd (nothing_found e)

pub shaped : (n : Datum) (ks : List Keyed) (s : CommandShape) (x : Option (List ℕ)) → head_name n ≡ x → command_shape x ks ≡ Some s → Shaped n ks s
shaped n ks s (Some x) f e =
    shape_keyed n ks s x (name_behind (values_of key.CommandTable ks)) (text_behind (values_of key.Name ks)) (name_behind (values_of key.Keystroke ks)) f refl
    refl refl e
shaped n ks s None f e = absurd (nothing_found e)

-- ---- the keys of an argument

-- the default that is read of a datum
pub record DefaultRead (d : Datum) (v : Option DefaultDecl) : Type 0 where
  pub value : ExprTree
  pub is : v ≡ Some (record { value = value; at = offset d })
  pub written : Writes value d

-- the default that is read of what stands behind its key
abbrev pub DefaultOf : Option (List Datum) → Option DefaultDecl → Type 0
DefaultOf None v = v ≡ None
DefaultOf (Some []) v = v ≡ None
DefaultOf (Some (d ∷ ds)) v = DefaultRead d v

abbrev pub ArgumentKeysWritten : List Keyed → List Datum → Type 0
ArgumentKeysWritten ks ds =
    (v : Option DefaultDecl) (p : Option (List ℕ)) → DefaultOf (values_of key.Default ks) v → text_behind (values_of key.Prompt ks) ≡ Some p
    → WritesArgumentKeys v p ds

module _ (h : ℕ) (v : Datum) (so_far ks : List Keyed) (ds : List Datum) (rest : ArgumentKeysWritten ks ds) where
  abbrev ArgumentKeyWritten : Key → Type 0
  ArgumentKeyWritten k = StandApart so_far (keyed k h v ∷ ks) → ArgumentKeysWritten (keyed k h v ∷ ks) (word (key_word k) h ∷ v ∷ ds)

  default_written : ArgumentKeyWritten key.Default
  default_written a o p i g =
      let no_other : values_of key.Default ks ≡ None = stands_once key.Default h v so_far ks refl a in
      subst (λ o. WritesArgumentKeys o p (word (codes ":default") h ∷ v ∷ ds)) (sym i.is)
      (its_default i.written (rest None p (subst (λ r. DefaultOf r None) (sym no_other) refl) g))

  prompt_written : ArgumentKeyWritten key.Prompt
  prompt_written a o p i g =
      let no_other : values_of key.Prompt ks ≡ None = stands_once key.Prompt h v so_far ks refl a in
      text_there (λ q d. WritesArgumentKeys o q (word (codes ":prompt") h ∷ d ∷ ds)) v p g λ s at. its_prompt (rest o None i (ap text_behind no_other))

  argument_key_written : (k : Key) → is_among argument_keys k ≡ true → ArgumentKeyWritten k
  argument_key_written key.Default i a = default_written a
  argument_key_written key.Prompt i a = prompt_written a
  argument_key_written key.Size i a = absurd (false_true i)
  argument_key_written key.Slots i a = absurd (false_true i)
  argument_key_written key.Panes i a = absurd (false_true i)
  argument_key_written key.CommandTable i a = absurd (false_true i)
  argument_key_written key.Name i a = absurd (false_true i)
  argument_key_written key.Keystroke i a = absurd (false_true i)
  argument_key_written key.InheritFrom i a = absurd (false_true i)
  argument_key_written key.Satisfies i a = absurd (false_true i)
  argument_key_written key.Description i a = absurd (false_true i)
  argument_key_written key.Separator i a = absurd (false_true i)
  argument_key_written key.SingleBox i a = absurd (false_true i)
  argument_key_written key.Gesture i a = absurd (false_true i)
  argument_key_written key.Priority i a = absurd (false_true i)
  argument_key_written key.Documentation i a = absurd (false_true i)
  argument_key_written key.Tester i a = absurd (false_true i)
  argument_key_written key.UniqueId i a = absurd (false_true i)
  argument_key_written key.CacheValue i a = absurd (false_true i)
  argument_key_written key.Command i a = absurd (false_true i)
  argument_key_written key.Pane i a = absurd (false_true i)
  argument_key_written key.When i a = absurd (false_true i)
  argument_key_written key.Else i a = absurd (false_true i)

argument_pair_written : (d v : Datum) (k : Keyed) (so_far ks : List Keyed) (ds : List Datum) → IsPair argument_keys k d v → ArgumentKeysWritten ks ds
    → StandApart so_far (k ∷ ks) → ArgumentKeysWritten (k ∷ ks) (d ∷ v ∷ ds)
argument_pair_written d v k so_far ks ds (a_pair {k = j} {h} i) rest a = argument_key_written h v so_far ks ds rest j i a

no_argument_keys : ArgumentKeysWritten [] []
no_argument_keys v p i g =
    subst (λ o. WritesArgumentKeys o p []) (sym i) (subst (λ o. WritesArgumentKeys None o []) (some_same g) no_argument_key)

argument_keys_written : (so_far ks : List Keyed) (ds : List Datum) → ArePairs argument_keys ks ds → StandApart so_far ks → ArgumentKeysWritten ks ds
argument_keys_written so_far ks ds no_pairs a = no_argument_keys
argument_keys_written so_far ks ds (more_pairs {k} {ks = js} {d} {v} {ds = es} i j) a =
    argument_pair_written d v k so_far js es i (argument_keys_written (so_far ++ k ∷ []) js es j a.1) a

pub read_argument_keys_written : (ks : List Keyed) (ds : List Datum) → keyed_pairs argument_keys [] ds ≡ Some ks → ArgumentKeysWritten ks ds
read_argument_keys_written ks ds e =
    let k : Keys (ArePairs argument_keys) [] ks ds = pairs_stand argument_keys [] ks ds e in
    argument_keys_written [] ks ds (subst (λ js. ArePairs argument_keys js ds) (sym k.whole) k.stand) (subst (StandApart []) (sym k.whole) k.apart)
