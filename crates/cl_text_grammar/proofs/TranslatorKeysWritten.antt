-- The keys of a translator write their data.
use Rattle.std.proofs.Common.{◌≡◌, ℕ, pos, negsuc, ◌<◌, nat_lt, Bool, true, false, if◌then◌else◌, List, [], ◌∷◌, ◌++◌, refl, sym, ap, ◌∙◌}
use Rattle.std.specs.Prelude.{Option, Some, None, unwrap_or, option_map, option_and_then, codes}
use Rattle.std.proofs.Math.Path.{subst}
use Rattle.std.proofs.lemmas.Bool.{ltb-true}
use Rattle.cl_syntax.specs.ExprTree.{ExprTree}
use Rattle.cl_forms.specs.Datum.{Datum, number, literal, word, quoted, stray, list}
use Rattle.cl_forms.specs.Keys.{Keyed, is_among, values_of, keyed_pairs}
use Rattle.cl_forms.specs.Naming.{name_in, some_if}
use Rattle.cl_forms.specs.Words.{is_name}
use Rattle.cl_forms.specs.declared.keys.Key.{Key}
use Rattle.cl_forms.specs.declared.keys.Key.TheVariants as key
use Rattle.cl_translators.specs.declared.declarations.GestureName.{GestureName}
use Rattle.cl_translators.specs.declared.declarations.GestureName.TheVariants as gesture
use Rattle.cl_words.specs.declared.signatures.Signatures.{Signatures}
use Rattle.cl_expressions.specs.Scopes.{Names}
use Rattle.cl_bodies.specs.TypeArguments.{text_behind}
use Rattle.cl_declare.specs.CommandTables.{table_or_global, note_tables}
use Rattle.cl_declare.specs.Translators.{Tester, parse_translator_keys}
use Rattle.cl_declare.specs.TranslatorShapes.{translator_keys, gesture_named, gesture_behind, priority_alone, priority_behind, keys_with, keys_said}
use Rattle.cl_declare.specs.TypeShapes.{described, name_alone, name_behind}
use Rattle.cl_declare.specs.declared.translator_shapes.TranslatorKeys.{TranslatorKeys}
use Rattle.cl_grammar.specs.Heads.{CallsNames}
use Rattle.cl_grammar.specs.Writes.{Writes}
use Rattle.cl_grammar.proofs.Endings.{Ends, gives, binds, ends_weaker}
use Rattle.cl_grammar.proofs.Spelled.{false_true, Finds, nothing, word_is, of_some, some_same, nothing_found}
use Rattle.cl_grammar.proofs.Written.{expression_ends}
use Rattle.cl_text_grammar.specs.WritesTranslators.{WritesGesture, select, describe, menu, edit, delete}
use Rattle.cl_text_grammar.specs.WritesTranslators.{WritesTranslatorKeys, no_key, its_table, its_gesture, its_priority, its_documentation, its_tester}
use Rattle.cl_text_grammar.proofs.CommandKeysWritten.{keyed, stands_once}
use Rattle.cl_text_grammar.proofs.FramesWritten.{any_ends}
use Rattle.cl_text_grammar.proofs.KeyWords.{key_word, IsPair, a_pair, ArePairs, no_pairs, more_pairs, StandApart, Keys, pairs_stand, name_there, text_there}

-- ---- a gesture or a priority that stands behind its key

-- what stands behind a key, where the key stands; None where it does not read so
abbrev pub behind_key : {A : Type 0} → (List Datum → Option A) → Option (List Datum) → Option (Option A)
behind_key read None = Some None
behind_key read (Some ds) = option_map (λ a. Some a) (read ds)

abbrev pub gesture_alone : List Datum → Option GestureName
gesture_alone ds = option_and_then gesture_named (name_alone ds)

there : {A : Type 0} (P : Option A → Type 0) (o x : Option A) → option_map (λ a. Some a) o ≡ Some x → ((a : A) → o ≡ Some a → P (Some a)) → P x
there P (Some a) x e h = subst P (some_same e) (h a refl)
there P None x e h = absurd (nothing_found e)

spelled_so : (g : GestureName) (x y : List ℕ) (at : ℕ) → WritesGesture g (word y at) → x ≡ y → WritesGesture g (word x at)
spelled_so g x y at i e = subst (λ z. WritesGesture g (word z at)) (sym e) i

gesture_words : (x : List ℕ) (at : ℕ) → Finds (λ g. WritesGesture g (word x at)) (gesture_named x)
gesture_words x at =
    word_is gesture.Select x (codes "select") (spelled_so gesture.Select x (codes "select") at select)
    (word_is gesture.Describe x (codes "describe") (spelled_so gesture.Describe x (codes "describe") at describe)
    (word_is gesture.Menu x (codes "menu") (spelled_so gesture.Menu x (codes "menu") at menu)
    (word_is gesture.Edit x (codes "edit") (spelled_so gesture.Edit x (codes "edit") at edit)
    (word_is gesture.Delete x (codes "delete") (spelled_so gesture.Delete x (codes "delete") at delete) nothing))))

gesture_word_there : (P : Option GestureName → Type 0) (x : List ℕ) (at : ℕ) (b : Bool) (g : Option GestureName)
    → option_map (λ a. Some a) (option_and_then gesture_named (some_if b x)) ≡ Some g → ((y : GestureName) → WritesGesture y (word x at) → P (Some y)) → P g
gesture_word_there P x at true g e h = there P (gesture_named x) g e λ y f. h y (of_some y (gesture_named x) f (gesture_words x at))
gesture_word_there P x at false g e h = absurd (nothing_found e)

gesture_there : (P : Option GestureName → Type 0) (d : Datum) (g : Option GestureName) → behind_key gesture_alone (Some (d ∷ [])) ≡ Some g
    → ((y : GestureName) → WritesGesture y d → P (Some y)) → P g
gesture_there P (word x at) g e h = gesture_word_there P x at (is_name x) g e h
gesture_there P (number z at) g e h = absurd (nothing_found e)
gesture_there P (literal s at) g e h = absurd (nothing_found e)
gesture_there P (quoted s at name_at) g e h = absurd (nothing_found e)
gesture_there P (stray at) g e h = absurd (nothing_found e)
gesture_there P (list es at) g e h = absurd (nothing_found e)

below_there : (P : Option ℕ → Type 0) (n : ℕ) (b : Bool) (p : Option ℕ) → nat_lt n 100 ≡ b → option_map (λ a. Some a) (if b then Some n else None) ≡ Some p
    → (n < 100 → P (Some n)) → P p
below_there P n true p e f h = subst P (some_same f) (h (ltb-true n 100 e))
below_there P n false p e f h = absurd (nothing_found f)

priority_there : (P : Option ℕ → Datum → Type 0) (d : Datum) (p : Option ℕ) → behind_key priority_alone (Some (d ∷ [])) ≡ Some p
    → ((n at : ℕ) → n < 100 → P (Some n) (number (pos n) at)) → P p d
priority_there P (number (pos n) at) p e h = below_there (λ o. P o (number (pos n) at)) n (nat_lt n 100) p refl e (h n at)
priority_there P (number (negsuc n) at) p e h = absurd (nothing_found e)
priority_there P (literal s at) p e h = absurd (nothing_found e)
priority_there P (word s at) p e h = absurd (nothing_found e)
priority_there P (quoted s at name_at) p e h = absurd (nothing_found e)
priority_there P (stray at) p e h = absurd (nothing_found e)
priority_there P (list es at) p e h = absurd (nothing_found e)

-- ---- what the keys say

-- the table, the gesture, the priority and the documentation, as far as they are there, are these
pub record Fine (c : Option (List ℕ)) (g : Option GestureName) (p : Option ℕ) (t : Option (List ℕ)) (ks : List Keyed) : Type 0 where
  pub table : name_behind (values_of key.CommandTable ks) ≡ Some c
  pub gesture : behind_key gesture_alone (values_of key.Gesture ks) ≡ Some g
  pub priority : behind_key priority_alone (values_of key.Priority ks) ≡ Some p
  pub documentation : text_behind (values_of key.Documentation ks) ≡ Some t

-- what stands behind a key, or this where the key does not stand
record Said {A : Type 0} (read : List Datum → Option A) (otherwise : A) (o : Option (List Datum)) (a : A) : Type 0 where
  given : Option A
  behind : behind_key read o ≡ Some given
  is : unwrap_or given otherwise ≡ a

gesture_said : (o : Option (List Datum)) (g : GestureName) → gesture_behind o ≡ Some g → Said gesture_alone gesture.Select o g
gesture_said None g e = record { given = None; behind = refl; is = some_same e }
gesture_said (Some ds) g e = record { given = Some g; behind = ap (option_map (λ a. Some a)) e; is = refl }

priority_said : (o : Option (List Datum)) (p : ℕ) → priority_behind o ≡ Some p → Said priority_alone 0 o p
priority_said None p e = record { given = None; behind = refl; is = some_same e }
priority_said (Some ds) p e = record { given = Some p; behind = ap (option_map (λ a. Some a)) e; is = refl }

-- what keys say that give this, of a translator of this name
abbrev pub keys_of : List ℕ → Option (List ℕ) → Option GestureName → Option ℕ → Option (List ℕ) → TranslatorKeys
keys_of x c g p t = record {
  table = table_or_global c;
  gesture = unwrap_or g gesture.Select;
  priority = unwrap_or p 0;
  documentation = described x t;
}

pub record KeysSaid (x : List ℕ) (ks : List Keyed) (k : TranslatorKeys) : Type 0 where
  pub table : Option (List ℕ)
  pub gesture : Option GestureName
  pub priority : Option ℕ
  pub documentation : Option (List ℕ)
  pub fine : Fine table gesture priority documentation ks
  pub is : keys_of x table gesture priority documentation ≡ k

same_keys : (c x : List ℕ) (g h : GestureName) (p q : ℕ) → g ≡ h → p ≡ q
    → ◌≡◌ {A = TranslatorKeys} (record { table = c; gesture = g; priority = p; documentation = x })
    (record { table = c; gesture = h; priority = q; documentation = x })
same_keys c x g h p q e f = λ i. record { table = c; gesture = e i; priority = f i; documentation = x }

module _ (x : List ℕ) (ks : List Keyed) (k : TranslatorKeys) where
  said_with : (c : Option (Option (List ℕ))) (g : Option GestureName) (p : Option ℕ) (t : Option (Option (List ℕ)))
      → name_behind (values_of key.CommandTable ks) ≡ c → gesture_behind (values_of key.Gesture ks) ≡ g → priority_behind (values_of key.Priority ks) ≡ p
      → text_behind (values_of key.Documentation ks) ≡ t → keys_with x c g p t ≡ Some k → KeysSaid x ks k
  said_with (Some c) (Some g) (Some p) (Some t) e1 e2 e3 e4 e =
      let i : Said gesture_alone gesture.Select (values_of key.Gesture ks) g = gesture_said (values_of key.Gesture ks) g e2 in
      let j : Said priority_alone 0 (values_of key.Priority ks) p = priority_said (values_of key.Priority ks) p e3 in
      record {
        table = c;
        gesture = i.given;
        priority = j.given;
        documentation = t;
        fine = record { table = e1; gesture = i.behind; priority = j.behind; documentation = e4 };
        is = same_keys (table_or_global c) (described x t) (unwrap_or i.given gesture.Select) g (unwrap_or j.given 0) p i.is j.is ∙ some_same e;
      }
  said_with (Some c) (Some g) (Some p) None e1 e2 e3 e4 e = absurd (nothing_found e)
  said_with (Some c) (Some g) None t e1 e2 e3 e4 e = absurd (nothing_found e)
  said_with (Some c) None p t e1 e2 e3 e4 e = absurd (nothing_found e)
  said_with None g p t e1 e2 e3 e4 e = absurd (nothing_found e)

  pub said : keys_said x ks ≡ Some k → KeysSaid x ks k
  said e =
      said_with (name_behind (values_of key.CommandTable ks)) (gesture_behind (values_of key.Gesture ks)) (priority_behind (values_of key.Priority ks))
      (text_behind (values_of key.Documentation ks)) refl refl refl refl e

-- ---- all keys

-- the tester, where one more may be given
abbrev with_tester : Tester → Option ExprTree → Tester
with_tester i None = i
with_tester i (Some e) = Some e

pub tester_alone : (o : Option ExprTree) → with_tester None o ≡ o
tester_alone None = refl
tester_alone (Some e) = refl

-- the tester that is read of a datum
record TesterRead (d : Datum) (i : Tester) : Type 0 where
  expression : ExprTree
  is : i ≡ Some expression
  written : Writes expression d

-- the tester that is read of the keys, and what is written so
pub record Read (c : Option (List ℕ)) (g : Option GestureName) (p : Option ℕ) (t : Option (List ℕ)) (ks : List Keyed) (ds : List Datum) (i more : Tester) : Type 0
  where
    pub taken : Option ExprTree
    pub none_taken : values_of key.Tester ks ≡ None → taken ≡ None
    pub added : more ≡ with_tester i taken
    pub written : WritesTranslatorKeys c g p t taken ds

-- the tester sees these variables
module _ (w : Signatures) (names : CallsNames w) (xs : Names) where
  -- whatever stood before, all keys are read
  abbrev pub AllRead : List Keyed → List Datum → Type 0
  AllRead ks ds =
      (c : Option (List ℕ)) (g : Option GestureName) (p : Option ℕ) (t : Option (List ℕ)) (i : Tester) → Fine c g p t ks
      → Ends (Read c g p t ks ds i) (parse_translator_keys w xs ks i)

  module _ (h : ℕ) (v : Datum) (so_far ks : List Keyed) (ds : List Datum) (rest : AllRead ks ds) where
    abbrev KeyEnds : Key → Type 0
    KeyEnds k = StandApart so_far (keyed k h v ∷ ks) → AllRead (keyed k h v ∷ ks) (word (key_word k) h ∷ v ∷ ds)

    -- the rest is read, and this key with its value writes more
    writes_more : {c b : Option (List ℕ)} {g f : Option GestureName} {p q : Option ℕ} {t s : Option (List ℕ)} (k : Key) (i : Tester)
        → (values_of key.Tester (keyed k h v ∷ ks) ≡ None → values_of key.Tester ks ≡ None)
        → ((o : Option ExprTree) → WritesTranslatorKeys b f q s o ds → WritesTranslatorKeys c g p t o (word (key_word k) h ∷ v ∷ ds))
        → Ends (Read b f q s ks ds i) (parse_translator_keys w xs ks i)
        → Ends (Read c g p t (keyed k h v ∷ ks) (word (key_word k) h ∷ v ∷ ds) i) (parse_translator_keys w xs ks i)
    writes_more k i n more r =
        ends_weaker (λ m r. record { taken = r.taken; none_taken = λ e. r.none_taken (n e); added = r.added; written = more r.taken r.written }) r

    table_ends : KeyEnds key.CommandTable
    table_ends a c g p t i f =
        let no_other : values_of key.CommandTable ks ≡ None = stands_once key.CommandTable h v so_far ks refl a in
        binds {P = λ j. j ≡ i} (binds (any_ends (note_tables w (v ∷ []))) λ u k. gives refl) λ j k.
        subst (λ j. Ends (Read c g p t (keyed key.CommandTable h v ∷ ks) (word (codes ":command-table") h ∷ v ∷ ds) i) (parse_translator_keys w xs ks j)) (sym k)
        (writes_more key.CommandTable i (λ e. e)
        (λ o r. name_there (λ b. WritesTranslatorKeys b g p t o (word (codes ":command-table") h ∷ v ∷ ds)) v (name_in v) c refl f.table λ y e. its_table e r)
        (rest None g p t i
        (record { table = ap name_behind no_other; gesture = f.gesture; priority = f.priority; documentation = f.documentation })))

    gesture_ends : KeyEnds key.Gesture
    gesture_ends a c g p t i f =
        let no_other : values_of key.Gesture ks ≡ None = stands_once key.Gesture h v so_far ks refl a in
        record {
          ends = (writes_more key.Gesture i (λ e. e)
              (λ o r. gesture_there (λ b. WritesTranslatorKeys c b p t o (word (codes ":gesture") h ∷ v ∷ ds)) v g f.gesture λ y e. its_gesture e r)
              (rest c None p t i
              (record { table = f.table; gesture = ap (behind_key gesture_alone) no_other; priority = f.priority; documentation = f.documentation }))).ends;
        }

    priority_ends : KeyEnds key.Priority
    priority_ends a c g p t i f =
        let no_other : values_of key.Priority ks ≡ None = stands_once key.Priority h v so_far ks refl a in
        record {
          ends = (writes_more key.Priority i (λ e. e)
              (λ o r. priority_there (λ b d. WritesTranslatorKeys c g b t o (word (codes ":priority") h ∷ d ∷ ds)) v p f.priority λ n at e. its_priority e r)
              (rest c g None t i
              (record { table = f.table; gesture = f.gesture; priority = ap (behind_key priority_alone) no_other; documentation = f.documentation }))).ends;
        }

    documentation_ends : KeyEnds key.Documentation
    documentation_ends a c g p t i f =
        let no_other : values_of key.Documentation ks ≡ None = stands_once key.Documentation h v so_far ks refl a in
        record {
          ends = (writes_more key.Documentation i (λ e. e)
              (λ o r. text_there (λ b d. WritesTranslatorKeys c g p b o (word (codes ":documentation") h ∷ d ∷ ds)) v t f.documentation
              λ s at. its_documentation r)
              (rest c g p None i (record { table = f.table; gesture = f.gesture; priority = f.priority; documentation = ap text_behind no_other }))).ends;
        }

    tester_ends : KeyEnds key.Tester
    tester_ends a c g p t i f =
        let no_other : values_of key.Tester ks ≡ None = stands_once key.Tester h v so_far ks refl a in
        binds {P = TesterRead v} (binds (expression_ends w names v xs) λ e k. gives (record { expression = e; is = refl; written = k })) λ j k.
        ends_weaker
        (λ m r. record {
          taken = Some k.expression;
          none_taken = λ e. absurd (nothing_found (sym e));
          added = r.added ∙ (ap (with_tester j) (r.none_taken no_other) ∙ k.is);
          written = its_tester k.written (subst (λ o. WritesTranslatorKeys c g p t o ds) (r.none_taken no_other) r.written);
        })
        (rest c g p t j (record { table = f.table; gesture = f.gesture; priority = f.priority; documentation = f.documentation }))

    key_ends : (k : Key) → is_among translator_keys k ≡ true → KeyEnds k
    key_ends key.CommandTable i a = table_ends a
    key_ends key.Gesture i a = gesture_ends a
    key_ends key.Priority i a = priority_ends a
    key_ends key.Documentation i a = documentation_ends a
    key_ends key.Tester i a = tester_ends a
    key_ends key.Size i a = absurd (false_true i)
    key_ends key.Slots i a = absurd (false_true i)
    key_ends key.Panes i a = absurd (false_true i)
    key_ends key.Name i a = absurd (false_true i)
    key_ends key.Keystroke i a = absurd (false_true i)
    key_ends key.InheritFrom i a = absurd (false_true i)
    key_ends key.Satisfies i a = absurd (false_true i)
    key_ends key.Description i a = absurd (false_true i)
    key_ends key.Separator i a = absurd (false_true i)
    key_ends key.SingleBox i a = absurd (false_true i)
    key_ends key.Default i a = absurd (false_true i)
    key_ends key.Prompt i a = absurd (false_true i)
    key_ends key.UniqueId i a = absurd (false_true i)
    key_ends key.CacheValue i a = absurd (false_true i)
    key_ends key.Command i a = absurd (false_true i)
    key_ends key.Pane i a = absurd (false_true i)
    key_ends key.When i a = absurd (false_true i)
    key_ends key.Else i a = absurd (false_true i)

  pair_ends : (d v : Datum) (k : Keyed) (so_far ks : List Keyed) (ds : List Datum) → IsPair translator_keys k d v → AllRead ks ds → StandApart so_far (k ∷ ks)
      → AllRead (k ∷ ks) (d ∷ v ∷ ds)
  pair_ends d v k so_far ks ds (a_pair {k = j} {h} i) rest a = key_ends h v so_far ks ds rest j i a

  nothing_read : AllRead [] []
  nothing_read c g p t i f =
      gives (record {
        taken = None;
        none_taken = λ e. refl;
        added = refl;
        written = subst (λ o. WritesTranslatorKeys o g p t None []) (some_same f.table)
            (subst (λ o. WritesTranslatorKeys None o p t None []) (some_same f.gesture)
            (subst (λ o. WritesTranslatorKeys None None o t None []) (some_same f.priority)
            (subst (λ o. WritesTranslatorKeys None None None o None []) (some_same f.documentation) no_key)));
      })

  pairs_end : (so_far ks : List Keyed) (ds : List Datum) → ArePairs translator_keys ks ds → StandApart so_far ks → AllRead ks ds
  pairs_end so_far ks ds no_pairs a = nothing_read
  pairs_end so_far ks ds (more_pairs {k} {ks = js} {d} {v} {ds = es} i j) a = pair_ends d v k so_far js es i (pairs_end (so_far ++ k ∷ []) js es j a.1) a

  -- the keys that are found in these data are read
  pub keys_end : (ks : List Keyed) (ds : List Datum) → keyed_pairs translator_keys [] ds ≡ Some ks → AllRead ks ds
  keys_end ks ds e =
      let k : Keys (ArePairs translator_keys) [] ks ds = pairs_stand translator_keys [] ks ds e in
      pairs_end [] ks ds (subst (λ js. ArePairs translator_keys js ds) (sym k.whole) k.stand) (subst (StandApart []) (sym k.whole) k.apart)
