-- The keys of a form, in sections or in pairs: each stands as its word, and none stands twice.
use Rattle.std.proofs.Common.{◌≡◌, ℕ, Bool, true, false, if◌then◌else◌, List, [], ◌∷◌, ◌++◌, refl, sym, ap, ◌∙◌}
use Rattle.std.specs.Prelude.{Option, Some, None, is_some, option_and_then, codes}
use Rattle.std.proofs.Math.Path.{subst}
use denote.Enum.Bare.{same_true}
use Rattle.cl_forms.specs.contracts.keys.Key.{the_type}
use Rattle.cl_forms.specs.Datum.{Datum, Datums, number, literal, word, quoted, stray, list, none, item, in_order}
use Rattle.cl_forms.specs.Keys.{Keyed, section_key, value_key, translator_key, update_key, dialog_key, key_or, key_named, same_key, is_among}
use Rattle.cl_forms.specs.Keys.{allowed, key_in, values_of, has_key, keyed_as, with_keyed, section_in, keyed_sections, pair_in, keyed_pairs}
use Rattle.cl_forms.specs.Naming.{name_in}
use Rattle.cl_forms.specs.declared.keys.Key.{Key}
use Rattle.cl_forms.specs.declared.keys.Key.TheVariants as key
use Rattle.cl_bodies.specs.TypeArguments.{text_behind}
use Rattle.cl_declare.specs.TypeShapes.{found}
use Rattle.cl_grammar.proofs.Spelled.{false_true, Finds, nothing, word_is, of_some, some_same, nothing_found}

abbrev pub key_word : Key → List ℕ
key_word key.Size = codes ":size"
key_word key.Slots = codes ":slots"
key_word key.Panes = codes ":panes"
key_word key.CommandTable = codes ":command-table"
key_word key.Name = codes ":name"
key_word key.Keystroke = codes ":keystroke"
key_word key.InheritFrom = codes ":inherit-from"
key_word key.Satisfies = codes ":satisfies"
key_word key.Description = codes ":description"
key_word key.Separator = codes ":separator"
key_word key.SingleBox = codes ":single-box"
key_word key.Default = codes ":default"
key_word key.Prompt = codes ":prompt"
key_word key.Gesture = codes ":gesture"
key_word key.Priority = codes ":priority"
key_word key.Documentation = codes ":documentation"
key_word key.Tester = codes ":tester"
key_word key.UniqueId = codes ":unique-id"
key_word key.CacheValue = codes ":cache-value"
key_word key.Command = codes ":command"
key_word key.Pane = codes ":pane"
key_word key.When = codes ":when"
key_word key.Else = codes ":else"

section_words : (x : List ℕ) → Finds (λ k. x ≡ key_word k) (section_key x)
section_words x =
    word_is key.Size x (codes ":size") (λ e. e) (word_is key.Slots x (codes ":slots") (λ e. e) (word_is key.Panes x (codes ":panes") (λ e. e)
    (word_is key.CommandTable x (codes ":command-table") (λ e. e) nothing)))

value_words : (x : List ℕ) → Finds (λ k. x ≡ key_word k) (value_key x)
value_words x =
    word_is key.Name x (codes ":name") (λ e. e) (word_is key.Keystroke x (codes ":keystroke") (λ e. e)
    (word_is key.InheritFrom x (codes ":inherit-from") (λ e. e) (word_is key.Satisfies x (codes ":satisfies") (λ e. e)
    (word_is key.Description x (codes ":description") (λ e. e) (word_is key.Separator x (codes ":separator") (λ e. e)
    (word_is key.SingleBox x (codes ":single-box") (λ e. e) (word_is key.Default x (codes ":default") (λ e. e)
    (word_is key.Prompt x (codes ":prompt") (λ e. e) nothing))))))))

translator_words : (x : List ℕ) → Finds (λ k. x ≡ key_word k) (translator_key x)
translator_words x =
    word_is key.Gesture x (codes ":gesture") (λ e. e) (word_is key.Priority x (codes ":priority") (λ e. e)
    (word_is key.Documentation x (codes ":documentation") (λ e. e) (word_is key.Tester x (codes ":tester") (λ e. e) nothing)))

update_words : (x : List ℕ) → Finds (λ k. x ≡ key_word k) (update_key x)
update_words x = word_is key.UniqueId x (codes ":unique-id") (λ e. e) (word_is key.CacheValue x (codes ":cache-value") (λ e. e) nothing)

dialog_words : (x : List ℕ) → Finds (λ k. x ≡ key_word k) (dialog_key x)
dialog_words x =
    word_is key.Command x (codes ":command") (λ e. e) (word_is key.Pane x (codes ":pane") (λ e. e) (word_is key.When x (codes ":when") (λ e. e)
    (word_is key.Else x (codes ":else") (λ e. e) nothing)))

either_key : {P : Key → Type 0} (o p : Option Key) → Finds P o → Finds P p → Finds P (key_or o p)
either_key (Some k) p h i = record { found = h.found }
either_key None p h i = i

key_words : (x : List ℕ) → Finds (λ k. x ≡ key_word k) (key_named x)
key_words x =
    either_key (section_key x) (key_or (value_key x) (key_or (translator_key x) (key_or (update_key x) (dialog_key x)))) (section_words x)
    (either_key (value_key x) (key_or (translator_key x) (key_or (update_key x) (dialog_key x))) (value_words x)
    (either_key (translator_key x) (key_or (update_key x) (dialog_key x)) (translator_words x)
    (either_key (update_key x) (dialog_key x) (update_words x) (dialog_words x))))

key_spelled : (x : List ℕ) (k : Key) → key_named x ≡ Some k → x ≡ key_word k
key_spelled x k e = of_some k (key_named x) e (key_words x)

-- the datum is `(KEY VALUE ...)`, with a key that the form may have
pub data IsSection (may_have : List Key) : Keyed → Datum → Type 0 where
  a_section : {k : Key} {h at : ℕ} {ds : Datums} → is_among may_have k ≡ true
      → IsSection may_have (record { key = k; at = h; values = in_order ds }) (list (item (word (key_word k) h) ds) at)

pub data AreSections (may_have : List Key) : List Keyed → List Datum → Type 0 where
  no_more : AreSections may_have [] []
  one_more : {k : Keyed} {ks : List Keyed} {d : Datum} {ds : List Datum} → IsSection may_have k d → AreSections may_have ks ds
      → AreSections may_have (k ∷ ks) (d ∷ ds)

chosen_key : (b : Bool) (may_have : List Key) (j k : Key) → is_among may_have j ≡ b → (if b then Some j else None) ≡ Some k
    → (j ≡ k) × (is_among may_have k ≡ true)
chosen_key true may_have j k h e = let same : j ≡ k = some_same e in (same, ap (is_among may_have) (sym same) ∙ h)
chosen_key false may_have j k h e = absurd (nothing_found e)

allowed_key : (may_have : List Key) (o : Option Key) (k : Key) → allowed may_have o ≡ Some k → (o ≡ Some k) × (is_among may_have k ≡ true)
allowed_key may_have None k e = absurd (nothing_found e)
allowed_key may_have (Some j) k e =
    let found : (j ≡ k) × (is_among may_have k ≡ true) = chosen_key (is_among may_have j) may_have j k refl e in (ap Some found.0, found.1)

keyed_is : (o : Option Key) (at : ℕ) (ds : List Datum) (k : Keyed) → keyed_as o at ds ≡ Some k → (o ≡ Some k.key) × (record { key = k.key; at = at; values = ds } ≡ k)
keyed_is None at ds k e = absurd (nothing_found e)
keyed_is (Some j) at ds k e =
    let same : ◌≡◌ {A = Keyed} (record { key = j; at = at; values = ds }) k = some_same e in
    (ap (λ c. Some c.key) same, ap (λ (c : Keyed). record { key = c.key; at = at; values = ds }) (sym same) ∙ same)

headed_section : (may_have : List Key) (k : Key) (x : List ℕ) (h at : ℕ) (ds : Datums) → x ≡ key_word k → is_among may_have k ≡ true
    → IsSection may_have (record { key = k; at = h; values = in_order ds }) (list (item (word x h) ds) at)
headed_section may_have k x h at ds e i =
    subst (λ y. IsSection may_have (record { key = k; at = h; values = in_order ds }) (list (item (word y h) ds) at)) (sym e) (a_section i)

section_is : (may_have : List Key) (d : Datum) (k : Keyed) → section_in may_have d ≡ Some k → IsSection may_have k d
section_is may_have (list (item (word x h) ds) at) k e =
    let found : (key_in may_have (word x h) ≡ Some k.key) × (record { key = k.key; at = h; values = in_order ds } ≡ k) =
    keyed_is (key_in may_have (word x h)) h (in_order ds) k e in
    let one : (key_named x ≡ Some k.key) × (is_among may_have k.key ≡ true) = allowed_key may_have (key_named x) k.key found.0 in
    subst (λ c. IsSection may_have c (list (item (word x h) ds) at)) found.1
    (headed_section may_have k.key x h at ds (key_spelled x k.key one.0) one.1)
section_is may_have (list none at) k e = absurd (nothing_found e)
section_is may_have (list (item (number z h) ds) at) k e = absurd (nothing_found e)
section_is may_have (list (item (literal s h) ds) at) k e = absurd (nothing_found e)
section_is may_have (list (item (quoted s h name_at) ds) at) k e = absurd (nothing_found e)
section_is may_have (list (item (stray h) ds) at) k e = absurd (nothing_found e)
section_is may_have (list (item (list es h) ds) at) k e = absurd (nothing_found e)
section_is may_have (number z at) k e = absurd (nothing_found e)
section_is may_have (literal s at) k e = absurd (nothing_found e)
section_is may_have (word s at) k e = absurd (nothing_found e)
section_is may_have (quoted s at name_at) k e = absurd (nothing_found e)
section_is may_have (stray at) k e = absurd (nothing_found e)

-- ---- pairs

-- the two data are `KEY VALUE`, with a key that the form may have
pub data IsPair (may_have : List Key) : Keyed → Datum → Datum → Type 0 where
  a_pair : {k : Key} {h : ℕ} {v : Datum} → is_among may_have k ≡ true
      → IsPair may_have (record { key = k; at = h; values = v ∷ [] }) (word (key_word k) h) v

pub data ArePairs (may_have : List Key) : List Keyed → List Datum → Type 0 where
  no_pairs : ArePairs may_have [] []
  more_pairs : {k : Keyed} {ks : List Keyed} {d v : Datum} {ds : List Datum} → IsPair may_have k d v → ArePairs may_have ks ds
      → ArePairs may_have (k ∷ ks) (d ∷ v ∷ ds)

headed_pair : (may_have : List Key) (k : Key) (x : List ℕ) (h : ℕ) (v : Datum) → x ≡ key_word k → is_among may_have k ≡ true
    → IsPair may_have (record { key = k; at = h; values = v ∷ [] }) (word x h) v
headed_pair may_have k x h v e i = subst (λ y. IsPair may_have (record { key = k; at = h; values = v ∷ [] }) (word y h) v) (sym e) (a_pair i)

pair_is : (may_have : List Key) (d v : Datum) (k : Keyed) → pair_in may_have d v ≡ Some k → IsPair may_have k d v
pair_is may_have (word x h) v k e =
    let found : (key_in may_have (word x h) ≡ Some k.key) × (record { key = k.key; at = h; values = v ∷ [] } ≡ k) =
    keyed_is (key_in may_have (word x h)) h (v ∷ []) k e in
    let one : (key_named x ≡ Some k.key) × (is_among may_have k.key ≡ true) = allowed_key may_have (key_named x) k.key found.0 in
    subst (λ c. IsPair may_have c (word x h) v) found.1 (headed_pair may_have k.key x h v (key_spelled x k.key one.0) one.1)
pair_is may_have (number z h) v k e = absurd (nothing_found e)
pair_is may_have (literal s h) v k e = absurd (nothing_found e)
pair_is may_have (quoted s h name_at) v k e = absurd (nothing_found e)
pair_is may_have (stray h) v k e = absurd (nothing_found e)
pair_is may_have (list es h) v k e = absurd (nothing_found e)

-- ---- none stands twice

-- the keys are none of those that stand so far, and differ
abbrev pub StandApart : List Keyed → List Keyed → Type 0
StandApart so_far [] = Unit {0}
StandApart so_far (k ∷ ks) = (has_key k.key so_far ≡ false) × StandApart (so_far ++ k ∷ []) ks

-- the keys behind those that stand so far, which stand in the data so
pub record Keys (S : List Keyed → List Datum → Type 0) (so_far all : List Keyed) (ds : List Datum) : Type 0 where
  pub more : List Keyed
  pub whole : all ≡ so_far ++ more
  pub stand : S more ds
  pub apart : StandApart so_far more

no_end : (ks : List Keyed) → ks ≡ ks ++ []
no_end [] = refl
no_end (k ∷ ks) = λ i. k ∷ no_end ks i

moved : (ks : List Keyed) (k : Keyed) (more : List Keyed) → (ks ++ k ∷ []) ++ more ≡ ks ++ k ∷ more
moved [] k more = refl
moved (j ∷ ks) k more = λ i. j ∷ moved ks k more i

-- by the relation of keys to data, and what reads the keys in the rest of the data
module _ (S : List Keyed → List Datum → Type 0) (ds rest : List Datum) (read : List Keyed → Option (List Keyed)) (all : List Keyed)
    (reads : (s : List Keyed) → read s ≡ Some all → Keys S s all rest) where
  one_key : (b : Bool) (so_far : List Keyed) (k : Keyed) → has_key k.key so_far ≡ b → ((ks : List Keyed) → S ks rest → S (k ∷ ks) ds)
      → option_and_then read (if b then None else Some (so_far ++ k ∷ [])) ≡ Some all → Keys S so_far all ds
  one_key true so_far k h i e = absurd (nothing_found e)
  one_key false so_far k h i e =
      let behind : Keys S (so_far ++ k ∷ []) all rest = reads (so_far ++ k ∷ []) e in
      record { more = k ∷ behind.more; whole = behind.whole ∙ moved so_far k behind.more; stand = i behind.more behind.stand; apart = (h, behind.apart) }

  next_key : (o : Option Keyed) (so_far : List Keyed) → ((k : Keyed) (ks : List Keyed) → o ≡ Some k → S ks rest → S (k ∷ ks) ds)
      → option_and_then read (with_keyed o so_far) ≡ Some all → Keys S so_far all ds
  next_key None so_far i e = absurd (nothing_found e)
  next_key (Some k) so_far i e = one_key (has_key k.key so_far) so_far k refl (λ ks. i k ks refl) e

pub sections_stand : (may_have : List Key) (so_far all : List Keyed) (ds : List Datum) → keyed_sections may_have so_far ds ≡ Some all
    → Keys (AreSections may_have) so_far all ds
sections_stand may_have so_far all [] e =
    record { more = []; whole = sym (some_same e) ∙ no_end so_far; stand = no_more; apart = tt }
sections_stand may_have so_far all (d ∷ ds) e =
    next_key (AreSections may_have) (d ∷ ds) ds (λ s. keyed_sections may_have s ds) all (λ s. sections_stand may_have s all ds) (section_in may_have d) so_far
    (λ k ks h i. one_more (section_is may_have d k h) i) e

pub pairs_stand : (may_have : List Key) (so_far all : List Keyed) (ds : List Datum) → keyed_pairs may_have so_far ds ≡ Some all
    → Keys (ArePairs may_have) so_far all ds
pairs_stand may_have so_far all [] e =
    record { more = []; whole = sym (some_same e) ∙ no_end so_far; stand = no_pairs; apart = tt }
pairs_stand may_have so_far all (d ∷ []) e = absurd (nothing_found e)
pairs_stand may_have so_far all (d ∷ v ∷ ds) e =
    next_key (ArePairs may_have) (d ∷ v ∷ ds) ds (λ s. keyed_pairs may_have s ds) all (λ s. pairs_stand may_have s all ds) (pair_in may_have d v) so_far
    (λ k ks h i. more_pairs (pair_is may_have d v k h) i) e

-- ---- what stands behind a key that stood before

found_or : (b c : Bool) (x : List Datum) (o p : Option (List Datum)) → (is_some o ≡ true → is_some p ≡ true) → is_some (if b then Some x else o) ≡ true
    → is_some (if b then Some x else p) ≡ true
found_or true c x o p f e = refl
found_or false c x o p f e = f e

has_more : (j : Key) (so_far : List Keyed) (k : Keyed) → has_key j so_far ≡ true → has_key j (so_far ++ k ∷ []) ≡ true
has_more j [] k e = absurd (false_true e)
has_more j (i ∷ ks) k e = found_or (same_key j i.key) true i.values (values_of j ks) (values_of j (ks ++ k ∷ [])) (has_more j ks k) e

some_either : (b : Bool) (x : List Datum) (o : Option (List Datum)) → (b ≡ false → is_some o ≡ true) → is_some (if b then Some x else o) ≡ true
some_either true x o f = refl
some_either false x o f = f refl

pub has_last : (j : Key) (so_far : List Keyed) (k : Keyed) → same_key j k.key ≡ true → has_key j (so_far ++ k ∷ []) ≡ true
has_last j [] k e = some_either (same_key j k.key) k.values None (λ f. sym f ∙ e)
has_last j (i ∷ ks) k e = some_either (same_key j i.key) i.values (values_of j (ks ++ k ∷ [])) (λ f. has_last j ks k e)

none_either : (b : Bool) (x : List Datum) (o : Option (List Datum)) → (b ≡ true → ⊥) → o ≡ None → (if b then Some x else o) ≡ None
none_either true x o f e = absurd (f refl)
none_either false x o f e = e

pub stood_before : (j : Key) (so_far ks : List Keyed) → StandApart so_far ks → has_key j so_far ≡ true → values_of j ks ≡ None
stood_before j so_far [] a e = refl
stood_before j so_far (k ∷ ks) a e =
    none_either (same_key j k.key) k.values (values_of j ks)
    (λ f. false_true (sym a.0 ∙ (ap (λ i. has_key i so_far) (sym (same_true the_type tt j k.key f)) ∙ e)))
    (stood_before j (so_far ++ k ∷ []) ks a.1 (has_more j so_far k e))

-- ---- a name or a text that stands behind a key

pub name_there : (P : Option (List ℕ) → Type 0) (n : Datum) (o x : Option (List ℕ)) → name_in n ≡ o → found o ≡ Some x
    → ((y : List ℕ) → name_in n ≡ Some y → P (Some y)) → P x
name_there P n (Some y) x e f h = subst P (some_same f) (h y e)
name_there P n None x e f h = absurd (nothing_found f)

pub text_there : (P : Option (List ℕ) → Datum → Type 0) (d : Datum) (x : Option (List ℕ)) → text_behind (Some (d ∷ [])) ≡ Some x
    → ((s : List ℕ) (at : ℕ) → P (Some s) (literal s at)) → P x d
text_there P (literal s at) x e h = subst (λ o. P o (literal s at)) (some_same e) (h s at)
text_there P (number z at) x e h = absurd (nothing_found e)
text_there P (word s at) x e h = absurd (nothing_found e)
text_there P (quoted s at name_at) x e h = absurd (nothing_found e)
text_there P (stray at) x e h = absurd (nothing_found e)
text_there P (list es at) x e h = absurd (nothing_found e)
