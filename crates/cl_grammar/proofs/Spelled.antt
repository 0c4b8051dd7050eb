-- The words behind what the reader finds under them.
use Rattle.std.proofs.Common.{◌≡◌, ℕ, Bool, true, false, if◌then◌else◌, List, [], ◌∷◌, refl, sym, ap, ◌∙◌}
use Rattle.std.specs.Prelude.{Option, Some, None, is_some, option_map, codes, ◌&&◌, ◌||◌}
use Rattle.std.specs.Option.{IfSome}
use Rattle.std.proofs.Math.Path.{subst}
use Rattle.std.specs.Str.{bytes_eq}
use Rattle.std.proofs.lemmas.Slice.Eq.{bytes_eq-Decides}
use Rattle.cl_syntax.specs.declared.operators.Operator.TheVariants as operator
use Rattle.cl_table.specs.Names.{named}
use Rattle.cl_words.specs.Heads.{named_or, arithmetic_named, comparison_named, list_operator_named, text_operator_named, other_operator_named}
use Rattle.cl_words.specs.Heads.{operator_named, count_of, access_named, walk_named, special_named, control_named, figure_named, setting_named}
use Rattle.cl_words.specs.Heads.{writing_named, change_named, planned_display, planned_other, planned_named, shared_named, form_head, head_named}
use Rattle.cl_words.specs.Heads.{is_operator}
use Rattle.cl_words.specs.Signatures.{function_in}
use Rattle.cl_words.specs.declared.heads.Head.{Head}
use Rattle.cl_words.specs.declared.heads.Head.TheVariants as head
use Rattle.cl_words.specs.declared.heads.Special.{Special}
use Rattle.cl_words.specs.declared.heads.Special.TheVariants as special
use Rattle.cl_expressions.specs.Scopes.{Names, among}
use Rattle.cl_forms.specs.Datum.{Datum, number, literal, word, quoted, stray, list}
use Rattle.cl_forms.specs.Naming.{name_in, some_if, symbol_of}
use Rattle.cl_forms.specs.Words.{is_name}
use Rattle.cl_words.specs.declared.signatures.Signatures.{Signatures}
use Rattle.cl_grammar.specs.Heads.{operators, fixed_heads}
use Rattle.cl_grammar.specs.Sights.{Sight, UnknownHead, counted_seen, slot_seen, if_seen, let_seen, and_seen, or_seen, make_seen, get_seen, with_seen}
use Rattle.cl_grammar.specs.Sights.{map_seen, filter_seen, fold_seen, call_seen, rows, operator_seen, row_seen}

pub false_true : false ≡ true → ⊥
false_true h = cc

pub same_word : (x w : List ℕ) → bytes_eq x w ≡ true → x ≡ w
same_word x w h = (bytes_eq-Decides x w).0 h

pub some_same : {A : Type 0} {a b : A} → ◌≡◌ {A = Option A} (Some a) (Some b) → a ≡ b
some_same e = cc

pub nothing_found : {A : Type 0} {a : A} → ◌≡◌ {A = Option A} None (Some a) → ⊥
nothing_found e = cc

-- ---- names

some_name : (b : Bool) (s : List ℕ) → is_some (some_if b s) ≡ true → some_if b s ≡ Some s
some_name true s e = refl
some_name false s e = absurd (false_true e)

pub name_is : (n : Datum) → is_some (name_in n) ≡ true → name_in n ≡ Some (symbol_of n)
name_is (word s at) e = some_name (is_name s) s e
name_is (number z at) e = absurd (false_true e)
name_is (literal s at) e = absurd (false_true e)
name_is (quoted s at name_at) e = absurd (false_true e)
name_is (stray at) e = absurd (false_true e)
name_is (list ds at) e = absurd (false_true e)

-- ---- tables of words

-- P holds of what is found, if anything is
pub record Finds {A : Type 0} (P : A → Type 0) (o : Option A) : Type 0 where
  pub found : IfSome o P

pub nothing : {A : Type 0} {P : A → Type 0} → Finds P None
nothing = record { found = tt }

chosen : {A : Type 0} {P : A → Type 0} {rest : Option A} (a : A) (b : Bool) → (b ≡ true → P a) → Finds P rest → Finds P (if b then Some a else rest)
chosen a true h k = record { found = h refl }
chosen a false h k = k

-- what is found is one of two
pub found_one : {D : Type 0} (b : Bool) (v : D) (o : Option D) (d : D) (P : Type 0) → (b ≡ true → P) → (o ≡ Some d → P)
    → (if b then Some v else o) ≡ Some d → P
found_one true v o d P h k e = h refl
found_one false v o d P h k e = k e

-- what stands under this word is a, and else it is among the rest
pub word_is : {A : Type 0} {P : A → Type 0} {rest : Option A} (a : A) (x w : List ℕ) → (x ≡ w → P a) → Finds P rest
    → Finds P (if bytes_eq x w then Some a else rest)
word_is a x w h k = chosen a (bytes_eq x w) (λ e. h (same_word x w e)) k

pub of_some : {A : Type 0} {P : A → Type 0} (a : A) (o : Option A) → o ≡ Some a → Finds P o → P a
of_some {P} a o e h = subst (λ (r : Option _). IfSome r P) e h.found

-- P holds of each row of the table
abbrev pub EachRow : {R : Type 0} → (R → Type 0) → List (List ℕ × R) → Type 0
EachRow P [] = Unit {0}
EachRow P (r ∷ rs) = P r.1 × EachRow P rs

row_or : {R : Type 0} (P : R → Type 0) (row : R) (b : Bool) (o : Option R) → P row → IfSome o P → IfSome (if b then Some row else o) P
row_or P row true o h k = h
row_or P row false o h k = k

pub row_found : {R : Type 0} (P : R → Type 0) (x : List ℕ) (rs : List (List ℕ × R)) → EachRow P rs → IfSome (named x rs) P
row_found P x [] h = tt
row_found P x (r ∷ rs) h = row_or P r.1 (bytes_eq x r.0) (named x rs) h.0 (row_found P x rs h.1)

-- ---- heads

-- the word of a head that stands before expressions alone
abbrev pub word_of : Special → List ℕ
word_of special.Slot = codes "slot"
word_of special.Make = codes "make"
word_of special.Get = codes "get"
word_of special.With = codes "with"
word_of special.And = codes "and"
word_of special.Or = codes "or"
word_of special.Map = codes "map"
word_of special.Filter = codes "filter"
word_of special.Fold = codes "fold"

-- the row of it
abbrev pub row_of : Signatures → Special → Names → List Datum → Sight
row_of w special.Slot = slot_seen
row_of w special.Make = make_seen w
row_of w special.Get = get_seen
row_of w special.With = with_seen
row_of w special.And = and_seen
row_of w special.Or = or_seen
row_of w special.Map = map_seen
row_of w special.Filter = filter_seen
row_of w special.Fold = fold_seen

-- what a form with this head sees
abbrev pub seen_under : Signatures → Head → ℕ → Names → List Datum → Sight
seen_under w head.If k env ds = if_seen env ds
seen_under w head.Let k env ds = let_seen env ds
seen_under w (head.Special s) k env ds = row_of w s env ds
seen_under w (head.Operator o) k env ds = counted_seen (count_of o) env ds
seen_under w (head.Control c) k env ds = UnknownHead k
seen_under w (head.Figure f) k env ds = UnknownHead k
seen_under w (head.Setting s) k env ds = UnknownHead k
seen_under w (head.Writing v) k env ds = UnknownHead k
seen_under w (head.Change c) k env ds = UnknownHead k
seen_under w (head.Planned p) k env ds = UnknownHead k

-- the word spells the head of an expression
abbrev pub IsSpelled : List ℕ → Head → Type 0
IsSpelled x head.If = x ≡ codes "if"
IsSpelled x head.Let = x ≡ codes "let"
IsSpelled x (head.Special s) = x ≡ word_of s
IsSpelled x (head.Operator o) = named x operators ≡ Some (o, count_of o)
IsSpelled x (head.Control c) = Unit {0}
IsSpelled x (head.Figure f) = Unit {0}
IsSpelled x (head.Setting s) = Unit {0}
IsSpelled x (head.Writing v) = Unit {0}
IsSpelled x (head.Change c) = Unit {0}
IsSpelled x (head.Planned p) = Unit {0}

-- the word is that of the head
pub record Stands (w : Signatures) (x : List ℕ) (h : Head) : Type 0 where
  pub seen : (k : ℕ) (env : Names) (ds : List Datum) → row_seen w (named x (rows w)) x k env ds ≡ seen_under w h k env ds
  pub spelled : IsSpelled x h

stands : {w : Signatures} {x y : List ℕ} {h : Head} → x ≡ y
    → ((k : ℕ) (env : Names) (ds : List Datum) → row_seen w (named y (rows w)) y k env ds ≡ seen_under w h k env ds) → IsSpelled y h → Stands w x h
stands {w} {h} e i j = subst (λ z. Stands w z h) (sym e) (record { seen = i; spelled = j })

pub first : {A B : Type 0} {P : B → Type 0} {other : Option B} (f : A → B) (o : Option A) → Finds (λ a. P (f a)) o → Finds P other
    → Finds P (named_or f o other)
first f (Some a) h k = record { found = h.found }
first f None h k = k

pub last_found : {A B : Type 0} (P : B → Type 0) (f : A → B) (o : Option A) → Finds (λ a. P (f a)) o → Finds P (option_map f o)
last_found P f (Some a) h = record { found = h.found }
last_found P f None h = record { found = tt }

module _ (w : Signatures) (x : List ℕ) where
  arithmetic_word : Finds (λ a. Stands w x (head.Operator (operator.Arithmetic a))) (arithmetic_named x)
  arithmetic_word =
      word_is _ x (codes "+") (λ e. stands e (λ k env ds. refl) refl) (word_is _ x (codes "-") (λ e. stands e (λ k env ds. refl) refl)
      (word_is _ x (codes "*") (λ e. stands e (λ k env ds. refl) refl) (word_is _ x (codes "min") (λ e. stands e (λ k env ds. refl) refl)
      (word_is _ x (codes "max") (λ e. stands e (λ k env ds. refl) refl) (word_is _ x (codes "div") (λ e. stands e (λ k env ds. refl) refl)
      (word_is _ x (codes "mod") (λ e. stands e (λ k env ds. refl) refl) nothing))))))

  comparison_word : Finds (λ c. Stands w x (head.Operator (operator.Comparison c))) (comparison_named x)
  comparison_word =
      word_is _ x (codes "<") (λ e. stands e (λ k env ds. refl) refl) (word_is _ x (codes "<=") (λ e. stands e (λ k env ds. refl) refl)
      (word_is _ x (codes ">") (λ e. stands e (λ k env ds. refl) refl) (word_is _ x (codes ">=") (λ e. stands e (λ k env ds. refl) refl) nothing)))

  list_word : Finds (λ l. Stands w x (head.Operator (operator.List l))) (list_operator_named x)
  list_word =
      word_is _ x (codes "list") (λ e. stands e (λ k env ds. refl) refl) (word_is _ x (codes "nth") (λ e. stands e (λ k env ds. refl) refl)
      (word_is _ x (codes "rest") (λ e. stands e (λ k env ds. refl) refl) (word_is _ x (codes "cons") (λ e. stands e (λ k env ds. refl) refl)
      (word_is _ x (codes "append") (λ e. stands e (λ k env ds. refl) refl) (word_is _ x (codes "contains") (λ e. stands e (λ k env ds. refl) refl)
      (word_is _ x (codes "range") (λ e. stands e (λ k env ds. refl) refl) nothing))))))

  text_word : Finds (λ t. Stands w x (head.Operator (operator.Text t))) (text_operator_named x)
  text_word =
      word_is _ x (codes "concat") (λ e. stands e (λ k env ds. refl) refl) (word_is _ x (codes "subtext") (λ e. stands e (λ k env ds. refl) refl)
      (word_is _ x (codes "pad") (λ e. stands e (λ k env ds. refl) refl) (word_is _ x (codes "text") (λ e. stands e (λ k env ds. refl) refl) nothing)))

  other_word : Finds (λ o. Stands w x (head.Operator o)) (other_operator_named x)
  other_word =
      word_is _ x (codes "not") (λ e. stands e (λ k env ds. refl) refl) (word_is _ x (codes "=") (λ e. stands e (λ k env ds. refl) refl)
      (word_is _ x (codes "length") (λ e. stands e (λ k env ds. refl) refl) (word_is _ x (codes "is-null") (λ e. stands e (λ k env ds. refl) refl) nothing)))

  access_word : Finds (λ s. Stands w x (head.Special s)) (access_named x)
  access_word =
      word_is _ x (codes "slot") (λ e. stands e (λ k env ds. refl) refl) (word_is _ x (codes "make") (λ e. stands e (λ k env ds. refl) refl)
      (word_is _ x (codes "get") (λ e. stands e (λ k env ds. refl) refl) (word_is _ x (codes "with") (λ e. stands e (λ k env ds. refl) refl) nothing)))

  walk_word : Finds (λ s. Stands w x (head.Special s)) (walk_named x)
  walk_word =
      word_is _ x (codes "and") (λ e. stands e (λ k env ds. refl) refl) (word_is _ x (codes "or") (λ e. stands e (λ k env ds. refl) refl)
      (word_is _ x (codes "map") (λ e. stands e (λ k env ds. refl) refl) (word_is _ x (codes "filter") (λ e. stands e (λ k env ds. refl) refl)
      (word_is _ x (codes "fold") (λ e. stands e (λ k env ds. refl) refl) nothing))))

  shared_word : Finds (Stands w x) (shared_named x)
  shared_word =
      word_is _ x (codes "if") (λ e. stands e (λ k env ds. refl) refl) (word_is _ x (codes "let") (λ e. stands e (λ k env ds. refl) refl) nothing)

  control_word : Finds (λ c. Stands w x (head.Control c)) (control_named x)
  control_word =
      word_is _ x (codes "when") (λ e. stands e (λ k env ds. refl) tt) (word_is _ x (codes "dolist") (λ e. stands e (λ k env ds. refl) tt)
      (word_is _ x (codes "progn") (λ e. stands e (λ k env ds. refl) tt) nothing))

  figure_word : Finds (λ f. Stands w x (head.Figure f)) (figure_named x)
  figure_word =
      word_is _ x (codes "draw-point") (λ e. stands e (λ k env ds. refl) tt) (word_is _ x (codes "draw-hline") (λ e. stands e (λ k env ds. refl) tt)
      (word_is _ x (codes "draw-vline") (λ e. stands e (λ k env ds. refl) tt) (word_is _ x (codes "draw-box") (λ e. stands e (λ k env ds. refl) tt)
      (word_is _ x (codes "fill-box") (λ e. stands e (λ k env ds. refl) tt) nothing))))

  setting_word : Finds (λ s. Stands w x (head.Setting s)) (setting_named x)
  setting_word =
      word_is _ x (codes "indenting-output") (λ e. stands e (λ k env ds. refl) tt) (word_is _ x (codes "with-ink") (λ e. stands e (λ k env ds. refl) tt)
      (word_is _ x (codes "with-room-for-graphics") (λ e. stands e (λ k env ds. refl) tt)
      (word_is _ x (codes "with-output-as-presentation") (λ e. stands e (λ k env ds. refl) tt)
      (word_is _ x (codes "updating-output") (λ e. stands e (λ k env ds. refl) tt) nothing))))

  writing_word : Finds (λ v. Stands w x (head.Writing v)) (writing_named x)
  writing_word =
      word_is _ x (codes "write-text") (λ e. stands e (λ k env ds. refl) tt) (word_is _ x (codes "newline") (λ e. stands e (λ k env ds. refl) tt)
      (word_is _ x (codes "present") (λ e. stands e (λ k env ds. refl) tt) nothing))

  change_word : Finds (λ c. Stands w x (head.Change c)) (change_named x)
  change_word =
      word_is _ x (codes "setf") (λ e. stands e (λ k env ds. refl) tt) (word_is _ x (codes "reply") (λ e. stands e (λ k env ds. refl) tt)
      (word_is _ x (codes "enable") (λ e. stands e (λ k env ds. refl) tt) (word_is _ x (codes "disable") (λ e. stands e (λ k env ds. refl) tt)
      (word_is _ x (codes "open-dialog") (λ e. stands e (λ k env ds. refl) tt) nothing))))

  planned_display_word : Finds (λ p. Stands w x (head.Planned p)) (planned_display x)
  planned_display_word = word_is _ x (codes "formatting-table") (λ e. stands e (λ k env ds. refl) tt) nothing

  planned_other_word : Finds (λ p. Stands w x (head.Planned p)) (planned_other x)
  planned_other_word =
      word_is _ x (codes "formatting-row") (λ e. stands e (λ k env ds. refl) tt)
      (word_is _ x (codes "formatting-cell") (λ e. stands e (λ k env ds. refl) tt) nothing)

  operator_word : Finds (λ o. Stands w x (head.Operator o)) (operator_named x)
  operator_word =
      first (λ a. operator.Arithmetic a) (arithmetic_named x) arithmetic_word
      (first (λ c. operator.Comparison c) (comparison_named x) comparison_word
      (first (λ l. operator.List l) (list_operator_named x) list_word
      (first (λ t. operator.Text t) (text_operator_named x) text_word other_word)))

  special_word : Finds (λ s. Stands w x (head.Special s)) (special_named x)
  special_word = first (λ s. s) (access_named x) access_word walk_word

  planned_word : Finds (λ p. Stands w x (head.Planned p)) (planned_named x)
  planned_word = first (λ p. p) (planned_display x) planned_display_word planned_other_word

  form_word : Finds (Stands w x) (form_head x)
  form_word =
      first (λ c. head.Control c) (control_named x) control_word (first (λ f. head.Figure f) (figure_named x) figure_word
      (first (λ s. head.Setting s) (setting_named x) setting_word (first (λ v. head.Writing v) (writing_named x) writing_word
      (first (λ c. head.Change c) (change_named x) change_word (last_found (Stands w x) (λ p. head.Planned p) (planned_named x) planned_word)))))

  head_word : Finds (Stands w x) (head_named x)
  head_word =
      first (λ h. h) (shared_named x) shared_word (first (λ o. head.Operator o) (operator_named x) operator_word
      (first (λ s. head.Special s) (special_named x) special_word form_word))

  pub head_stands : (h : Head) → head_named x ≡ Some h → Stands w x h
  head_stands h e = of_some h (head_named x) e head_word

-- ---- heads that are fixed

abbrev all_operators : Names → Bool
all_operators [] = true
all_operators (h ∷ hs) = is_operator h && all_operators hs

either : (a b : Bool) → (a ≡ true → ⊥) → b ≡ false → (a || b) ≡ false
either true b h k = absurd (h refl)
either false b h k = k

pub both_parts : (a b : Bool) → (a && b) ≡ true → (a ≡ true) × (b ≡ true)
both_parts true b h = (refl, h)
both_parts false b h = absurd (false_true h)

fixed_apart : (x : List ℕ) (hs : Names) → all_operators hs ≡ true → is_operator x ≡ false → among x hs ≡ false
fixed_apart x [] h k = refl
fixed_apart x (y ∷ ys) h k =
    let parts : (is_operator y ≡ true) × (all_operators ys ≡ true) = both_parts (is_operator y) (all_operators ys) h in
    either (bytes_eq y x) (among x ys) (λ e. false_true (sym k ∙ ap is_operator (sym (same_word y x e)) ∙ parts.0)) (fixed_apart x ys parts.1 k)

pub not_fixed : (x : List ℕ) → head_named x ≡ None → among x fixed_heads ≡ false
not_fixed x e = fixed_apart x fixed_heads refl (ap is_some e)

-- ---- words that are none of a table's

missed_one : {B : Type 0} (b : Bool) (v : B) (o : Option B) → (b ≡ true → ⊥) → o ≡ None → (if b then Some v else o) ≡ None
missed_one true v o h k = absurd (h refl)
missed_one false v o h k = k

abbrev all_heads : {B : Type 0} → List (List ℕ × B) → Bool
all_heads [] = true
all_heads (e ∷ es) = is_operator e.0 && all_heads es

pub missed : {B : Type 0} (x : List ℕ) (es : List (List ℕ × B)) → all_heads es ≡ true → head_named x ≡ None → named x es ≡ None
missed x [] h k = refl
missed x (e ∷ es) h k =
    let parts : (is_operator e.0 ≡ true) × (all_heads es ≡ true) = both_parts (is_operator e.0) (all_heads es) h in
    missed_one (bytes_eq x e.0) e.1 (named x es)
    (λ i. false_true (sym (ap is_some (ap head_named (sym (same_word x e.0 i)) ∙ k)) ∙ parts.0)) (missed x es parts.1 k)

-- a word that is no head calls a function
pub call_stands : (w : Signatures) (x : List ℕ) (k : ℕ) (env : Names) (ds : List Datum) → head_named x ≡ None
    → row_seen w (named x (rows w)) x k env ds ≡ call_seen (function_in w x) k env ds
call_stands w x k env ds e =
    ap (λ o. row_seen w o x k env ds) (missed x (rows w) refl e)
    ∙ (ap (λ o. operator_seen w o x k env ds) (missed x operators refl e)
    ∙ ap (λ (b : Bool). if b then UnknownHead k else call_seen (function_in w x) k env ds) (not_fixed x e))
