-- clap takes the words where they have parts, and its rows then show these parts.
use Rattle.std.proofs.Common.{◌≡◌, ℕ, ◌∙◌, ◌&&◌, Bool, List, [], ◌∷◌, true, false, Option, None, Some, refl, sym, ap, subst, append_assoc}
use Rattle.std.specs.Prelude.{option_map}
use Rattle.std.specs.List.{list_all}
use Rattle.clap.specs.Walk.{Row, Text, Walk, is_empty, used, walked}
use Rattle.clap.specs.Kinds.{Kinds}
use Rattle.clap.specs.Faults.{turn_fault}
use Rattle.clap.specs.declared.error.kind.ErrorKind.TheVariants.{InvalidValue}
use Rattle.cl_invocation.specs.Words.{Name, Next, any, value_of, Parts, joined, no_parts, one_positional, one_value, parts_from, said_by, is_said, is_plain, is_word, names, gives}
use Rattle.cl_invocation.proofs.Rules.{rule_of, rules, shape}
use Rattle.cl_invocation.proofs.Rows.{IsShown, joined_none, shown_then, used_value}
use Rattle.cl_invocation.proofs.Seen.{Seen, seen_plain, seen_name, seen_value, seen_nothing, see, plain_is_no_flag}
use Rattle.cl_invocation.proofs.Steps.{Pending, none, word, given, named, is_named, next_of, parts_pending, at, rows_then, name_word, value_word, plain_step, plain_passes, value_step, value_passes, name_step, name_passes, name_fails, gives_step, gives_passes, gives_fails}
use Rattle.cl_invocation.proofs.Totals.{fault_from, fault_passes, fault_fails, rows_from, end_passes, end_fails, end_rows}

-- with no parts the words fail, and with parts they pass, and the rows show these behind those before
abbrev pub Outcome : Option Parts → Parts → Kinds → List Row → Type 0
Outcome None before fault rows = is_empty fault ≡ false
Outcome (Some parts) before fault rows = (fault ≡ []) × IsShown rows (joined before parts)

-- the outcome of the words from a place of the walk
abbrev pub Holds : List Text → List Row → Pending → Parts → Type 0
Holds words rows p before = Outcome (parts_from (next_of p) words) (joined before (parts_pending p)) (fault_from (at rows p) words)
    (rows_from (at rows p) words)

-- whatever the walk holds
abbrev pub HoldsFrom : List Text → Type 0
HoldsFrom words = (rows : List Row) (p : Pending) (before : Parts) → IsShown rows before → Holds words rows p before

joined_assoc : (a b c : Parts) → joined a (joined b c) ≡ joined (joined a b) c
joined_assoc a b c = simp append_assoc

-- the parts of one more word in front
more : (parts : Option Parts) (before one : Parts) (fault : Kinds) (rows : List Row) → Outcome parts (joined before one) fault rows
    → Outcome (option_map (joined one) parts) before fault rows
more None before one fault rows h = h
more (Some parts) before one fault rows h = (h.0, subst (IsShown rows) (sym (joined_assoc before one parts)) h.1)

moved : (parts parts' : Option Parts) (before before' : Parts) (fault fault' : Kinds) (rows rows' : List Row) → parts' ≡ parts
    → before' ≡ before → fault' ≡ fault → rows' ≡ rows
    → Outcome parts before fault rows → Outcome parts' before' fault' rows'
moved parts parts' before before' fault fault' rows rows' a b c d h =
    subst (λ (x : Option Parts). Outcome x before' fault' rows') (sym a)
    (subst (λ (x : Parts). Outcome parts x fault' rows') (sym b)
    (subst (λ (x : Kinds). Outcome parts before x rows') (sym c)
    (subst (λ (x : List Row). Outcome parts before fault x) (sym d) h)))

-- a word that passes takes the walk to the next place
passed : (text : Text) (words : List Text) (one : Parts) (next : Next) (before : Parts) (start after : Walk) (parts : Option Parts)
    → parts ≡ option_map (joined one) (parts_from next words) → turn_fault shape [] start text ≡ [] → walked rules [] start text ≡ after
    → Outcome (parts_from next words) (joined before one) (fault_from after words) (rows_from after words)
    → Outcome parts before (fault_from start (text ∷ words)) (rows_from start (text ∷ words))
passed text words one next before start after parts e passes step h =
    moved (option_map (joined one) (parts_from next words)) parts before before (fault_from after words) (fault_from start (text ∷ words))
    (rows_from after words) (rows_from start (text ∷ words))
    e refl (fault_passes start text words passes ∙ ap (λ (w : Walk). fault_from w words) step) (ap (λ (w : Walk). rows_from w words) step)
    (more (parts_from next words) before one (fault_from after words) (rows_from after words) h)

-- ---- the end of the words

ended : (rows : List Row) (p : Pending) (before : Parts) → is_named p ≡ false → IsShown rows before
    → Outcome (Some no_parts) (joined before (parts_pending p)) (fault_from (at rows p) []) (rows_from (at rows p) [])
ended rows p before e h = (
  end_passes rows p e,
  subst (IsShown (rows_from (at rows p) [])) (sym (joined_none (joined before (parts_pending p))))
      (subst (λ (rs : List Row). IsShown rs (joined before (parts_pending p))) (sym (end_rows rows p)) (shown_then rows p before e h)),
)

holds_at_end : HoldsFrom []
holds_at_end rows none before h = ended rows none before refl h
holds_at_end rows (word text) before h = ended rows (word text) before refl h
holds_at_end rows (given name text) before h = ended rows (given name text) before refl h
holds_at_end rows (named name) before h = end_fails rows name

-- ---- a word, where nothing is named

abbrev AnyHolds : Text → List Text → List Row → Pending → Parts → Type 0
AnyHolds text words rows p before = Outcome (parts_from any (text ∷ words)) (joined before (parts_pending p))
    (fault_from (at rows p) (text ∷ words)) (rows_from (at rows p) (text ∷ words))

any_plain : (text : Text) (words : List Text) (rows : List Row) (p : Pending) (before : Parts) → HoldsFrom words → IsShown rows before
    → is_named p ≡ false
    → is_plain text ≡ true → AnyHolds text words rows p before
any_plain text words rows p before ih h e t =
    let no_flag = plain_is_no_flag text t in
    passed text words (one_positional text) any (joined before (parts_pending p)) (at rows p) (at (rows_then rows p) (word text))
    (parts_from any (text ∷ words))
    (rw t refl) (plain_passes rows p text e no_flag) (plain_step rows p text e no_flag)
    (ih (rows_then rows p) (word text) (joined before (parts_pending p)) (shown_then rows p before e h))

any_name : (name : Name) (text : Text) (words : List Text) (rows : List Row) (p : Pending) (before : Parts) → HoldsFrom words
    → IsShown rows before → is_named p ≡ false
    → said_by text ≡ names name → text ≡ name_word name → AnyHolds text words rows p before
any_name name text words rows p before ih h e says is =
    passed text words no_parts (value_of name) (joined before (parts_pending p)) (at rows p) (at (rows_then rows p) (named name))
    (parts_from any (text ∷ words))
    (rw says refl) (ap (turn_fault shape [] (at rows p)) is ∙ name_passes rows p name e)
    (ap (walked rules [] (at rows p)) is ∙ name_step rows p name e)
    (ih (rows_then rows p) (named name) (joined before (parts_pending p)) (shown_then rows p before e h))

any_value : (name : Name) (x : ℕ) (xs text : Text) (words : List Text) (rows : List Row) (p : Pending) (before : Parts) → HoldsFrom words
    → IsShown rows before → is_named p ≡ false
    → said_by text ≡ gives name (x ∷ xs) → text ≡ value_word name (x ∷ xs) → AnyHolds text words rows p before
any_value name x xs text words rows p before ih h e says is =
    let after : List Row = used (rule_of name) ((x ∷ xs) ∷ []) (rows_then rows p) in
    let parts : Parts = joined (joined before (parts_pending p)) (one_value name (x ∷ xs)) in
    passed text words (one_value name (x ∷ xs)) any (joined before (parts_pending p)) (at rows p) (at after none)
    (parts_from any (text ∷ words))
    (rw says refl) (ap (turn_fault shape [] (at rows p)) is ∙ gives_passes rows p name x xs e)
    (ap (walked rules [] (at rows p)) is ∙ gives_step rows p name x xs e)
    (subst (λ (b : Parts). Outcome (parts_from any words) b (fault_from (at after none) words) (rows_from (at after none) words))
    (joined_none parts)
    (ih after none parts (used_value name (x ∷ xs) (rows_then rows p) (joined before (parts_pending p)) (shown_then rows p before e h))))

any_holds : (text : Text) (words : List Text) (rows : List Row) (p : Pending) (before : Parts) → HoldsFrom words → IsShown rows before
    → is_named p ≡ false
    → is_word text ≡ true → AnyHolds text words rows p before
any_holds text words rows p before ih h e t = go (see text)
  where
    go : Seen text → AnyHolds text words rows p before
    go (seen_plain s) = any_plain text words rows p before ih h e s
    go (seen_name name s says is) = any_name name text words rows p before ih h e says is
    go (seen_value name x xs s says is) = any_value name x xs text words rows p before ih h e says is
    go (seen_nothing s says) = let no = ap is_said says in cc

-- ---- a word, where an option is named

named_holds : (name : Name) (text : Text) (words : List Text) (rows : List Row) (before : Parts) → HoldsFrom words → IsShown rows before
    → is_word text ≡ true
    → Holds (text ∷ words) rows (named name) before
named_holds name text words rows before ih h t = go (see text)
  where
    go : Seen text → Holds (text ∷ words) rows (named name) before
    go (seen_plain s) =
        let no_flag = plain_is_no_flag text s in
        passed text words (one_value name text) any (joined before no_parts) (at rows (named name)) (at rows (given name text))
        (parts_from (value_of name) (text ∷ words))
        (rw s refl) (value_passes rows name text no_flag) (value_step rows name text no_flag)
        (subst (λ (b : Parts). Outcome (parts_from any words) (joined b (one_value name text))
        (fault_from (at rows (given name text)) words) (rows_from (at rows (given name text)) words))
        (sym (joined_none before)) (ih rows (given name text) before h))
    go (seen_name other s says is) =
        rw s (fault_fails (at rows (named name)) text words InvalidValue
        (ap (turn_fault shape [] (at rows (named name))) is ∙ name_fails rows name other))
    go (seen_value other x xs s says is) =
        rw s (fault_fails (at rows (named name)) text words InvalidValue
        (ap (turn_fault shape [] (at rows (named name))) is ∙ gives_fails rows name other x xs))
    go (seen_nothing s says) = let no = ap is_said says in cc

-- ---- all the words

and_first : (a b : Bool) → (a && b) ≡ true → a ≡ true
and_first true b e = refl
and_first false b e = cc

and_second : (a b : Bool) → (a && b) ≡ true → b ≡ true
and_second true b e = e
and_second false b e = cc

holds_next : (text : Text) (words : List Text) → HoldsFrom words → is_word text ≡ true → HoldsFrom (text ∷ words)
holds_next text words ih t rows none before h = any_holds text words rows none before ih h refl t
holds_next text words ih t rows (word w) before h = any_holds text words rows (word w) before ih h refl t
holds_next text words ih t rows (given name w) before h = any_holds text words rows (given name w) before ih h refl t
holds_next text words ih t rows (named name) before h = named_holds name text words rows before ih h t

pub holds : (words : List Text) → list_all is_word words ≡ true → HoldsFrom words
holds [] all = holds_at_end
holds (text ∷ words) all = holds_next text words (holds words (and_second (is_word text) (list_all is_word words) all))
    (and_first (is_word text) (list_all is_word words) all)
