-- What one word does to clap's walk over the words.
use Rattle.std.proofs.Common.{◌≡◌, ℕ, None, Some, Option, Bool, List, [], ◌∷◌, ◌++◌, true, false, refl, codes}
use Rattle.std.specs.Str.{bytes_eq}
use Rattle.clap.specs.Walk.{Row, Text, Walk, Waiting, walked, option, idle, positional, settled_rows, used}
use Rattle.clap.specs.Lexer.{long_of, short_of}
use Rattle.clap.specs.Faults.{turn_fault}
use Rattle.clap.specs.declared.error.kind.ErrorKind.TheVariants.{InvalidValue}
use Rattle.cl_invocation.specs.Words.{Name, wire, budget, Next, any, value_of, Parts, no_parts, one_positional, one_value}
use Rattle.cl_invocation.proofs.Rules.{id_of, rule_of, rules, shape}

-- what clap has met and not yet used: a positional word, a value of an option, or an option whose value is still to come
pub data Pending : Type 0 where
  none : Pending
  word : Text → Pending
  given : Name → Text → Pending
  named : Name → Pending

abbrev pub is_named : Pending → Bool
is_named (named name) = true
is_named _ = false

-- the same in clap's words
abbrev pub pending_of : Pending → Option (Text × List Text)
pending_of none = None
pending_of (word text) = Some (codes "words", text ∷ [])
pending_of (given name text) = Some (id_of name, text ∷ [])
pending_of (named name) = Some (id_of name, [])

abbrev pub waiting_of : Pending → Waiting
waiting_of none = idle
waiting_of (word text) = positional
waiting_of (given name text) = idle
waiting_of (named name) = option (id_of name)

-- the same in the words of specs/
abbrev pub next_of : Pending → Next
next_of (named name) = value_of name
next_of _ = any

abbrev pub parts_pending : Pending → Parts
parts_pending (word text) = one_positional text
parts_pending (given name text) = one_value name text
parts_pending _ = no_parts

-- where the walk stands between two words
abbrev pub at : List Row → Pending → Walk
at rows p = record {
  held = record { rows = rows; pending = pending_of p; skip = 0 };
  waiting = waiting_of p;
  position = 1;
  is_trailing = false;
  stopped = None;
}

-- the rows once what is pending is used
abbrev pub rows_then : List Row → Pending → List Row
rows_then rows p = settled_rows rules (pending_of p) rows

-- a word that clap takes for no flag
pub record IsNoFlag (text : Text) : Type 0 where
  pub long : long_of text ≡ None
  pub short : short_of text ≡ None
  pub dashes : bytes_eq text (45 ∷ 45 ∷ []) ≡ false

-- `--NAME`, and with a value
abbrev pub name_word : Name → Text
name_word wire = codes "--wire"
name_word budget = codes "--budget"

abbrev pub value_word : Name → Text → Text
value_word wire value = codes "--wire=" ++ value
value_word budget value = codes "--budget=" ++ value

-- ---- a word that is no flag

pub plain_step : (rows : List Row) (p : Pending) (text : Text) → is_named p ≡ false → IsNoFlag text
    → walked rules [] (at rows p) text ≡ at (rows_then rows p) (word text)
unfolding walked
plain_step rows none text e h = rw (h.dashes, h.long, h.short) refl
plain_step rows (word t) text e h = rw (h.dashes, h.long, h.short) refl
plain_step rows (given wire t) text e h = rw (h.dashes, h.long, h.short) refl
plain_step rows (given budget t) text e h = rw (h.dashes, h.long, h.short) refl
plain_step rows (named name) text e h = cc

pub plain_passes : (rows : List Row) (p : Pending) (text : Text) → is_named p ≡ false → IsNoFlag text
    → turn_fault shape [] (at rows p) text ≡ []
plain_passes rows none text e h = rw (h.dashes, h.long, h.short) refl
plain_passes rows (word t) text e h = rw (h.dashes, h.long, h.short) refl
plain_passes rows (given wire t) text e h = rw (h.dashes, h.long, h.short) refl
plain_passes rows (given budget t) text e h = rw (h.dashes, h.long, h.short) refl
plain_passes rows (named name) text e h = cc

pub value_step : (rows : List Row) (name : Name) (text : Text) → IsNoFlag text
    → walked rules [] (at rows (named name)) text ≡ at rows (given name text)
unfolding walked
value_step rows wire text h = rw (h.dashes, h.long, h.short) refl
value_step rows budget text h = rw (h.dashes, h.long, h.short) refl

pub value_passes : (rows : List Row) (name : Name) (text : Text) → IsNoFlag text → turn_fault shape [] (at rows (named name)) text ≡ []
value_passes rows wire text h = rw (h.dashes, h.long, h.short) refl
value_passes rows budget text h = rw (h.dashes, h.long, h.short) refl

-- ---- the name of an option

pub name_step : (rows : List Row) (p : Pending) (name : Name) → is_named p ≡ false
    → walked rules [] (at rows p) (name_word name) ≡ at (rows_then rows p) (named name)
unfolding walked
name_step rows none wire e = refl
name_step rows none budget e = refl
name_step rows (word t) wire e = refl
name_step rows (word t) budget e = refl
name_step rows (given n t) wire e = refl
name_step rows (given n t) budget e = refl
name_step rows (named n) name e = cc

pub name_passes : (rows : List Row) (p : Pending) (name : Name) → is_named p ≡ false
    → turn_fault shape [] (at rows p) (name_word name) ≡ []
name_passes rows none wire e = refl
name_passes rows none budget e = refl
name_passes rows (word t) wire e = refl
name_passes rows (word t) budget e = refl
name_passes rows (given wire t) wire e = refl
name_passes rows (given wire t) budget e = refl
name_passes rows (given budget t) wire e = refl
name_passes rows (given budget t) budget e = refl
name_passes rows (named n) name e = cc

pub name_fails : (rows : List Row) (other name : Name) → turn_fault shape [] (at rows (named other)) (name_word name) ≡ InvalidValue ∷ []
name_fails rows wire wire = refl
name_fails rows wire budget = refl
name_fails rows budget wire = refl
name_fails rows budget budget = refl

-- ---- the name of an option, with its value

pub gives_step : (rows : List Row) (p : Pending) (name : Name) (x : ℕ) (xs : Text) → is_named p ≡ false
    → walked rules [] (at rows p) (value_word name (x ∷ xs)) ≡ at (used (rule_of name) ((x ∷ xs) ∷ []) (rows_then rows p)) none
unfolding walked
gives_step rows none wire x xs e = refl
gives_step rows none budget x xs e = refl
gives_step rows (word t) wire x xs e = refl
gives_step rows (word t) budget x xs e = refl
gives_step rows (given n t) wire x xs e = refl
gives_step rows (given n t) budget x xs e = refl
gives_step rows (named n) name x xs e = cc

pub gives_passes : (rows : List Row) (p : Pending) (name : Name) (x : ℕ) (xs : Text) → is_named p ≡ false
    → turn_fault shape [] (at rows p) (value_word name (x ∷ xs)) ≡ []
gives_passes rows none wire x xs e = refl
gives_passes rows none budget x xs e = refl
gives_passes rows (word t) wire x xs e = refl
gives_passes rows (word t) budget x xs e = refl
gives_passes rows (given wire t) wire x xs e = refl
gives_passes rows (given wire t) budget x xs e = refl
gives_passes rows (given budget t) wire x xs e = refl
gives_passes rows (given budget t) budget x xs e = refl
gives_passes rows (named n) name x xs e = cc

pub gives_fails : (rows : List Row) (other name : Name) (x : ℕ) (xs : Text)
    → turn_fault shape [] (at rows (named other)) (value_word name (x ∷ xs)) ≡ InvalidValue ∷ []
gives_fails rows wire wire x xs = refl
gives_fails rows wire budget x xs = refl
gives_fails rows budget wire x xs = refl
gives_fails rows budget budget x xs = refl
