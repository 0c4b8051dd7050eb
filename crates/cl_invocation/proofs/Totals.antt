-- The faults and the rows of clap's walk over the words.
use Rattle.std.proofs.Common.{◌≡◌, ◌∙◌, ◌||◌, Bool, List, [], ◌∷◌, true, false, refl, ap, codes}
use Rattle.std.specs.Prelude.{fold, if◌then◌else◌}
use Rattle.clap.specs.Walk.{Held, Row, Text, Walk, finished, has_row, is_empty, settled, walked, with_default}
use Rattle.clap.specs.Faults.{check_fault, default_fault, defaults_fault, settle_fault, turn_fault, walk_fault}
use Rattle.clap.specs.Kinds.{Kinds, or_else}
use Rattle.clap.specs.declared.error.kind.ErrorKind.{ErrorKind}
use Rattle.cl_invocation.specs.Words.{Name, wire, budget}
use Rattle.cl_invocation.proofs.Rules.{rule_of, rules, shape, words_rule}
use Rattle.cl_invocation.proofs.Steps.{Pending, none, word, given, named, is_named, at, rows_then}

-- what clap holds at the end of the words
abbrev pub held_at_end : Walk → List Text → Held
held_at_end w words = (fold (walked rules []) w words).held

abbrev pub end_fault : Held → Kinds
end_fault h = or_else (settle_fault rules false h) (or_else (defaults_fault (settled rules h).rows rules)
    (check_fault shape (finished rules h) false))

-- the faults of the words, and of their end
abbrev pub fault_from : Walk → List Text → Kinds
fault_from w words = or_else (walk_fault shape [] w words) (end_fault (held_at_end w words))

-- the rows at the end
abbrev pub rows_from : Walk → List Text → List Row
rows_from w words = finished rules (held_at_end w words)

-- ---- one word

pub fault_passes : (w : Walk) (text : Text) (words : List Text) → turn_fault shape [] w text ≡ []
    → fault_from w (text ∷ words) ≡ fault_from (walked rules [] w text) words
unfolding walk_fault
fault_passes w text words h = rw h refl

pub fault_fails : (w : Walk) (text : Text) (words : List Text) (k : ErrorKind) → turn_fault shape [] w text ≡ k ∷ []
    → is_empty (fault_from w (text ∷ words)) ≡ false
unfolding walk_fault
fault_fails w text words k h = rw h refl

-- ---- the end

same_rows : (b : Bool) (rows : List Row) → (if b then rows else rows) ≡ rows
same_rows true rows = refl
same_rows false rows = refl

no_kinds : (b : Bool) (kinds : Kinds) → (if b || true then [] else kinds) ≡ []
no_kinds true kinds = refl
no_kinds false kinds = refl

-- no argument has a default
no_default : (rows : List Row) → fold with_default rows rules ≡ rows
no_default rows =
    ap (λ (rs : List Row). with_default (with_default rs (rule_of wire)) (rule_of budget)) (same_rows (has_row (codes "words") rows) rows)
    ∙ (ap (λ (rs : List Row). with_default rs (rule_of budget)) (same_rows (has_row (codes "wire") rows) rows)
    ∙ same_rows (has_row (codes "budget") rows) rows)

default_passes : (rows : List Row) (name : Name) → default_fault rows (rule_of name) ≡ []
default_passes rows wire = no_kinds (has_row (codes "wire") rows) _
default_passes rows budget = no_kinds (has_row (codes "budget") rows) _

word_default_passes : (rows : List Row) → default_fault rows words_rule ≡ []
word_default_passes rows = no_kinds (has_row (codes "words") rows) _

defaults_pass : (rows : List Row) → defaults_fault rows rules ≡ []
unfolding defaults_fault
defaults_pass rows =
    rw (
      word_default_passes rows,
      default_passes (with_default rows words_rule) wire,
      default_passes
          (with_default (with_default rows words_rule) (rule_of wire)) budget,
    ) refl

pub end_passes : (rows : List Row) (p : Pending) → is_named p ≡ false → fault_from (at rows p) [] ≡ []
unfolding walk_fault
end_passes rows none e = rw (defaults_pass rows) refl
end_passes rows (word text) e = rw (defaults_pass (rows_then rows (word text))) refl
end_passes rows (given wire text) e = rw (defaults_pass (rows_then rows (given wire text))) refl
end_passes rows (given budget text) e = rw (defaults_pass (rows_then rows (given budget text))) refl
end_passes rows (named name) e = cc

pub end_fails : (rows : List Row) (name : Name) → is_empty (fault_from (at rows (named name)) []) ≡ false
unfolding walk_fault
end_fails rows wire = refl
end_fails rows budget = refl

pub end_rows : (rows : List Row) (p : Pending) → rows_from (at rows p) [] ≡ rows_then rows p
end_rows rows p = no_default (rows_then rows p)
