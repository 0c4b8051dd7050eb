-- A parse of the words, in the words of specs/.
use Rattle.std.proofs.Common.{◌≡◌, ◌∙◌, Bool, List, [], ◌∷◌, true, false, Option, None, Some, is_some, refl, sym, ap, codes}
use Rattle.std.specs.Prelude.{option_and_then, option_map, unwrap_or}
use Rattle.std.specs.List.{list_all}
use Rattle.clap.specs.Walk.{Text, is_empty, nothing_held, rows_after, rows_of}
use Rattle.clap.specs.Simple.{App, entered, matches_of, names_of}
use Rattle.clap.specs.Faults.{built_fault, entered_fault, fault_of, level_fault}
use Rattle.clap.specs.Kinds.{IsAmong, Kinds}
use Rattle.clap.specs.Matches.{found_of}
use Rattle.clap.proofs.WalkLemmas.{raw_values-rows}
use Rattle.clap.specs.declared.parser.matches.ArgMatches.{ArgMatches}
use Rattle.clap.specs.declared.error.kind.ErrorKind.{ErrorKind}
use Rattle.cl_invocation.specs.Command.{app, parts_in}
use Rattle.cl_invocation.specs.Words.{Next, any, value_of, Parts, Said, joined, no_parts, part_of, part_said, parts_from, said_by, is_said, is_plain, is_word, plain, names, gives, nothing}
use Rattle.cl_invocation.proofs.Claims.{Outcome, holds}
use Rattle.cl_invocation.proofs.Rows.{IsShown}
use Rattle.cl_invocation.proofs.Rules.{built_is, shape}
use Rattle.cl_invocation.proofs.Steps.{at, none}
use Rattle.cl_invocation.proofs.Totals.{fault_from, rows_from}

-- ---- words of which one is none of a command

no_part : (next : Next) (text : Text) → is_word text ≡ false → part_of next text ≡ None
no_part any text e = go (said_by text) e
  where
    go : (s : Said) → is_said s ≡ false → part_said text s ≡ None
    go plain e = cc
    go (names name) e = cc
    go (gives name value) e = cc
    go nothing e = refl
no_part (value_of name) text e = go (is_plain text) refl
  where
    go : (b : Bool) → is_plain text ≡ b → part_of (value_of name) text ≡ None
    go true h = let yes : is_word text ≡ true = rw h refl in cc
    go false h = rw h refl

lost : (words : List Text) (part : Option (Next × Parts)) → ((next : Next) → parts_from next words ≡ None)
    → option_and_then (λ p. option_map (joined p.1) (parts_from p.0 words)) part ≡ None
lost words None h = refl
lost words (Some p) h = rw (h p.0) refl

pub no_parts_of : (words : List Text) (next : Next) → list_all is_word words ≡ false → parts_from next words ≡ None
no_parts_of [] next e = cc
no_parts_of (text ∷ words) next e = go (is_word text) refl (λ h n. no_parts_of words n h)
  where
    go : (b : Bool) → is_word text ≡ b → (list_all is_word words ≡ false → (n : Next) → parts_from n words ≡ None)
        → parts_from next (text ∷ words) ≡ None
    go true h ih = let rest : list_all is_word words ≡ false = rw h at e in lost words (part_of next text) (ih rest)
    go false h ih = rw (no_part next text h) refl

-- ---- what clap says of a parse

abbrev built_app : App
built_app = record { top = shape; subs = [] }

fault_is : (words : List Text) → fault_of app words ≡ fault_from (at [] none) words
fault_is words = ap (λ (a : App). built_fault a nothing_held words) built_is ∙ go _
  where
    go : (stop : Option (Text × List Text))
        → level_fault shape [] nothing_held words (is_some (entered built_app stop)) (entered_fault built_app stop)
        ≡ fault_from (at [] none) words
    go None = refl
    go (Some s) = refl

matches_are : (words : List Text) → matches_of app words ≡ rows_from (at [] none) words
matches_are words = ap (λ (a : App). rows_after a.top.rules (names_of a) words) built_is

outcome : (words : List Text) → list_all is_word words ≡ true
    → Outcome (parts_from any words) no_parts (fault_of app words) (matches_of app words)
outcome words all =
    rw (fault_is words, matches_are words) (holds words all [] none no_parts (record { positional = refl; wires = refl; budgets = refl }))

parts_same : (p q : Parts) → p.positional ≡ q.positional → p.wires ≡ q.wires → p.budgets ≡ q.budgets → p ≡ q
parts_same p q a b c =
    ap (λ (x : List Text). record p { positional = x }) a
    ∙ (ap (λ (x : List Text). record p { positional = q.positional; wires = x }) b ∙ ap (λ (x : List Text). record q { budgets = x }) c)

shown_is : (m : ArgMatches) (parts : Parts) → IsShown (rows_of (found_of m)) parts → parts_in m ≡ parts
shown_is m parts h =
    parts_same (parts_in m) parts
    (ap (λ (o : Option (List Text)). unwrap_or o []) (raw_values-rows (found_of m) (codes "words")) ∙ h.positional)
    (ap (λ (o : Option (List Text)). unwrap_or o []) (raw_values-rows (found_of m) (codes "wire")) ∙ h.wires)
    (ap (λ (o : Option (List Text)). unwrap_or o []) (raw_values-rows (found_of m) (codes "budget")) ∙ h.budgets)

-- where clap takes the words, its matches show their parts
pub taken : (words : List Text) (m : ArgMatches) → list_all is_word words ≡ true → fault_of app words ≡ []
    → rows_of (found_of m) ≡ matches_of app words
    → Some (parts_in m) ≡ parts_from any words
taken words m all passes rows = go (parts_from any words) refl (outcome words all)
  where
    go : (o : Option Parts) → parts_from any words ≡ o → Outcome o no_parts (fault_of app words) (matches_of app words)
        → Some (parts_in m) ≡ parts_from any words
    go None e h = let no = ap (λ (k : Kinds). is_empty k) passes in cc
    go (Some parts) e h = ap (λ (p : Parts). Some p) (shown_is m parts (rw rows h.1)) ∙ sym e

-- where clap refuses them, they have none
pub refused : (words : List Text) (k : ErrorKind) → list_all is_word words ≡ true → IsAmong k (fault_of app words)
    → None ≡ parts_from any words
refused words k all among = go (parts_from any words) refl (outcome words all)
  where
    go : (o : Option Parts) → parts_from any words ≡ o → Outcome o no_parts (fault_of app words) (matches_of app words)
        → None ≡ parts_from any words
    go None e h = sym e
    go (Some parts) e h = let no : IsAmong k [] = rw h.0 at among in absurd no
