-- The values in the rows of clap's matches.
use Rattle.std.proofs.Common.{◌≡◌, ◌∙◌, Bool, List, [], ◌∷◌, ◌++◌, true, false, refl, sym, ap, subst, codes}
use Rattle.std.specs.Prelude.{unwrap_or}
use Rattle.std.specs.Str.{bytes_eq}
use Rattle.std.proofs.lemmas.List.{append-nil}
use Rattle.std.proofs.lemmas.Slice.Eq.{bytes_eq-Decides}
use Rattle.clap.specs.Walk.{Row, Text, all_of, used, with_values}
use Rattle.clap.specs.declared.builder.value_parser.Reading.{Reading}
use Rattle.clap.specs.declared.parser.matches.ValueSource.{ValueSource}
use Rattle.cl_invocation.specs.Words.{Name, wire, budget, Parts, joined, no_parts, one_positional, one_value}
use Rattle.cl_invocation.proofs.Rules.{rule_of, words_rule}
use Rattle.cl_invocation.proofs.Steps.{Pending, none, word, given, named, is_named, parts_pending, rows_then}

-- the values of an argument
abbrev pub values : Text → List Row → List Text
values id rows = unwrap_or (all_of id rows) []

-- the rows show these parts
pub record IsShown (rows : List Row) (parts : Parts) : Type 0 where
  pub positional : values (codes "words") rows ≡ parts.positional
  pub wires : values (codes "wire") rows ≡ parts.wires
  pub budgets : values (codes "budget") rows ≡ parts.budgets

-- more values of an argument come behind those that it has
values_same : (id : Text) (how : Reading) (s : ValueSource) (more : List Text) (rows : List Row) → bytes_eq id id ≡ true
    → values id (with_values id how s more rows) ≡ values id rows ++ more
values_same id how s more [] e = rw e refl
values_same id how s more (r ∷ rs) e = go (bytes_eq r.id id) refl (values_same id how s more rs e)
  where
    go : (b : Bool) → bytes_eq r.id id ≡ b → values id (with_values id how s more rs) ≡ values id rs ++ more
        → values id (with_values id how s more (r ∷ rs)) ≡ values id (r ∷ rs) ++ more
    go true h ih = rw (h, h) refl
    go false h ih = rw (h, h) ih

-- and no others
values_other : (id other : Text) (how : Reading) (s : ValueSource) (more : List Text) (rows : List Row) → bytes_eq id other ≡ false
    → values other (with_values id how s more rows) ≡ values other rows
values_other id other how s more [] e = rw e refl
values_other id other how s more (r ∷ rs) e =
    go (bytes_eq r.id id) refl (bytes_eq r.id other) refl (values_other id other how s more rs e)
  where
    go : (b : Bool) → bytes_eq r.id id ≡ b → (d : Bool) → bytes_eq r.id other ≡ d
        → values other (with_values id how s more rs) ≡ values other rs
        → values other (with_values id how s more (r ∷ rs)) ≡ values other (r ∷ rs)
    go true h true k ih =
        let same : r.id ≡ id = (bytes_eq-Decides r.id id).0 h in
        let clash : bytes_eq id other ≡ true = ap (λ (t : Text). bytes_eq t other) (sym same) ∙ k in
        cc
    go true h false k ih = rw (h, k) refl
    go false h true k ih = rw (h, k) refl
    go false h false k ih = rw (h, k) ih

used_word : (text : Text) (rows : List Row) (parts : Parts) → IsShown rows parts
    → IsShown (used words_rule (text ∷ []) rows) (joined parts (one_positional text))
used_word text rows parts h = record {
  positional = values_same (codes "words") _ _ _ rows refl ∙ ap (λ (vs : List Text). vs ++ text ∷ []) h.positional;
  wires = values_other (codes "words") (codes "wire") _ _ _ rows refl ∙ (h.wires ∙ sym (append-nil parts.wires));
  budgets = values_other (codes "words") (codes "budget") _ _ _ rows refl ∙ (h.budgets ∙ sym (append-nil parts.budgets));
}

-- one more value of an option
pub used_value : (name : Name) (text : Text) (rows : List Row) (parts : Parts) → IsShown rows parts
    → IsShown (used (rule_of name) (text ∷ []) rows) (joined parts (one_value name text))
used_value wire text rows parts h = record {
  positional = values_other (codes "wire") (codes "words") _ _ _ rows refl ∙ (h.positional ∙ sym (append-nil parts.positional));
  wires = values_same (codes "wire") _ _ _ rows refl ∙ ap (λ (vs : List Text). vs ++ text ∷ []) h.wires;
  budgets = values_other (codes "wire") (codes "budget") _ _ _ rows refl ∙ (h.budgets ∙ sym (append-nil parts.budgets));
}
used_value budget text rows parts h = record {
  positional = values_other (codes "budget") (codes "words") _ _ _ rows refl ∙ (h.positional ∙ sym (append-nil parts.positional));
  wires = values_other (codes "budget") (codes "wire") _ _ _ rows refl ∙ (h.wires ∙ sym (append-nil parts.wires));
  budgets = values_same (codes "budget") _ _ _ rows refl ∙ ap (λ (vs : List Text). vs ++ text ∷ []) h.budgets;
}

pub joined_none : (parts : Parts) → joined parts no_parts ≡ parts
joined_none parts = simp append-nil

-- what is pending comes behind
pub shown_then : (rows : List Row) (p : Pending) (parts : Parts) → is_named p ≡ false → IsShown rows parts
    → IsShown (rows_then rows p) (joined parts (parts_pending p))
shown_then rows none parts e h = subst (IsShown rows) (sym (joined_none parts)) h
shown_then rows (word text) parts e h = used_word text rows parts h
shown_then rows (given wire text) parts e h = used_value wire text rows parts h
shown_then rows (given budget text) parts e h = used_value budget text rows parts h
shown_then rows (named name) parts e h = cc
