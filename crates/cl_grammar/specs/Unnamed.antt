-- Which names of a datum, at which offsets, are not declared.
use Rattle.std.specs.Prelude.{◌≡◌, ℕ, ◌≤◌, true, false, List, ◌∷◌, Option, Some, None}
use Rattle.cl_forms.specs.Datum.{Datum, Datums, word, list, in_order}
use Rattle.cl_forms.specs.Words.{is_name}
use Rattle.cl_words.specs.Signatures.{record_in, slot_in}
use Rattle.cl_words.specs.declared.signatures.Signatures.{Signatures}
use Rattle.cl_expressions.specs.Scopes.{Names, among}
use Rattle.cl_grammar.specs.Sights.{Seen, expression, slot_name, record_name, Sees, form_seen}

mutual
  -- in the datum, which sees these variables, a name at this offset is not declared
  pub data Unnamed (w : Signatures) : Names → Datum → ℕ → Type 0 where
    a_variable : {env : Names} {x : List ℕ} {at : ℕ} → is_name x ≡ true → among x env ≡ false → Unnamed w env (word x at) at
    in_a_part : {env : Names} {ds : Datums} {at : ℕ} {ps : List Seen} {offset : ℕ} → form_seen w env (in_order ds) ≡ Sees ps → UnnamedAny w ps offset
        → Unnamed w env (list ds at) offset

  -- in one of the parts
  pub data UnnamedAny (w : Signatures) : List Seen → ℕ → Type 0 where
    a_slot : {x : List ℕ} {at : ℕ} {ps : List Seen} → slot_in w x ≡ false → UnnamedAny w (slot_name x at ∷ ps) at
    a_record : {x : List ℕ} {at : ℕ} {ps : List Seen} → record_in w x ≡ None → UnnamedAny w (record_name x at ∷ ps) at
    in_the_first : {env : Names} {d : Datum} {ps : List Seen} {offset : ℕ} → Unnamed w env d offset → UnnamedAny w (expression env d ∷ ps) offset
    in_a_later : {p : Seen} {ps : List Seen} {offset : ℕ} → UnnamedAny w ps offset → UnnamedAny w (p ∷ ps) offset

-- the least of the offsets that are not declared, or the one that was noted before
abbrev pub IsNoted : (ℕ → Type 0) → Option ℕ → Option ℕ → Type 0
IsNoted N (Some earlier) noted = noted ≡ Some earlier
IsNoted N None None = (o : ℕ) → N o → ⊥
IsNoted N None (Some first) = N first × ((o : ℕ) → N o → first ≤ o)
