-- Which form is to blame where a datum is no expression, with the number of the refusal and the offset.
use Rattle.std.specs.Prelude.{◌≡◌, ℕ, ◌≤◌, Bool, false, ◌||◌, List, ◌∷◌, codes}
use Rattle.std.specs.Str.{bytes_eq}
use Rattle.cl_forms.specs.Datum.{Datum, Datums, word, stray, list, in_order}
use Rattle.cl_forms.specs.Words.{is_name}
use Rattle.cl_words.specs.declared.signatures.Signatures.{Signatures}
use Rattle.cl_expressions.specs.Scopes.{Names}
use Rattle.cl_grammar.specs.Sights.{Seen, expression, refused, Misshapen, UnknownHead, Sees, form_seen}

-- a symbol that is an expression of itself
abbrev pub is_atom : List ℕ → Bool
is_atom x = bytes_eq x (codes "true") || (bytes_eq x (codes "false") || (bytes_eq x (codes "null") || is_name x))

mutual
  -- in the datum, which sees these variables, a form is blamed with this number at this offset
  pub data Blames (w : Signatures) : Names → Datum → ℕ → ℕ → Type 0 where
    a_stray_quote : {env : Names} {at : ℕ} → Blames w env (stray at) 6 at
    no_atom : {env : Names} {x : List ℕ} {at : ℕ} → is_atom x ≡ false → Blames w env (word x at) 6 at
    a_misshapen_form : {env : Names} {ds : Datums} {at : ℕ} → form_seen w env (in_order ds) ≡ Misshapen → Blames w env (list ds at) 6 at
    an_unknown_head : {env : Names} {ds : Datums} {at head_at : ℕ} → form_seen w env (in_order ds) ≡ UnknownHead head_at
        → Blames w env (list ds at) 5 head_at
    in_a_part : {env : Names} {ds : Datums} {at : ℕ} {ps : List Seen} {number offset : ℕ}
        → form_seen w env (in_order ds) ≡ Sees ps → BlamesAny w ps number offset → Blames w env (list ds at) number offset

  -- in one of the parts
  pub data BlamesAny (w : Signatures) : List Seen → ℕ → ℕ → Type 0 where
    in_the_first : {env : Names} {d : Datum} {ps : List Seen} {number offset : ℕ} → Blames w env d number offset
        → BlamesAny w (expression env d ∷ ps) number offset
    by_itself : {ps : List Seen} {number offset : ℕ} → BlamesAny w (refused number offset ∷ ps) number offset
    in_a_later : {p : Seen} {ps : List Seen} {number offset : ℕ} → BlamesAny w ps number offset → BlamesAny w (p ∷ ps) number offset

-- this form is blamed, and none of a smaller offset
pub record IsLeastBlame (w : Signatures) (env : Names) (d : Datum) (number offset : ℕ) : Type 0 where
  pub blamed : Blames w env d number offset
  pub least : (m p : ℕ) → Blames w env d m p → offset ≤ p
