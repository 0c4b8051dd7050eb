-- Which form is to blame where a datum is no display form or no statement, with the number of the refusal and the offset.
use Rattle.std.specs.Prelude.{◌≡◌, ℕ, ◌≤◌, false, List, ◌∷◌}
use Rattle.cl_forms.specs.Datum.{Datum, Datums, list, in_order, offset}
use Rattle.cl_words.specs.declared.signatures.Signatures.{Signatures}
use Rattle.cl_expressions.specs.Scopes.{Names}
use Rattle.cl_declare.specs.Names.{is_list}
use Rattle.cl_grammar.specs.Sights.{Seen}
use Rattle.cl_grammar.specs.Blames.{BlamesAny}
use Rattle.cl_text_grammar.specs.Types.{TypePart, TypeBlames}
use Rattle.cl_text_grammar.specs.FormSights.{FormSeen, expressions, specifier, form, FormSight, Misshapen, UnknownHead, PlannedHead, Sees, shape_seen, act_seen}

mutual
  -- in the datum, which is a form of a language and sees these variables, a form is blamed with this number at this offset
  pub data FormBlames (seen : Names → List Datum → FormSight) (w : Signatures) : Names → Datum → ℕ → ℕ → Type 0 where
    an_atom : {env : Names} {d : Datum} → is_list d ≡ false → FormBlames seen w env d 6 (offset d)
    a_misshapen_form : {env : Names} {ds : Datums} {at : ℕ} → seen env (in_order ds) ≡ Misshapen → FormBlames seen w env (list ds at) 6 at
    an_unknown_head : {env : Names} {ds : Datums} {at head_at : ℕ} → seen env (in_order ds) ≡ UnknownHead head_at
        → FormBlames seen w env (list ds at) 5 head_at
    a_planned_head : {env : Names} {ds : Datums} {at head_at : ℕ} → seen env (in_order ds) ≡ PlannedHead head_at
        → FormBlames seen w env (list ds at) 0 head_at
    in_a_part : {env : Names} {ds : Datums} {at : ℕ} {ps : List FormSeen} {number offset : ℕ}
        → seen env (in_order ds) ≡ Sees ps → FormBlamesAny seen w ps number offset → FormBlames seen w env (list ds at) number offset

  -- in one of the parts
  pub data FormBlamesAny (seen : Names → List Datum → FormSight) (w : Signatures) : List FormSeen → ℕ → ℕ → Type 0 where
    in_expressions : {qs : List Seen} {ps : List FormSeen} {number offset : ℕ} → BlamesAny w qs number offset
        → FormBlamesAny seen w (expressions qs ∷ ps) number offset
    in_a_type : {ts : List TypePart} {ps : List FormSeen} {number offset : ℕ} → TypeBlames ts number offset
        → FormBlamesAny seen w (specifier ts ∷ ps) number offset
    in_the_form : {env : Names} {d : Datum} {ps : List FormSeen} {number offset : ℕ} → FormBlames seen w env d number offset
        → FormBlamesAny seen w (form env d ∷ ps) number offset
    in_a_later : {p : FormSeen} {ps : List FormSeen} {number offset : ℕ} → FormBlamesAny seen w ps number offset
        → FormBlamesAny seen w (p ∷ ps) number offset

-- in the datum as a display form
abbrev pub ShapeBlames : Signatures → Names → Datum → ℕ → ℕ → Type 0
ShapeBlames w = FormBlames (shape_seen w) w

-- in the datum as a statement
abbrev pub ActBlames : Signatures → Names → Datum → ℕ → ℕ → Type 0
ActBlames w = FormBlames act_seen w

-- this is blamed, and nothing at a smaller offset
pub record IsFirst (blames : ℕ → ℕ → Type 0) (number offset : ℕ) : Type 0 where
  pub blamed : blames number offset
  pub least : (m p : ℕ) → blames m p → offset ≤ p
