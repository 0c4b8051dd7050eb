-- Which names of a display form or of a statement, at which offsets, are not declared.
use Rattle.std.specs.Prelude.{◌≡◌, ℕ, Bool, false, List, ◌∷◌}
use Rattle.cl_forms.specs.Datum.{Datum, Datums, list, in_order}
use Rattle.cl_words.specs.Signatures.{command_in, dialog_in}
use Rattle.cl_words.specs.declared.signatures.Signatures.{Signatures}
use Rattle.cl_expressions.specs.Scopes.{Names}
use Rattle.cl_grammar.specs.Sights.{Seen}
use Rattle.cl_grammar.specs.Unnamed.{UnnamedAny}
use Rattle.cl_text_grammar.specs.Types.{TypePart, TypeUnnamed}
use Rattle.cl_text_grammar.specs.FormSights.{NameSpace, commands, dialogs, FormSeen, expressions, specifier, name_among, form, FormSight, Sees, shape_seen, act_seen}

-- a command has this name, or a dialog
abbrev pub is_declared : Signatures → NameSpace → List ℕ → Bool
is_declared w commands x = command_in w x
is_declared w dialogs x = dialog_in w x

mutual
  -- in the datum, which is a form of a language and sees these variables, a name at this offset is not declared
  pub data FormUnnamed (seen : Names → List Datum → FormSight) (w : Signatures) : Names → Datum → ℕ → Type 0 where
    in_a_part : {env : Names} {ds : Datums} {at : ℕ} {ps : List FormSeen} {offset : ℕ} → seen env (in_order ds) ≡ Sees ps
        → FormUnnamedAny seen w ps offset → FormUnnamed seen w env (list ds at) offset

  -- in one of the parts
  pub data FormUnnamedAny (seen : Names → List Datum → FormSight) (w : Signatures) : List FormSeen → ℕ → Type 0 where
    in_expressions : {qs : List Seen} {ps : List FormSeen} {offset : ℕ} → UnnamedAny w qs offset → FormUnnamedAny seen w (expressions qs ∷ ps) offset
    in_a_type : {ts : List TypePart} {ps : List FormSeen} {offset : ℕ} → TypeUnnamed w ts offset → FormUnnamedAny seen w (specifier ts ∷ ps) offset
    a_name : {k : NameSpace} {x : List ℕ} {at : ℕ} {ps : List FormSeen} → is_declared w k x ≡ false → FormUnnamedAny seen w (name_among k x at ∷ ps) at
    in_the_form : {env : Names} {d : Datum} {ps : List FormSeen} {offset : ℕ} → FormUnnamed seen w env d offset
        → FormUnnamedAny seen w (form env d ∷ ps) offset
    in_a_later : {p : FormSeen} {ps : List FormSeen} {offset : ℕ} → FormUnnamedAny seen w ps offset → FormUnnamedAny seen w (p ∷ ps) offset

-- in the datum as a display form
abbrev pub ShapeUnnamed : Signatures → Names → Datum → ℕ → Type 0
ShapeUnnamed w = FormUnnamed (shape_seen w) w

-- in the datum as a statement
abbrev pub ActUnnamed : Signatures → Names → Datum → ℕ → Type 0
ActUnnamed w = FormUnnamed act_seen w
