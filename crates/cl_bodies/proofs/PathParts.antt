-- The parts of a path: a slot is read as in an expression, and a field of any other number of parts is refused.
use Rattle.std.proofs.Common.{◌≡◌, ℕ, length, map, List, [], ◌∷◌, refl, sym}
use Rattle.std.specs.Prelude.{Option, Some, Result, Err}
use Rattle.std.proofs.Math.Path.{subst}
use Rattle.cl_syntax.specs.ExprTree.{ExprTree}
use Rattle.cl_forms.specs.Datum.{datums_of}
use Rattle.cl_forms.specs.DatumView.{datum_of}
use Rattle.cl_expressions.specs.Load.{Notes, Fault, Gives, itself}
use Rattle.cl_expressions.specs.Scopes.{Names}
use Rattle.cl_expressions.specs.Expressions.{subs, parse_slot, parse_get}
use Rattle.cl_forms.specs.declared.datum.Datum.{Datum}
use Rattle.cl_forms.specs.declared.refusals.FormRefusal.{FormRefusal}
use Rattle.cl_words.specs.declared.heads.Head.{Head}
use Rattle.cl_words.specs.declared.heads.Head.TheVariants as head
use Rattle.cl_words.specs.declared.heads.Special.TheVariants as special
use Rattle.cl_words.specs.declared.signatures.Signatures.{Signatures}
use Rattle.cl_bodies.specs.Paths.{parse_path_head, path_subs}

slot_path : (w : Signatures) (at : ℕ) (ds : List Datum) (s : Notes)
    → parse_slot w at (path_subs w (datums_of (map datum_of ds))) s ≡ parse_slot w at (subs w (datums_of (map datum_of ds))) s
slot_path w at [] s = refl
slot_path w at (a ∷ []) s = refl
slot_path w at (a ∷ b ∷ ds) s = refl

pub slot_read : (w : Signatures) (o : Option Head) (head_at at : ℕ) (ds : List Datum) (env : Names) (s : Notes) (r : Result ExprTree FormRefusal) (t : Notes)
    → o ≡ Some (head.Special special.Slot) → Gives itself r t (parse_slot w at (subs w (datums_of (map datum_of ds))) s)
    → Gives itself r t (parse_path_head w o head_at at (path_subs w (datums_of (map datum_of ds))) env s)
slot_read w o head_at at ds env s r t e h =
    subst (λ p. Gives itself r t (parse_path_head w p head_at at (path_subs w (datums_of (map datum_of ds))) env s)) (sym e)
    (subst (λ (q : Result (ExprTree × Notes) Fault). Gives itself r t q) (sym (slot_path w at ds s)) h)

pub field_counts : (w : Signatures) (at : ℕ) (ds : List Datum) (env : Names) (s : Notes) → (length ds ≡ 2 → ⊥)
    → parse_get at (path_subs w (datums_of (map datum_of ds))) env s ≡ Err (6, at)
field_counts w at [] env s h = refl
field_counts w at (a ∷ []) env s h = refl
field_counts w at (a ∷ b ∷ []) env s h = absurd (h refl)
field_counts w at (a ∷ b ∷ c ∷ ds) env s h = refl
