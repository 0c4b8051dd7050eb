-- One more declaration in a table.
use Rattle.std.proofs.Common.{◌≡◌, ◌++◌, ◌==◌, ◌∙◌, Bool, false, List, [], ◌∷◌, None, ℕ, refl}
use Rattle.std.specs.Prelude.{Result, Ok, Err, OnOk, OnErr}
use Rattle.std.specs.Cmp.Lexicographic.{pointwise}
use Rattle.indexmap.specs.IndexMap.{insert_entry}
use Rattle.indexmap.proofs.MapLemmas.{absent_from_lookup, insert_entry-absent}
use Rattle.std.proofs.lemmas.Cmp.{nat_list_eq_equiv}
use Rattle.std.proofs.lemmas.List.Elements.{All-push}
use Rattle.std.proofs.lemmas.Map.{NonePasses, lookup-none, none_passes_from_lookup}
use Rattle.cl_table.specs.Names.{named, Differ, IsTable}

none_more : {D : Type 0} (t : List ℕ → Bool) (es : List (List ℕ × D)) (e : List ℕ × D) → NonePasses t es → t e.0 ≡ false → NonePasses t (es ++ e ∷ [])
none_more t [] e n h = (h, tt)
none_more t (f ∷ es) e n h = (n.0, none_more t es e n.1 h)

differ_more : {D : Type 0} (es : List (List ℕ × D)) (x : List ℕ) (d : D) → named x es ≡ None → Differ es → Differ (es ++ (x, d) ∷ [])
differ_more [] x d n h = (refl, tt)
differ_more (e ∷ es) x d n h =
    let none : NonePasses (pointwise ◌==◌ x) (e ∷ es) = none_passes_from_lookup (pointwise ◌==◌ x) (e ∷ es) n in (
      lookup-none (pointwise ◌==◌ e.0) (es ++ (x, d) ∷ [])
          (none_more (pointwise ◌==◌ e.0) es (x, d) (none_passes_from_lookup (pointwise ◌==◌ e.0) es h.0) (nat_list_eq_equiv.symm e.0 x ∙ none.0)),
      differ_more es x d (lookup-none (pointwise ◌==◌ x) es none.1) h.1,
    )

pub table_more : {D : Type 0} (own : D → List ℕ) (es : List (List ℕ × D)) (x : List ℕ) (d : D) → x ≡ own d → named x es ≡ None → IsTable own es
    → IsTable own (es ++ (x, d) ∷ [])
table_more own es x d e n t =
    record { owned = All-push (λ f. f.0 ≡ own f.1) es (x, d) t.owned e; differ = differ_more es x d n t.differ }

-- what an insertion leaves, where no declaration stood under the name
pub table_inserted : {D A F : Type 0} (own : D → List ℕ) (r : Result A F) (old new : List (List ℕ × D)) (x : List ℕ) (d : D)
    → OnOk r (new ≡ insert_entry (pointwise ◌==◌) old x d) → OnErr r (new ≡ old) → x ≡ own d → named x old ≡ None → IsTable own old → IsTable own new
table_inserted own (Ok a) old new x d ok err e n t =
    rw (ok, insert_entry-absent (pointwise ◌==◌) x d old (absent_from_lookup (pointwise ◌==◌ x) old n)) (table_more own old x d e n t)
table_inserted own (Err f) old new x d ok err e n t = rw err t
