-- The dialogs that are left at a place among them.
use Rattle.std.proofs.Common.{◌≡◌, ◌+◌, inl, inr, ℕ, zero, suc, length, drop, List, [], ◌∷◌, sym, ap, subst, arith}
use Rattle.std.specs.Prelude.{◌↔◌, Bool, false, IsTrue, Option, Some, None}
use Rattle.cl_application.specs.declared.declarations.DialogDecl.{DialogDecl}
use Rattle.cl_table.specs.Names.{declared_at}
use Rattle.cl_lattice.specs.Firsts.{IsFirst}
use Rattle.cl_phases.specs.SlotReads.{ElsesRead, Functions}
use Rattle.cl_opening.specs.Readings.{DialogReads, dialog_offset}

abbrev pub DialogTable : Type 0
DialogTable = List (List ℕ × DialogDecl)

-- what the dialogs from a place on say of all of them
pub record DialogsLeft (fs : Functions) (dialogs left : DialogTable) : Type 0 where
  pub first : (r : Option ℕ) → IsFirst (DialogReads fs) dialog_offset left r → IsFirst (DialogReads fs) dialog_offset dialogs r

pub dialogs_start : (fs : Functions) (dialogs : DialogTable) → DialogsLeft fs dialogs dialogs
dialogs_start fs dialogs = record { first = λ r x. x }

-- the dialog at a place has no `:else` that reads a slot, and so the others decide
dialog_on : (fs : Functions) (dialogs : DialogTable) (i : ℕ) (d : DialogDecl) → Some d ≡ declared_at i dialogs → (ElsesRead fs d.queries → ⊥) → (r : Option ℕ)
    → IsFirst (DialogReads fs) dialog_offset (drop (suc i) dialogs) r → IsFirst (DialogReads fs) dialog_offset (drop i dialogs) r
dialog_on fs [] zero d h n r x = cc
dialog_on fs [] (suc i) d h n r x = cc
dialog_on fs (e ∷ dialogs) zero d h n None x =
    let same : d ≡ e.1 = cc in (subst (λ (c : DialogDecl). ElsesRead fs c.queries → ⊥) same n, x)
dialog_on fs (e ∷ dialogs) zero d h n (Some k) x =
    let same : d ≡ e.1 = cc in inr (subst (λ (c : DialogDecl). ElsesRead fs c.queries → ⊥) same n, x)
dialog_on fs (e ∷ dialogs) (suc i) d h n r x = dialog_on fs dialogs i d h n r x

pub dialogs_next : (fs : Functions) (dialogs : DialogTable) (i : ℕ) (d : DialogDecl) → Some d ≡ declared_at i dialogs → (ElsesRead fs d.queries → ⊥)
    → DialogsLeft fs dialogs (drop i dialogs) → DialogsLeft fs dialogs (drop (i + 1) dialogs)
dialogs_next fs dialogs i d h n left =
    let next : i + 1 ≡ suc i = omega arith in
    subst (λ (k : ℕ). DialogsLeft fs dialogs (drop k dialogs)) (sym next) (record { first = λ r x. left.first r (dialog_on fs dialogs i d h n r x) })

-- the dialog at a place is the first with one
dialog_here : (fs : Functions) (dialogs : DialogTable) (i : ℕ) (d : DialogDecl) → Some d ≡ declared_at i dialogs → ElsesRead fs d.queries
    → IsFirst (DialogReads fs) dialog_offset (drop i dialogs) (Some d.at)
dialog_here fs [] zero d h p = cc
dialog_here fs [] (suc i) d h p = cc
dialog_here fs (e ∷ dialogs) zero d h p =
    let same : d ≡ e.1 = cc in inl (subst (λ (c : DialogDecl). ElsesRead fs c.queries) same p, ap (λ (c : DialogDecl). c.at) (sym same))
dialog_here fs (e ∷ dialogs) (suc i) d h p = dialog_here fs dialogs i d h p

-- past the last none does
dialogs_end : (fs : Functions) (dialogs : DialogTable) → IsFirst (DialogReads fs) dialog_offset (drop (length dialogs) dialogs) None
dialogs_end fs [] = tt
dialogs_end fs (e ∷ dialogs) = dialogs_end fs dialogs

pub dialogs_here : (fs : Functions) (dialogs : DialogTable) (i : ℕ) (d : DialogDecl) → Some d ≡ declared_at i dialogs → ElsesRead fs d.queries
    → DialogsLeft fs dialogs (drop i dialogs) → IsFirst (DialogReads fs) dialog_offset dialogs (Some d.at)
dialogs_here fs dialogs i d h p left = left.first (Some d.at) (dialog_here fs dialogs i d h p)

pub dialogs_done : (fs : Functions) (dialogs : DialogTable) → DialogsLeft fs dialogs (drop (length dialogs) dialogs)
    → IsFirst (DialogReads fs) dialog_offset dialogs None
dialogs_done fs dialogs left = left.first None (dialogs_end fs dialogs)

-- the answer no
pub dialog_reads_not : (b : Bool) (fs gs : Functions) (d : DialogDecl) → b ≡ false → fs ≡ gs → IsTrue b ↔ ElsesRead fs d.queries
    → ElsesRead gs d.queries → ⊥
dialog_reads_not b fs gs d answered same reads p =
    let yes : IsTrue b = reads.1 (subst (λ (hs : Functions). ElsesRead hs d.queries) (sym same) p) in cc
