-- What was hidden behind a place is seen again.
use Rattle.std.proofs.Common.{◌≡◌, ℕ, List, [], ◌∷◌, ◌++◌, length, take, refl, ap, ◌∙◌, append_assoc}
use Rattle.std.proofs.Math.Seq.{take-length}
use Rattle.std.proofs.lemmas.List.{take-append-le}
use Rattle.std.proofs.Common.{◌≤◌, arith}
use Rattle.cl_syntax.specs.ExprTree.{Bindings, unbound, binding}
use Rattle.cl_cover.specs.Sights.{behind, behind_all, back_to}
use Rattle.cl_cover.specs.declared.sights.Sight.{Sight}

-- the names in front are those that were hidden
front : (xs more : List (List ℕ)) → take (length xs) (xs ++ more) ≡ xs
front xs more =
    let whole : length xs ≤ length xs = omega arith in
    take-append-le (length xs) xs more whole ∙ take-length xs

ends : (xs : List (List ℕ)) → xs ≡ xs ++ []
ends [] = refl
ends (x ∷ xs) = ap (λ (ys : List (List ℕ)). x ∷ ys) (ends xs)

-- the names that bindings hide
hides : (bs : Bindings) (s : Sight) → (more : List (List ℕ)) × (behind_all bs s ≡ record { slots_alone = s.slots_alone; hidden = s.hidden ++ more })
hides unbound s = ([], λ i. record { slots_alone = s.slots_alone; hidden = ends s.hidden i })
hides (binding x t bs) s =
    let rest = hides bs (behind x s) in
    ((x ∷ []) ++ rest.0, rest.1 ∙ (λ i. record { slots_alone = s.slots_alone; hidden = append_assoc s.hidden (x ∷ []) rest.0 i }))

pub back_all : (bs : Bindings) (s : Sight) (n : ℕ) → n ≡ length s.hidden → back_to n (behind_all bs s) ≡ s
back_all bs s n e =
    let h = hides bs s in
    ap (λ (k : ℕ). back_to k (behind_all bs s)) e ∙ ap (back_to (length s.hidden)) h.1
    ∙ (λ i. record { slots_alone = s.slots_alone; hidden = front s.hidden h.0 i })

pub back_one : (x : List ℕ) (s : Sight) (n : ℕ) → n ≡ length s.hidden → back_to n (behind x s) ≡ s
back_one x s n e =
    ap (λ (k : ℕ). back_to k (behind x s)) e ∙ (λ i. record { slots_alone = s.slots_alone; hidden = front s.hidden (x ∷ []) i })

pub back_two : (x y : List ℕ) (s : Sight) (n : ℕ) → n ≡ length s.hidden → back_to n (behind y (behind x s)) ≡ s
back_two x y s n e =
    ap (λ (k : ℕ). back_to k (behind y (behind x s))) e
    ∙ (λ i. record { slots_alone = s.slots_alone; hidden = take (length s.hidden) (append_assoc s.hidden (x ∷ []) (y ∷ []) i) })
    ∙ (λ i. record { slots_alone = s.slots_alone; hidden = front s.hidden (x ∷ y ∷ []) i })
