-- Lemmas on the texts of lines.
use Rattle.std.proofs.Common.{◌≡◌, ℕ, suc, ◌+◌, List, [], ◌∷◌, ◌++◌, append_assoc, add-one, refl, sym, ap, ◌∙◌}
use Rattle.cl_gen.specs.Workload.{joined, set_lines, sets_to, front_lines, gestures_text}

pub joined-append : (lines more : List (List ℕ)) → joined (lines ++ more) ≡ joined lines ++ joined more
joined-append [] more = refl
joined-append (line ∷ lines) more =
    ap (λ rest. line ++ (10 ∷ rest)) (joined-append lines more) ∙ sym (append_assoc line (10 ∷ joined lines) (joined more))

-- the lines for one more key
pub sets-more : (n : ℕ) → joined (sets_to (n + 1)) ≡ joined (sets_to n) ++ joined (set_lines (n + 1))
sets-more n = rw add-one (joined-append (sets_to n) (set_lines (suc n)))

pub whole-gestures : (n : ℕ) → gestures_text n ≡ joined (sets_to n) ++ joined front_lines
unfolding gestures_text
whole-gestures n = joined-append (sets_to n) front_lines
