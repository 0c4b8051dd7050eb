-- The pieces of a text, joined again.
use Rattle.std.proofs.Common.{◌≡◌, ℕ, Bool, true, false, List, [], ◌∷◌, ◌++◌, refl, ap, sym, arith, ◌∙◌, if◌then◌else◌}
use Rattle.std.specs.Prelude.{◌&&◌, ◌==◌}
use Rattle.std.proofs.lemmas.Bool.Decides.{nat_tests}
use Rattle.std.proofs.lemmas.List.{append_assoc}
use Rattle.cl_ptext.specs.Parts.{each_behind, joined_pieces, may_end, pieces, pieces_from, stage_behind}
use Rattle.cl_ptext.specs.declared.pieces.Stage.{Stage}
use Rattle.cl_ptext.specs.declared.pieces.Stage.TheVariants.{Leading}

second : (a b : Bool) → (a && b) ≡ true → b ≡ true
second true b h = h
second false b h = cc

-- the byte at which a piece ends is the separator
at_end : (s : ℕ) (st : Stage) (b : ℕ) → (may_end st && b == s) ≡ true → b ≡ s
at_end s st b h = let same : (b == s) ≡ true = second (may_end st) (b == s) h in grind (arith, nat_tests, same)

behind_by : (s : ℕ) (st : Stage) (p : List ℕ) (b : ℕ) (bs : List ℕ) (t : Bool) → (t ≡ true → b ≡ s) → each_behind s (pieces_from s Leading [] bs) ≡ s ∷ bs
    → each_behind s (pieces_from s (stage_behind st b) (p ++ b ∷ []) bs) ≡ s ∷ ((p ++ b ∷ []) ++ bs)
    → each_behind s (if t then p ∷ pieces_from s Leading [] bs else pieces_from s (stage_behind st b) (p ++ b ∷ []) bs) ≡ s ∷ (p ++ b ∷ bs)
behind_by s st p b bs true e g h = ap (λ x. s ∷ (p ++ x)) (g ∙ ap (λ c. c ∷ bs) (sym (e refl)))
behind_by s st p b bs false e g h = h ∙ ap (λ x. s ∷ x) (append_assoc p (b ∷ []) bs)

behind : (s : ℕ) (st : Stage) (p bs : List ℕ) → each_behind s (pieces_from s st p bs) ≡ s ∷ (p ++ bs)
behind s st p [] = refl
behind s st p (b ∷ bs) = behind_by s st p b bs (may_end st && b == s) (at_end s st b) (behind s Leading [] bs) (behind s (stage_behind st b) (p ++ b ∷ []) bs)

joined_by : (s : ℕ) (st : Stage) (p : List ℕ) (b : ℕ) (bs : List ℕ) (t : Bool) → (t ≡ true → b ≡ s) → each_behind s (pieces_from s Leading [] bs) ≡ s ∷ bs
    → joined_pieces s (pieces_from s (stage_behind st b) (p ++ b ∷ []) bs) ≡ (p ++ b ∷ []) ++ bs
    → joined_pieces s (if t then p ∷ pieces_from s Leading [] bs else pieces_from s (stage_behind st b) (p ++ b ∷ []) bs) ≡ p ++ b ∷ bs
joined_by s st p b bs true e g h = ap (λ x. p ++ x) (g ∙ ap (λ c. c ∷ bs) (sym (e refl)))
joined_by s st p b bs false e g h = h ∙ append_assoc p (b ∷ []) bs

joined : (s : ℕ) (st : Stage) (p bs : List ℕ) → joined_pieces s (pieces_from s st p bs) ≡ p ++ bs
joined s st p [] = refl
joined s st p (b ∷ bs) = joined_by s st p b bs (may_end st && b == s) (at_end s st b) (behind s Leading [] bs) (joined s (stage_behind st b) (p ++ b ∷ []) bs)

pub nothing_lost : (s : ℕ) (x : List ℕ) → joined_pieces s (pieces s x) ≡ x
nothing_lost s [] = refl
nothing_lost s (b ∷ bs) = joined s Leading [] (b ∷ bs)
