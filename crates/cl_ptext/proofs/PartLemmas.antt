-- Spaces at the end of bytes.
use Rattle.std.proofs.Common.{◌≡◌, ℕ, Bool, true, false, List, [], ◌∷◌, ◌++◌, refl, ap, ◌∙◌}
use Rattle.std.specs.Prelude.{◌==◌, if◌then◌else◌}
use Rattle.cl_ptext.specs.Parts.{before_end, without_end}

-- a space at the end falls away
pub space_at_end : (bs : List ℕ) → without_end (bs ++ 32 ∷ []) ≡ without_end bs
space_at_end [] = refl
space_at_end (b ∷ bs) = ap (before_end b) (space_at_end bs)

-- one byte before others that end in no space
kept_end : (b c : ℕ) (bs : List ℕ) → before_end b (bs ++ c ∷ []) ≡ b ∷ (bs ++ c ∷ [])
kept_end b c [] = refl
kept_end b c (d ∷ bs) = refl

single : (c : ℕ) (t : Bool) → t ≡ false → (if t then [] else c ∷ []) ≡ c ∷ []
single c true h = cc
single c false h = refl

-- bytes that end in no space stay as they are
pub other_at_end : (bs : List ℕ) (c : ℕ) → (c == 32) ≡ false → without_end (bs ++ c ∷ []) ≡ bs ++ c ∷ []
other_at_end [] c h = single c (c == 32) h
other_at_end (b ∷ bs) c h = ap (before_end b) (other_at_end bs c h) ∙ kept_end b c bs
