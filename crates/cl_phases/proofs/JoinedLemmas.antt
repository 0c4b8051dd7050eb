-- A table and a name in it, with a space between them.
use Rattle.std.proofs.Common.{◌≡◌, ◌≢◌, ℕ, List, [], ◌∷◌, refl, sym, ap, ◌∙◌}
use Rattle.std.specs.Prelude.{◌↔◌, All}
use Rattle.std.proofs.lemmas.List.Elements.{All-head, All-tail}
use Rattle.cl_phases.specs.CommandNames.{joined}

apart : (s t x y : List ℕ) → All (λ b. b ≢ 32) s → All (λ b. b ≢ 32) t → joined s x ≡ joined t y → (s ≡ t) × (x ≡ y)
apart [] [] x y a b h = (refl, cc)
apart [] (c ∷ t) x y a b h =
    let space : 32 ≡ c = cc in
    absurd (All-head (λ d. d ≢ 32) c t b (sym space))
apart (c ∷ s) [] x y a b h =
    let space : c ≡ 32 = cc in
    absurd (All-head (λ d. d ≢ 32) c s a space)
apart (c ∷ s) (d ∷ t) x y a b h =
    let same : c ≡ d = cc in
    let rest : joined s x ≡ joined t y = cc in
    let more : (s ≡ t) × (x ≡ y) = apart s t x y (All-tail (λ e. e ≢ 32) c s a) (All-tail (λ e. e ≢ 32) d t b) rest in
    (ap (λ (e : ℕ). e ∷ s) same ∙ ap (λ (l : List ℕ). d ∷ l) more.0, more.1)

pub same_parts : (s t x y : List ℕ) → All (λ b. b ≢ 32) s → All (λ b. b ≢ 32) t → joined s x ≡ joined t y ↔ ((s ≡ t) × (x ≡ y))
same_parts s t x y a b = (apart s t x y a b, λ e. ap (λ (l : List ℕ). joined l x) e.0 ∙ ap (joined t) e.1)
