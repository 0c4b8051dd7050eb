-- A value by the case of a test.
use Rattle.std.proofs.Common.{◌≡◌, Bool, true, false, if◌then◌else◌, refl}

-- it is the chosen one
pub chosen : {A : Type 0} (b : Bool) (p q r : A) → (b ≡ true → r ≡ p) → (b ≡ false → r ≡ q) → r ≡ (if b then p else q)
chosen true p q r f g = f refl
chosen false p q r f g = g refl

-- the chosen one is it
pub choice_is : {A : Type 0} (b : Bool) (p q r : A) → (b ≡ true → p ≡ r) → (b ≡ false → q ≡ r) → (if b then p else q) ≡ r
choice_is true p q r f g = f refl
choice_is false p q r f g = g refl
