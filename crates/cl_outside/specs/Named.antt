-- Lists of things by name. Of two of one name the first counts.
use Rattle.std.specs.Prelude.{◌≡◌, ℕ, ◌<◌, zero, suc, List, [], ◌∷◌, Option, None, Some, length, if◌then◌else◌, unwrap_or}
use Rattle.std.specs.Str.{bytes_eq}

-- the thing of this name
abbrev pub found : {X : Type 0} → List (List ℕ × X) → List ℕ → Option X
found [] name = None
found (e ∷ es) name = if bytes_eq e.0 name then Some e.1 else found es name

-- the first place of this name, and the length where there is none
abbrev pub place_in : {X : Type 0} → List (List ℕ × X) → List ℕ → ℕ
place_in [] name = 0
place_in (e ∷ es) name = if bytes_eq e.0 name then 0 else suc (place_in es name)

-- the name at a place, and the empty one past the end
abbrev pub name_at : {X : Type 0} → List (List ℕ × X) → ℕ → List ℕ
name_at [] k = []
name_at (e ∷ es) zero = e.0
name_at (e ∷ es) (suc k) = name_at es k

-- a place that is the first of its name
pub record IsFirst {X : Type 0} (es : List (List ℕ × X)) (k : ℕ) : Type 0 where
  pub below : k < length es
  pub first : place_in es (name_at es k) ≡ k

-- the thing of this name is that one now; it stands last where there was none
abbrev pub updated : {X : Type 0} → List (List ℕ × X) → List ℕ → X → List (List ℕ × X)
updated [] name thing = (name, thing) ∷ []
updated (e ∷ es) name thing = if bytes_eq e.0 name then (e.0, thing) ∷ es else e ∷ updated es name thing

-- the bytes of this name, and none where there is no such file
abbrev pub bytes_of : List (List ℕ × List ℕ) → List ℕ → List ℕ
bytes_of es name = unwrap_or (found es name) []

-- the count of this name, and 0 where there is none
abbrev pub count_of : List (List ℕ × ℕ) → List ℕ → ℕ
count_of es name = unwrap_or (found es name) 0
