-- The first of several that has a property.
use Rattle.std.specs.Prelude.{◌≡◌, ◌⊎◌, ℕ, Bool, true, false, not, List, [], ◌∷◌, Option, Some, None}
use Rattle.cl_syntax.specs.TypeSpecTree.{TypeSpecTree}
use Rattle.cl_syntax.specs.declared.type_decls.PlacedSpec.{PlacedSpec}
use Rattle.cl_syntax.specs.declared.type_decls.TypeDecl.{TypeDecl}
use Rattle.cl_lattice.specs.RingSearch.{inherited}
use Rattle.cl_lattice.specs.Rings.{IsOnRing}
use Rattle.cl_lattice.specs.Sizes.{fits}
use Rattle.cl_lattice.specs.World.{World}

-- Some offset: that of the first that has the property; None: none has it
abbrev pub IsFirst : {A : Type 0} → (A → Type 0) → (A → ℕ) → List A → Option ℕ → Type 0
IsFirst P at [] None = Unit {0}
IsFirst P at [] (Some n) = ⊥
IsFirst P at (a ∷ more) None = (P a → ⊥) × IsFirst P at more None
IsFirst P at (a ∷ more) (Some n) = (P a × (at a ≡ n)) ⊎ ((P a → ⊥) × IsFirst P at more (Some n))

-- the offset of a declaration of a table
abbrev pub offset_of : List ℕ × TypeDecl → ℕ
offset_of e = e.1.at

-- a declaration of a user type on a ring
abbrev pub StandsOnRing : World → List ℕ × TypeDecl → Type 0
StandsOnRing w e = IsOnRing w e.1.name

-- whether a specifier that may be there is past the limits
abbrev pub is_past : World → Option TypeSpecTree → Bool
is_past w None = false
is_past w (Some s) = not (fits w s)

-- a declaration of a user type, where what that inherits from is past the limits
abbrev pub InheritsTooMuch : World → List ℕ × TypeDecl → Type 0
InheritsTooMuch w e = is_past w (inherited w e.1.name) ≡ true

-- a placed specifier that is past the limits
abbrev pub IsTooLarge : World → PlacedSpec → Type 0
IsTooLarge w p = fits w p.spec ≡ false

-- the first placed specifier that is past the limits; if there is none, the first user type that inherits from one
abbrev pub IsFirstLarge : World → List PlacedSpec → List (List ℕ × TypeDecl) → Option ℕ → Type 0
IsFirstLarge w specs types None = IsFirst (IsTooLarge w) (λ p. p.at) specs None × IsFirst (InheritsTooMuch w) offset_of types None
IsFirstLarge w specs types (Some at) =
    IsFirst (IsTooLarge w) (λ p. p.at) specs (Some at)
    ⊎ (IsFirst (IsTooLarge w) (λ p. p.at) specs None × IsFirst (InheritsTooMuch w) offset_of types (Some at))
