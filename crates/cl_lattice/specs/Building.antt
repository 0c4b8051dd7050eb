-- What building a lattice answers.
use Rattle.std.specs.Prelude.{◌≡◌, ℕ, true, List, Some, None, Result, Ok, Err, All}
use Rattle.cl_syntax.specs.declared.type_decls.TypeDecls.{TypeDecls}
use Rattle.cl_lattice.specs.Firsts.{IsFirst, IsFirstLarge, offset_of, StandsOnRing, InheritsTooMuch, IsTooLarge}
use Rattle.cl_lattice.specs.Rings.{IsOnRing}
use Rattle.cl_lattice.specs.Sizes.{fits}
use Rattle.cl_lattice.specs.World.{World, world_of}
use Rattle.cl_lattice.specs.declared.building.BuildRefusal.{BuildRefusal}
use Rattle.cl_lattice.specs.declared.building.BuildRefusal.TheVariants.{Cycle, Large, Memory}

-- no user type is on a ring
abbrev pub NoRing : World → Type 0
NoRing w = (x : List ℕ) → IsOnRing w x → ⊥

-- a lattice of these declarations: it is their world, there is no ring, and each placed specifier is within the limits
pub record IsLatticeOf (ds : TypeDecls) (w : World) : Type 0 where
  pub is_world : w ≡ world_of ds
  pub no_ring : NoRing w
  pub placed_fit : All (λ p. fits w p.spec ≡ true) ds.specs.now

-- why there is no lattice: the first declaration on a ring, the first specifier past the limits, or want of memory
abbrev pub IsRefused : TypeDecls → World → BuildRefusal → Type 0
IsRefused ds w (Cycle at) = IsFirst (StandsOnRing w) offset_of ds.types.now (Some at)
IsRefused ds w (Large at) = NoRing w × IsFirstLarge w ds.specs.now ds.types.now (Some at)
IsRefused ds w Memory = Unit {0}

-- what building a lattice answers: a lattice of the declarations, or why there is none
abbrev pub Builds : Result World BuildRefusal → TypeDecls → Type 0
Builds (Ok w) ds = IsLatticeOf ds w
Builds (Err e) ds = IsRefused ds (world_of ds) e

-- ---- what is found on the way

-- all that a lattice asks of its types
pub record IsSound (ds : TypeDecls) (w : World) : Type 0 where
  pub no_ring : IsFirst (StandsOnRing w) offset_of ds.types.now None
  pub placed : IsFirst (IsTooLarge w) (λ p. p.at) ds.specs.now None
  pub types : IsFirst (InheritsTooMuch w) offset_of ds.types.now None

-- what is found of a world: all that a lattice asks holds, or why there is no lattice
abbrev pub Finds : Result (Unit {0}) BuildRefusal → TypeDecls → World → Type 0
Finds (Ok u) ds w = IsSound ds w
Finds (Err e) ds w = IsRefused ds w e
