-- What is true of each lattice.
use Rattle.std.specs.Prelude.{◌≡◌, ℕ, true, List, Option, Some, None}
use Rattle.cl_table.specs.Names.{named}
use Rattle.cl_lattice.specs.Precedence.{precedence}
use Rattle.cl_lattice.specs.Rings.{IsUserType}
use Rattle.cl_lattice.specs.Sizes.{fits}
use Rattle.cl_lattice.specs.World.{World}
use Rattle.cl_lattice.specs.declared.declared_types.UserType.{UserType}
use Rattle.cl_lattice.specs.declared.lattices.Precedence.{Precedence}

-- what each user type inherits from is within the limits
pub record AllFit (w : World) : Type 0 where
  pub fits_each : (x : List ℕ) (u : UserType) → IsUserType w x u → fits w u.inherit_from ≡ true

-- the names of a precedence list, where there is one
abbrev pub names_listed : Option Precedence → Option (List (List ℕ))
names_listed None = None
names_listed (Some p) = Some p.names

-- what user types inherit from is within the limits, and the precedence list of each name stands in the table
pub record IsLattice (w : World) (precedences : List (List ℕ × Precedence)) : Type 0 where
  pub fit : AllFit w
  pub listed : (x : List ℕ) → names_listed (named x precedences) ≡ precedence w x
