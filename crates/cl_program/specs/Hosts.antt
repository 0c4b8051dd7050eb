-- The host types that are handed in, and what the types of an application say of values on them.
use Rattle.std.specs.Prelude.{ℕ, ℤ, List, [], Option}
use Rattle.cl_application.specs.declared.applications.App.{App}
use Rattle.cl_eval.specs.TypeMeanings.{Presents, Reads, TypeMeanings}
use Rattle.cl_lattice.specs.Expansion.{expansion}
use Rattle.cl_lattice.specs.World.{World}
use Rattle.cl_load.specs.Types.{Bounds, holds_in}
use Rattle.cl_ptext.specs.Hosts.{NameEntries}
use Rattle.cl_ptext.specs.Methods.{read_object}
use Rattle.cl_ptext.specs.Readings.{reading}
use Rattle.cl_ptext.specs.Texts.{outcome_of_text}

-- the names of each host type with their numbers, by the name of the type
abbrev pub HostNames : Type 0
HostNames = List ℕ → NameEntries

-- the least and the greatest number of each host type, and its names
pub record HostMeanings : Type 0 where
  pub bounds : Bounds
  pub names : HostNames

-- what host types mean, by their least and greatest numbers and by their names
abbrev pub hosts_of : {H : Type 0} → (H → List ℕ → Option (ℤ × ℤ)) → (H → List ℕ → NameEntries) → H → HostMeanings
hosts_of bounds names hosts = record { bounds = bounds hosts; names = names hosts }

-- the text of a value by a type, by the types and the present methods of an application and the names of host types
abbrev pub presents_in : HostNames → World → App → Presents
presents_in names w app limits slots s d = outcome_of_text (record { app = app; world = w; hosts = names }) limits slots (expansion w [] s) s d

-- what the types of an application say of values, with host types of these names
abbrev pub meanings_in : HostNames → World → App → TypeMeanings
meanings_in names w app = record { holds = holds_in w app; presents = presents_in names w app }

-- the object that a text reads as by a type, by the types and the accept methods of an application and the names of host types
abbrev pub reads_in : HostNames → World → App → Reads
reads_in names w app slots s x = read_object (reading (record { app = app; world = w; hosts = names }) slots (expansion w [] s) s x)
