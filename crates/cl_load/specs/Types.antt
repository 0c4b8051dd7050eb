-- The types of an application on the host types that are handed in, and what is wrong with those that declarations have.
use Rattle.std.specs.Prelude.{◌≡◌, ℕ, ℤ, pos, Bool, is_some, if◌then◌else◌, List, [], ◌∷◌, Option, Some, None, map}
use Rattle.cl_value.specs.Data.{Data}
use Rattle.cl_syntax.specs.TypeSpecTree.{TypeSpecTree}
use Rattle.cl_syntax.specs.declared.type_decls.CommandType.{CommandType}
use Rattle.cl_syntax.specs.declared.type_decls.HostBound.{HostBound}
use Rattle.cl_application.specs.declared.applications.App.{App}
use Rattle.cl_application.specs.declared.declarations.ArgumentDecl.{ArgumentDecl}
use Rattle.cl_application.specs.declared.declarations.CommandDecl.{CommandDecl}
use Rattle.cl_application.specs.declared.declarations.HostDecl.{HostDecl}
use Rattle.cl_expressions.specs.Load.{Notes}
use Rattle.cl_declare.specs.declared.declarations.Declarations.{Declarations}
use Rattle.cl_arguments.specs.Misfits.{IsMisfit}
use Rattle.cl_lattice.specs.Expansion.{expansion}
use Rattle.cl_lattice.specs.Firsts.{IsFirst, IsFirstLarge, StandsOnRing, offset_of}
use Rattle.cl_lattice.specs.Members.{is_member}
use Rattle.cl_lattice.specs.World.{World, world_with}
use Rattle.cl_phases.specs.Earlier.{earlier}
use Rattle.cl_ptext.specs.Methods.{predicates_of}
use Rattle.cl_tables.specs.Rings.{IsFirstOnRing}

-- the least and the greatest number of a host type, by its name; None where there is no such host type
abbrev pub Bounds : Type 0
Bounds = List ℕ → Option (ℤ × ℤ)

-- a host type of the text with its bounds: 0 and 0 where it has none, as in no application that loads
abbrev pub bound_with : HostDecl → Option (ℤ × ℤ) → HostBound
bound_with h None = record { name = h.name; low = pos 0; high = pos 0; at = h.at }
bound_with h (Some b) = record { name = h.name; low = b.0; high = b.1; at = h.at }

-- the bounds of a host type, as they are handed in
abbrev pub host_bound : Bounds → HostDecl → HostBound
host_bound bounds h = bound_with h (bounds h.name)

-- those of all host types, by their names
abbrev pub host_bounds : Bounds → List (List ℕ × HostDecl) → List (List ℕ × HostBound)
host_bounds bounds hosts = map (λ e. (e.0, host_bound bounds e.1)) hosts

-- the types of arguments
abbrev pub argument_types : List (List ℕ × ArgumentDecl) → List TypeSpecTree
argument_types arguments = map (λ e. e.1.spec) arguments

-- a command with the types of its arguments
abbrev pub command_type : CommandDecl → CommandType
command_type c = record { name = c.name; args = argument_types c.arguments; at = c.at }

-- all commands with the types of their arguments
abbrev pub command_types : List (List ℕ × CommandDecl) → List (List ℕ × CommandType)
command_types commands = map (λ e. (e.0, command_type e.1)) commands

-- the types of an application
abbrev pub types_in : Bounds → App → World
types_in bounds app = world_with app.records app.types (host_bounds bounds app.hosts) (command_types app.commands)

-- whether a value is a member of a type, by the types and the predicates of an application
abbrev pub holds_in : World → App → Data → TypeSpecTree → Bool
holds_in w app d s = is_member w (predicates_of app) d (expansion w [] s)

-- ---- declarations

-- the types that are declared
abbrev pub declared_types : Bounds → Declarations → World
declared_types bounds s = world_with s.records s.types (host_bounds bounds s.hosts) (command_types s.commands)

-- the offset of the first declaration of a user type on a ring
abbrev pub FindsTypeRing : Bounds → Declarations → Option ℕ → Type 0
FindsTypeRing bounds s ring = IsFirst (StandsOnRing (declared_types bounds s)) offset_of s.types ring

-- the offset of the first declaration of a user type or a command table on a ring
pub record FindsRing (bounds : Bounds) (s : Declarations) (ring : Option ℕ) : Type 0 where
  pub user_type : Option ℕ
  pub type_found : FindsTypeRing bounds s user_type
  pub table : Option ℕ
  pub table_found : IsFirstOnRing s.tables s.tables table
  pub first : ring ≡ earlier table user_type

-- the offset of the first specifier with an argument that comes to stand where it is not taken
abbrev pub FindsMisfit : Declarations → Notes → Option ℕ → Type 0
FindsMisfit s notes misfit = IsFirst (IsMisfit s.types) (λ p. p.at) notes.specifiers misfit

-- the offset of the first specifier whose expansion is past the limits; if there is none, of the first user type that inherits from one
abbrev pub FindsLarge : Bounds → Declarations → Notes → Option ℕ → Type 0
FindsLarge bounds s notes large = IsFirstLarge (declared_types bounds s) notes.specifiers s.types large

-- the offset of the first declaration of a host type of which there is none
abbrev pub first_missing : Bounds → List (List ℕ × HostDecl) → Option ℕ
first_missing bounds [] = None
first_missing bounds (e ∷ hosts) = if is_some (bounds e.1.name) then first_missing bounds hosts else Some e.1.at
