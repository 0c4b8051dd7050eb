-- What an application declares of types, by name.
use Rattle.std.specs.Prelude.{ℕ, List, [], ◌∷◌, Option, Some, None, map}
use Rattle.cl_syntax.specs.declared.type_decls.CommandType.{CommandType}
use Rattle.cl_syntax.specs.declared.type_decls.HostBound.{HostBound}
use Rattle.cl_syntax.specs.declared.type_decls.RecordDecl.{RecordDecl}
use Rattle.cl_syntax.specs.declared.type_decls.TypeDecl.{TypeDecl}
use Rattle.cl_syntax.specs.declared.type_decls.TypeDecls.{TypeDecls}
use Rattle.cl_table.specs.Names.{named, with_first}
use Rattle.cl_lattice.specs.declared.declared_types.DeclaredType.{DeclaredType}
use Rattle.cl_lattice.specs.declared.declared_types.TypeKind.{TypeKind}
use Rattle.cl_lattice.specs.declared.declared_types.TypeKind.TheVariants as kind

-- the types that are no standard ones, and the commands with the types of their arguments, each by name
pub record World : Type 0 where
  pub types : List (List ℕ × DeclaredType)
  pub commands : List (List ℕ × CommandType)

-- the kind of a declared type, where there is one
abbrev pub kind_in : Option DeclaredType → Option TypeKind
kind_in None = None
kind_in (Some d) = Some d.kind

-- what a name stands for that is none of a standard type; None where it is not declared
abbrev pub kind_named : List ℕ → World → Option TypeKind
kind_named x w = kind_in (named x w.types)

-- ---- the world of some declarations

-- a record as a declared type
abbrev pub record_entry : List ℕ × RecordDecl → DeclaredType
record_entry e = record { name = e.1.name; kind = kind.Record }

-- a user type as a declared type
abbrev pub user_entry : List ℕ × TypeDecl → DeclaredType
user_entry e = record { name = e.1.name; kind = kind.User (record { parameters = e.1.parameters; inherit_from = e.1.inherit_from; satisfies = e.1.satisfies }) }

-- a host type as a declared type
abbrev pub host_entry : List ℕ × HostBound → DeclaredType
host_entry e = record { name = e.1.name; kind = kind.Host e.1.low e.1.high }

-- each behind the others, where none of these has its name
abbrev pub with_all : List DeclaredType → List (List ℕ × DeclaredType) → List (List ℕ × DeclaredType)
with_all [] table = table
with_all (d ∷ ds) table = with_all ds (with_first (λ t. t.name) table d)

-- records, user types and host types share one space of names; of two of one name the first counts
abbrev pub world_with : List (List ℕ × RecordDecl) → List (List ℕ × TypeDecl) → List (List ℕ × HostBound) → List (List ℕ × CommandType) → World
world_with records types hosts commands = record {
  types = with_all (map host_entry hosts) (with_all (map user_entry types) (with_all (map record_entry records) []));
  commands = commands;
}

-- the world of some declarations
abbrev pub world_of : TypeDecls → World
world_of ds = world_with ds.records.now ds.types.now ds.hosts.now ds.commands.now
