-- Specifiers with an argument that comes to stand, through what user types inherit from, where it is not taken.
use Rattle.std.specs.Prelude.{◌≡◌, ℕ, true, List, [], Option, Some, None, Contains, slice_get}
use Rattle.cl_syntax.specs.StandardTypes.{standard_named}
use Rattle.cl_syntax.specs.TypeSpecTree.{TypeSpecTree}
use Rattle.cl_syntax.specs.declared.type_decls.PlacedSpec.{PlacedSpec}
use Rattle.cl_syntax.specs.declared.type_decls.TypeDecl.{TypeDecl}
use Rattle.cl_syntax.specs.declared.type_names.StandardType.{StandardType}
use Rattle.cl_table.specs.Names.{named}
use Rattle.cl_arguments.specs.Probes.{in_parts, is_wrong, own_probes, stands_at}
use Rattle.cl_arguments.specs.declared.kinds.ArgumentKind.{ArgumentKind}
use Rattle.cl_arguments.specs.declared.probes.Put.{Put}
use Rattle.cl_arguments.specs.declared.probes.Probe.{Probe}

-- user types by their names
abbrev pub Types : Type 0
Types = List (List ℕ × TypeDecl)

-- a user type, unless its name is that of a standard type
abbrev pub unless_standard : Option StandardType → Option TypeDecl → Option TypeDecl
unless_standard (Some t) d = None
unless_standard None d = d

-- the user type of a name that is none of a standard type
abbrev pub user_type : Types → List ℕ → Option TypeDecl
user_type types x = unless_standard (standard_named x) (named x types)

-- where an argument of this kind comes to stand that stands for a parameter; nowhere, if there is no such parameter
abbrev pub next_of_put : Option (List ℕ) → ArgumentKind → TypeSpecTree → List Probe
next_of_put None k s = []
next_of_put (Some p) k s = in_parts (stands_at p k) s

-- of the type itself, all that stands in what it inherits from; of an argument, where it comes to stand there
abbrev pub next_of : Option TypeDecl → Option Put → List Probe
next_of None put = []
next_of (Some d) None = in_parts own_probes d.inherit_from
next_of (Some d) (Some p) = next_of_put (slice_get d.parameters p.place) p.kind d.inherit_from

-- what comes to stand one user type further; nothing behind every other name
abbrev pub next : Types → Probe → List Probe
next types q = next_of (user_type types q.name) q.put

-- it is wrong, or what comes to stand one user type further comes to be wrong
pub data ComesToWrong (types : Types) : Probe → Type 0 where
  here : (q : Probe) → is_wrong q ≡ true → ComesToWrong types q
  further : (q r : Probe) → Contains (next types q) r → ComesToWrong types r → ComesToWrong types q

-- an argument of a specifier, or one in what its type inherits from, comes to stand where it is not taken
pub record Misfits (types : Types) (s : TypeSpecTree) : Type 0 where
  pub probe : Probe
  pub own : Contains (own_probes s) probe
  pub wrong : ComesToWrong types probe

-- a placed specifier that misfits
abbrev pub IsMisfit : Types → PlacedSpec → Type 0
IsMisfit types p = Misfits types p.spec
