-- How the search goes, and no more: it looks once at each that was found, and finds what comes to stand one user type further.
use Rattle.std.specs.Prelude.{◌≡◌, Bool, true, false, List, [], ◌∷◌, Option, All, Contains}
use Rattle.indexmap.specs.IndexSet.{insert_key}
use Rattle.cl_syntax.specs.TypeSpecTree.{TypeSpecTree, TypeArgTree}
use Rattle.cl_arguments.specs.Kinds.{kind_of}
use Rattle.cl_arguments.specs.Probes.{is_wrong, kind_for, own_probes, stands_at}
use Rattle.cl_arguments.specs.Misfits.{Types, next}
use Rattle.cl_arguments.specs.declared.kinds.ArgumentKind.{ArgumentKind}
use Rattle.cl_arguments.specs.declared.parts.Sought.{Sought}
use Rattle.cl_arguments.specs.declared.parts.Sought.TheVariants as sought
use Rattle.cl_arguments.specs.contracts.probes.ProbePartialEq.TheImpl as probe_eq
use Rattle.cl_arguments.specs.declared.probes.Probe.{Probe}

-- the kind of an argument that is sought
abbrev pub kind_sought : Sought → TypeArgTree → Option ArgumentKind
kind_sought sought.Types = kind_of
kind_sought (sought.Parameter p k) = kind_for p k

-- what is sought in a specifier alone
abbrev pub found_in : Sought → TypeSpecTree → List Probe
found_in sought.Types = own_probes
found_in (sought.Parameter p k) = stands_at p k

-- one more, where it was not found before
abbrev pub with_probe : List Probe → Probe → List Probe
with_probe found q = insert_key (probe_eq.ghosts).eq found q

-- several, one behind the other
abbrev pub with_probes : List Probe → List Probe → List Probe
with_probes [] found = found
with_probes (q ∷ qs) found = with_probes qs (with_probe found q)

-- one that is not wrong, and what comes to stand one user type further is found
pub record IsLookedInto (types : Types) (found : List Probe) (q : Probe) : Type 0 where
  pub fits : is_wrong q ≡ false
  pub finds : All (Contains found) (next types q)

-- each that is found was looked into
abbrev pub AreClear : Types → List Probe → Type 0
AreClear types found = All (IsLookedInto types found) found

-- where the answer is no
abbrev pub StaysClear : Types → List Probe → Bool → Type 0
StaysClear types found true = Unit {0}
StaysClear types found false = AreClear types found
