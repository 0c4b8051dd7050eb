use Rattle.std.proofs.Common.{◌≡◌, drop}
use Rattle.cl_lattice.specs.Arguments.{trees_of}
use Rattle.cl_arguments.specs.Probes.{puts_from}
use Rattle.cl_arguments.specs.ProbeSearch.{kind_sought, with_probes}
use Rattle.cl_arguments.proofs.parts.add_puts.Given as goal

abbrev pub invariant-loop-place : goal.invariant-loop-place
invariant-loop-place l =
    with_probes (puts_from (kind_sought l.sought) l.spec-inside.name l.place (trees_of (drop l.place l.arg-items))) l.found
    ≡ with_probes (puts_from (kind_sought l.sought) l.spec-inside.name 0 (trees_of l.arg-items)) l.initial.found
