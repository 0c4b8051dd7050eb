use Rattle.std.proofs.Common.{◌≡◌, drop}
use Rattle.cl_lattice.specs.RingSearch.{with_mentions}
use Rattle.cl_lattice.specs.Rings.{names_in}
use Rattle.cl_lattice.proofs.rings.add_mentions.Given as goal

abbrev pub invariant-loop-name : goal.invariant-loop-name
invariant-loop-name l = with_mentions l.known (drop l.name-index l.name-items) l.found ≡ with_mentions l.known (names_in l.spec) l.initial.found
