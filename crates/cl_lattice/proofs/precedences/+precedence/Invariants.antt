use Rattle.std.proofs.Common.{◌≡◌, ◌+◌, ◌*◌, ◌++◌, ◌∷◌, drop}
use Rattle.cl_lattice.specs.Precedence.{joined, precedence_within}
use Rattle.cl_lattice.proofs.precedences.+precedence.Given as goal

abbrev pub decreases-precedence_within : goal.decreases-precedence_within
decreases-precedence_within l = 4 * l.levels

abbrev pub decreases-precedence_by : goal.decreases-precedence_by
decreases-precedence_by l = 4 * l.levels + 3

abbrev pub decreases-behind_own : goal.decreases-behind_own
decreases-behind_own l = 4 * l.levels + 2

abbrev pub decreases-add_precedence : goal.decreases-add_precedence
decreases-add_precedence l = 4 * l.levels + 1

abbrev pub invariant-behind_own-loop-supertype : goal.invariant-behind_own-loop-supertype
invariant-behind_own-loop-supertype l =
    l.all ++ joined (precedence_within l.levels l.known) (drop l.supertype-index l.supers) ≡ l.name ∷ joined (precedence_within l.levels l.known) l.supers
