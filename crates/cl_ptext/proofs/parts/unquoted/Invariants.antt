use Rattle.std.proofs.Common.{◌≡◌, [], false, length}
use Rattle.cl_ptext.specs.Parts.{unquoted}
use Rattle.cl_ptext.proofs.parts.unquoted.Given as goal

abbrev pub invariant-loop-byte : goal.invariant-loop-byte
invariant-loop-byte l = unquoted l.escaped l.inside.items l.rest ≡ unquoted false [] l.bytes

abbrev pub decreases-loop-byte : goal.decreases-loop-byte
decreases-loop-byte l = length l.rest
