use Rattle.std.proofs.Common.{◌≡◌, ◌++◌, drop, map}
use Rattle.cl_interactor.specs.Rows.{shown_byte}
use Rattle.cl_interactor.proofs.rows.put_shown.Given as goal

abbrev pub invariant-loop-byte : goal.invariant-loop-byte
invariant-loop-byte l = l.bytes.items ++ map shown_byte (drop l.byte-index l.text) ≡ l.initial.bytes.items ++ map shown_byte l.text
