use Rattle.std.proofs.Common.{◌≡◌, drop}
use Rattle.cl_ptext.specs.Hosts.{name_of_number}
use Rattle.cl_ptext.proofs.host_types.name_of_number.Given as goal

abbrev pub invariant-loop-name : goal.invariant-loop-name
invariant-loop-name l = name_of_number l.number (drop l.name-index l.names) ≡ name_of_number l.number l.names
