use Rattle.std.proofs.Common.{◌≤◌, ◌+◌, length}
use Rattle.cl_tables.specs.Indexes.{BeginWithin}
use Rattle.cl_tables.proofs.tables.Tables.longest_begun.Given as goal

abbrev pub invariant-loop-count : goal.invariant-loop-count
invariant-loop-count l = record {
  within : l.count ≤ length l.letters + 1;
  shorter : BeginWithin l.count l.line l.self.commands;
}

abbrev pub decreases-loop-count : goal.decreases-loop-count
decreases-loop-count l = l.count
