use Rattle.std.proofs.Common.{◌≡◌, ℕ, length, slice_get, Some}
use Rattle.cl_translators.specs.Groups.{Grouped, IsSlot}
use Rattle.cl_translators.proofs.translators.slots_of.Given as goal

abbrev pub invariant-loop-slot : goal.invariant-loop-slot
invariant-loop-slot l = record {
  count : length l.slots.items ≡ l.slot;
  each : (slot : ℕ) (groups : Grouped) → slice_get l.slots.items slot ≡ Some groups → IsSlot l.all slot groups;
}
