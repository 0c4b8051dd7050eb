use Rattle.std.proofs.Common.{◌∷◌, [], length-append, arith}
use Rattle.cl_translators.proofs.SlotLemmas.{one_more}
use Rattle.cl_translators.proofs.translators.slots_of.Goals as goal

pub loop-slot-preserved : goal.loop-slot-preserved
loop-slot-preserved c =
    rw c.in_ok-push.ensures.items (record {
      count = omega (arith, length-append c.loop-slot.slots.items (c.in_ok-slot_of.field-0 ∷ []), c.loop-slot.invariant.count);
      each = one_more c.args.all.now c.loop-slot.slots.items c.loop-slot.slot c.in_ok-slot_of.field-0 c.loop-slot.invariant.count c.loop-slot.invariant.each
          c.in_ok-slot_of.ensures;
    })
