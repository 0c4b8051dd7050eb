use Rattle.std.proofs.Common.{take, subst, ap, arith, length, length-take}
use Rattle.cl_outside.specs.declared.answers.Took.TheVariants as took
use Rattle.cl_outside.specs.contracts.mem_place.MemPlace.{the_view}
use Rattle.cl_outside.specs.MemoryPlace.{MemoryPlace, WriteStep}
use Rattle.cl_outside.proofs.PlaceSteps.{IsPlace-written, bytes_held, taken_appended, written_step}
use Rattle.cl_outside.proofs.mem_place.MemPlace.write.Goals as goal

pub invariant_of-self-2 : goal.invariant_of-self-2
invariant_of-self-2 c =
    let p = c.self.inside in
    let held = bytes_held p c.append.new.self c.in-Some.place c.bytes.result.now c.in-Some.is c.self.invariant c.bytes.ensures in
    IsPlace-written p.files c.append.new.self p.faults p.source p.sink p.room c.in-Some.place (take c.min-n.result c.args.bytes.now) c.in-Some.is c.append.ensures.entries c.append.ensures.room
    (omega (arith, ap length held, length-take c.min-n.result c.args.bytes.now, c.min-n.ensures)) c.self.invariant

pub returns-clause-step : goal.returns-clause-step
returns-clause-step c =
    let p = c.self.inside in
    subst (λ (v : MemoryPlace). WriteStep v (the_view (record p { files = c.append.new.self; pieces = c.next.new.self; plan = c.next_fails-fails.new.self })) v.sink c.args.bytes.now (took.Bytes c.min-n.result))
    c.self.view_is
    (written_step p c.append.new.self c.in-Some.place c.bytes.result.now c.in-Some.is c.self.invariant c.bytes.ensures c.next.new.self c.next_fails-fails.new.self c.args.bytes.now c.min-n.result
    c.append.ensures.entries (rw c.next.ensures.amount at c.min-n.ensures) c.next.ensures.later c.next_fails-fails.ensures.counted)

pub returns-clause-bytes : goal.returns-clause-bytes
returns-clause-bytes c =
    let p = c.self.inside in
    (omega (arith, c.min-n.ensures, c.next.ensures.some, c.if-room-eq0.false), omega (arith, c.min-n.ensures, c.next.ensures.within), rw (← c.self.view_is) (taken_appended p c.append.new.self c.in-Some.place c.bytes.result.now c.in-Some.is c.self.invariant c.bytes.ensures (take c.min-n.result c.args.bytes.now) c.append.ensures.entries))
