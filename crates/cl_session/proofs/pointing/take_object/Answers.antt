use Rattle.std.proofs.Common.{refl}
use Rattle.cl_session.specs.Handling.{world_at}
use Rattle.cl_session.specs.Step.{take_object}
use Rattle.cl_session.specs.Targets.{typed_of}
use Rattle.cl_session.specs.declared.handling.Desk.{Desk}
use Rattle.cl_value.specs.Value.{data_of}
use Rattle.cl_session.proofs.HistoryLemmas.{tell_cost}
use Rattle.cl_session.proofs.PointingLemmas.{object_taken}
use Rattle.cl_session.proofs.pointing.take_object.Goals as goal

pub returns-in-Done-clause-handles : goal.returns-in-Done-clause-handles
returns-in-Done-clause-handles c =
    let w = world_at c.args.slots.now c.args.desk.now c.args.frame.now in
    let desk : Desk = record { line = c.push_object.new.self; enabled = c.args.desk.now.enabled; dialog = c.args.desk.now.dialog } in (
      tell_cost (take_object w (typed_of c.args.typed) (data_of c.args.value)) (world_at c.args.slots.now desk c.args.frame.now) c.in-Ok.lines
          (object_taken w (typed_of c.args.typed) c.args.value c.in-Ok.lines c.push_object.new.self c.name_end-end.result c.name_end-end.ensures c.in-Done.ensures
          c.in-Ok.ensures),
      refl,
    )
