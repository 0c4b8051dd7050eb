use Rattle.std.proofs.Common.{◌∙◌, sym}
use Rattle.std.specs.Prelude.{codes}
use Rattle.cl_application.specs.Panes.{panes_of}
use Rattle.cl_frame.specs.Frames.{marks_of_frame}
use Rattle.cl_session.specs.Handling.{world_at}
use Rattle.cl_session.specs.Step.{tell_history}
use Rattle.cl_session.proofs.HistoryLemmas.{handles_history, handles_reply, history_cost, history_refused, place_within}
use Rattle.cl_session.proofs.handling.tell_history.Goals as goal

pub returns-in-Some-clause-handles : goal.returns-in-Some-clause-handles
returns-in-Some-clause-handles c =
    handles_history c.args.frame.now c.args.slots.now c.args.desk.now (panes_of c.args.app.now) c.args.name.now c.in-Some.place c.history_lines.result c.told.result
    (sym c.place_of_pane.ensures ∙ c.in-Some.is) c.history_lines.ensures c.told.ensures

pub returns-in-Some-clause-cost : goal.returns-in-Some-clause-cost
returns-in-Some-clause-cost c =
    history_cost (world_at c.args.slots.now c.args.desk.now c.args.frame.now) (panes_of c.args.app.now) (marks_of_frame c.args.frame.now) c.args.name.now

pub returns-in-None-clause-handles : goal.returns-in-None-clause-handles
returns-in-None-clause-handles c =
    let w = world_at c.args.slots.now c.args.desk.now c.args.frame.now in
    handles_reply (tell_history w (panes_of c.args.app.now) (marks_of_frame c.args.frame.now) c.args.name.now) c.args.frame.now (codes "! pane") c.reply.result
    c.args.slots.now c.args.desk.now
    (history_refused w (panes_of c.args.app.now) (marks_of_frame c.args.frame.now) c.args.name.now (sym c.place_of_pane.ensures ∙ c.in-None.is)) c.reply.ensures

pub returns-in-None-clause-cost : goal.returns-in-None-clause-cost
returns-in-None-clause-cost c =
    history_cost (world_at c.args.slots.now c.args.desk.now c.args.frame.now) (panes_of c.args.app.now) (marks_of_frame c.args.frame.now) c.args.name.now

pub history_lines-requires-clause-place : goal.history_lines-requires-clause-place
history_lines-requires-clause-place c = place_within c.args.name.now (panes_of c.args.app.now) c.in-Some.place (sym c.place_of_pane.ensures ∙ c.in-Some.is)
