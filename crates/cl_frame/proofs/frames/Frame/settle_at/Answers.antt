use Rattle.std.proofs.Common.{◌≡◌, ◌∙◌, List, ap, refl, sym, true, false}
use Rattle.cl_medium.specs.Items.{Item}
use Rattle.cl_record.specs.Marks.{Mark}
use Rattle.cl_untouched.specs.Among.{keeps_among}
use Rattle.cl_frame.specs.Damages.{damage_holds, touched_with}
use Rattle.cl_frame.specs.Frames.{IsPaneFaithful}
use Rattle.cl_frame.specs.Ground.{ground_of}
use Rattle.cl_frame.specs.States.{state_of}
use Rattle.cl_frame.specs.Panes.{marks_of_pane}
use Rattle.cl_frame.specs.Settling.{met_memory, pane_draw, reused}
use Rattle.cl_frame.proofs.DamagedPanes.{all-at, can-show, evaluates-left, keeps-left, others-shown, reused-fresh, shown-told}
use Rattle.cl_frame.proofs.DeclaredPanes.{declared_pane, stands_at}
use Rattle.cl_frame.proofs.PaneSettling.{due_same, frame_kept, frame_put, settles_due, settles_quiet}
use Rattle.cl_frame.proofs.SentPanes.{sent_due, sent_quiet}
use Rattle.cl_frame.proofs.frames.Frame.settle_at.Goals as goal

pub returns-then-not-is_due-clause-settles : goal.returns-then-not-is_due-clause-settles
returns-then-not-is_due-clause-settles g c =
    settles_quiet (ground_of g.T.Types.holds g.T.Types.presents g.T.Types.reads g.T.Types.hierarchy c.args.program.now) c.args.which (state_of c.args.state.now) c.args.place c.args.self.now.panes.items
    c.in-Some.declared.now c.index_mut.result.now c.args.steps.now
    (declared_pane c.args.program.now.app.now.frame.panes c.args.place c.in-Some.declared.now c.in-Some.ensures)
    (stands_at c.args.self.now.panes.items c.args.place c.index_mut.result.now c.requires.place c.index_mut.ensures.value)
    (due_same c.args.which c.args.self.now.panes.items c.args.place c.index.result.now c.index_mut.result.now c.requires.place c.index.ensures c.index_mut.ensures.value false
    (sym c.is_due.ensures ∙ c.if-not-is_due.true))

pub returns-then-not-is_due-clause-frame : goal.returns-then-not-is_due-clause-frame
returns-then-not-is_due-clause-frame g c =
    frame_kept c.args.program.now.app.now c.args.self.now _ c.args.place c.index_mut.result.now
    (stands_at c.args.self.now.panes.items c.args.place c.index_mut.result.now c.requires.place c.index_mut.ensures.value) refl refl c.requires.frame

pub returns-then-not-is_due-clause-bytes : goal.returns-then-not-is_due-clause-bytes
returns-then-not-is_due-clause-bytes g c =
    sent_quiet (ground_of g.T.Types.holds g.T.Types.presents g.T.Types.reads g.T.Types.hierarchy c.args.program.now) c.args.which (state_of c.args.state.now) c.args.place c.args.self.now.panes.items _ c.index_mut.result.now c.args.self.now.screen.stale _
    (stands_at c.args.self.now.panes.items c.args.place c.index_mut.result.now c.requires.place c.index_mut.ensures.value)
    (due_same c.args.which c.args.self.now.panes.items c.args.place c.index.result.now c.index_mut.result.now c.requires.place c.index.ensures c.index_mut.ensures.value false
    (sym c.is_due.ensures ∙ c.if-not-is_due.true))

pub put-requires-clause-replaces : goal.put-requires-clause-replaces
put-requires-clause-replaces g c =
    let gr = ground_of g.T.Types.holds g.T.Types.presents g.T.Types.reads g.T.Types.hierarchy c.args.program.now in
    let draw = pane_draw gr.limits gr.app gr.types c.in-Some.declared.now (state_of c.args.state.now) in
    let stood = stands_at c.args.self.now.panes.items c.args.place c.index-2.result.now c.requires.place c.index-2.ensures in
    let evaluates = evaluates-left draw (reused c.args.which (marks_of_pane c.index-2.result.now)) c.index-2.result.now c.evaluated-evaluated.result.pane
    c.damaged-shown.result.pane c.args.steps.now c.evaluated-evaluated.new.steps c.damaged-shown.ensures.leaves c.evaluated-evaluated.ensures.evaluates in
    record { before = c.index-2.result.now; stands = stood; area = evaluates.area; counted = evaluates.counted }

pub put-requires-clause-can_show : goal.put-requires-clause-can_show
put-requires-clause-can_show g c =
    let gr = ground_of g.T.Types.holds g.T.Types.presents g.T.Types.reads g.T.Types.hierarchy c.args.program.now in
    let draw = pane_draw gr.limits gr.app gr.types c.in-Some.declared.now (state_of c.args.state.now) in
    let stood = stands_at c.args.self.now.panes.items c.args.place c.index-2.result.now c.requires.place c.index-2.ensures in
    let evaluates = evaluates-left draw (reused c.args.which (marks_of_pane c.index-2.result.now)) c.index-2.result.now c.evaluated-evaluated.result.pane
    c.damaged-shown.result.pane c.args.steps.now c.evaluated-evaluated.new.steps c.damaged-shown.ensures.leaves c.evaluated-evaluated.ensures.evaluates in
    let o = c.index-2.result.now in
    let p = c.damaged-shown.result.pane in
    let ks = c.evaluated-evaluated.result.keeps in
    let kept = λ (fresh : c.args.self.now.screen.stale ≡ false) (no : met_memory p.report ≡ false).
    keeps-left c.evaluated-evaluated.result.pane p ks _ c.damaged-shown.ensures.leaves c.evaluated-evaluated.ensures.keeps no
    ∙ ap (λ (ms : List (Mark Item)). keeps_among ms draw) (reused-fresh c.args.which c.args.self.now.screen.stale (marks_of_pane o) c.requires.stale fresh) in
    let is = λ (fresh : c.args.self.now.screen.stale ≡ false). c.damaged-shown.ensures.damage fresh o stood in
    can-show c.args.self.now.screen.raster p c.damaged-shown.result.damage (touched_with (marks_of_pane o) (marks_of_pane p) ks) c.args.self.now.screen.stale
    c.damaged-shown.ensures.whole c.damaged-shown.ensures.stale is
    (λ fresh. others-shown gr.limits gr.app gr.types (state_of c.args.state.now) c.in-Some.declared.now c.requires.reuse c.args.self.now.panes.items
    c.args.self.now.screen.raster c.args.place o p stood c.requires.frame.shown evaluates.area
    (all-at (IsPaneFaithful gr.app gr.types) c.args.self.now.panes.items c.args.place o stood c.requires.faithful.all) ks evaluates.marks (kept fresh) c.damaged-shown.result.damage (is fresh))

pub returns-clause-settles : goal.returns-clause-settles
returns-clause-settles g c =
    let gr = ground_of g.T.Types.holds g.T.Types.presents g.T.Types.reads g.T.Types.hierarchy c.args.program.now in
    let draw = pane_draw gr.limits gr.app gr.types c.in-Some.declared.now (state_of c.args.state.now) in
    let stood = stands_at c.args.self.now.panes.items c.args.place c.index-2.result.now c.requires.place c.index-2.ensures in
    let evaluates = evaluates-left draw (reused c.args.which (marks_of_pane c.index-2.result.now)) c.index-2.result.now c.evaluated-evaluated.result.pane
    c.damaged-shown.result.pane c.args.steps.now c.evaluated-evaluated.new.steps c.damaged-shown.ensures.leaves c.evaluated-evaluated.ensures.evaluates in
    settles_due gr c.args.which (state_of c.args.state.now) c.args.place c.args.self.now.panes.items
    c.put.new.self.panes.items c.in-Some.declared.now c.index-2.result.now c.damaged-shown.result.pane c.args.steps.now c.evaluated-evaluated.new.steps
    (declared_pane c.args.program.now.app.now.frame.panes c.args.place c.in-Some.declared.now c.in-Some.ensures)
    stood
    c.put.ensures.panes
    (due_same c.args.which c.args.self.now.panes.items c.args.place c.index.result.now c.index-2.result.now c.requires.place c.index.ensures c.index-2.ensures true
    (sym c.is_due.ensures ∙ c.if-not-is_due.false))
    evaluates

pub returns-clause-frame : goal.returns-clause-frame
returns-clause-frame g c =
    let gr = ground_of g.T.Types.holds g.T.Types.presents g.T.Types.reads g.T.Types.hierarchy c.args.program.now in
    let draw = pane_draw gr.limits gr.app gr.types c.in-Some.declared.now (state_of c.args.state.now) in
    let stood = stands_at c.args.self.now.panes.items c.args.place c.index-2.result.now c.requires.place c.index-2.ensures in
    let evaluates = evaluates-left draw (reused c.args.which (marks_of_pane c.index-2.result.now)) c.index-2.result.now c.evaluated-evaluated.result.pane
    c.damaged-shown.result.pane c.args.steps.now c.evaluated-evaluated.new.steps c.damaged-shown.ensures.leaves c.evaluated-evaluated.ensures.evaluates in
    frame_put c.args.program.now.app.now c.args.self.now c.put.new.self c.args.place c.index-2.result.now c.damaged-shown.result.pane
    stood evaluates.area c.put.ensures.panes c.put.ensures.size c.put.ensures.shown c.requires.frame

pub returns-clause-bytes : goal.returns-clause-bytes
returns-clause-bytes g c =
    let gr = ground_of g.T.Types.holds g.T.Types.presents g.T.Types.reads g.T.Types.hierarchy c.args.program.now in
    let draw = pane_draw gr.limits gr.app gr.types c.in-Some.declared.now (state_of c.args.state.now) in
    let stood = stands_at c.args.self.now.panes.items c.args.place c.index-2.result.now c.requires.place c.index-2.ensures in
    let evaluates = evaluates-left draw (reused c.args.which (marks_of_pane c.index-2.result.now)) c.index-2.result.now c.evaluated-evaluated.result.pane
    c.damaged-shown.result.pane c.args.steps.now c.evaluated-evaluated.new.steps c.damaged-shown.ensures.leaves c.evaluated-evaluated.ensures.evaluates in
    let o = c.index-2.result.now in
    let p = c.damaged-shown.result.pane in
    let ks = c.evaluated-evaluated.result.keeps in
    let kept = λ (fresh : c.args.self.now.screen.stale ≡ false) (no : met_memory p.report ≡ false).
    keeps-left c.evaluated-evaluated.result.pane p ks _ c.damaged-shown.ensures.leaves c.evaluated-evaluated.ensures.keeps no
    ∙ ap (λ (ms : List (Mark Item)). keeps_among ms draw) (reused-fresh c.args.which c.args.self.now.screen.stale (marks_of_pane o) c.requires.stale fresh) in
    sent_due gr c.args.which (state_of c.args.state.now) c.args.self.now c.args.place c.put.new.self.panes.items c.in-Some.declared.now o p
    c.args.self.now.screen.stale c.put.new.self.screen.stale _ _ (damage_holds c.damaged-shown.result.damage) c.requires.frame
    (declared_pane c.args.program.now.app.now.frame.panes c.args.place c.in-Some.declared.now c.in-Some.ensures)
    stood evaluates.area c.put.ensures.panes
    (due_same c.args.which c.args.self.now.panes.items c.args.place c.index.result.now c.index-2.result.now c.requires.place c.index.ensures c.index-2.ensures true
    (sym c.is_due.ensures ∙ c.if-not-is_due.false))
    (λ fresh. shown-told p.area draw (marks_of_pane o) (marks_of_pane p) ks (met_memory p.report) c.damaged-shown.result.damage evaluates.marks (kept fresh)
    (c.damaged-shown.ensures.damage fresh o stood))
    c.put.ensures.bytes
