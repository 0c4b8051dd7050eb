use Rattle.std.proofs.Common.{◌≡◌, ◌∙◌, refl, sym, ap, arith, true, false}
use Rattle.cl_application.specs.Panes.{panes_of}
use Rattle.cl_redisplay.specs.Screens.{is_fault}
use Rattle.cl_frame.specs.Ground.{ground_of}
use Rattle.cl_frame.specs.States.{state_of}
use Rattle.cl_frame.proofs.GoingStale.{agree-started, by-stale, fault-between, frame-started, stale-same, stale-then, under-later, under-started}
use Rattle.cl_frame.proofs.OpenedPanes.{frame_length}
use Rattle.cl_frame.proofs.SentPanes.{sent_all, sent_next, sent_none}
use Rattle.cl_frame.proofs.SettledPanes.{rest_next, settled_all, settled_frame, settled_next, settled_spends}
use Rattle.cl_frame.proofs.frames.Frame.settle.Goals as goal

pub panes-init : goal.panes-init
panes-init g c = record {
  frame = frame-started c.args.program.now.app.now c.args.self.now c.start.new.screen c.start.ensures.raster c.requires.frame;
  agree = agree-started c.args.which c.args.self.now.screen c.start.new.screen _ _ _ c.start.ensures.raster c.start.ensures.stale c.requires.agree;
  faithful = c.requires.faithful;
  rest = refl;
  goes_on = λ ns last h. h;
  under = under-started c.args.which c.args.self.now.screen.stale c.start.new.screen.stale c.start.ensures.stale;
  goes_stale = stale-same c.start.new.screen.stale (g.D.Device.faults c.args.device.now);
  idle = λ stale. refl;
  breaks = λ fresh after. let no : false ≡ true = sym fresh ∙ after in cc;
  sent = λ fresh. sent_none (ground_of g.T.Types.holds g.T.Types.presents g.T.Types.reads g.T.Types.hierarchy c.args.program.now) c.args.which (state_of c.args.state.now) (panes_of c.args.program.now.app.now) c.args.self.now.panes.items c.start.new.screen.stale _ fresh;
  lent = refl;
  later = omega arith;
}

pub panes-preserved : goal.panes-preserved
panes-preserved g c =
    let place = c.panes.place in
    let settled = c.settle_at.ensures.settles in
    record {
      frame = c.settle_at.ensures.frame;
      agree = c.settle_at.ensures.agree;
      faithful = c.settle_at.ensures.faithful;
      rest = rest_next c.args.self.now.panes.items c.panes.self.panes.items c.settle_at.new.self.panes.items place settled.now settled.stands c.panes.invariant.rest;
      goes_on = settled_next (ground_of g.T.Types.holds g.T.Types.presents g.T.Types.reads g.T.Types.hierarchy c.args.program.now) c.args.which (state_of c.args.state.now) (panes_of c.args.program.now.app.now)
          c.args.self.now.panes.items c.panes.self.panes.items c.settle_at.new.self.panes.items place c.args.steps.now c.panes.steps c.settle_at.new.steps
          refl c.panes.invariant.rest settled c.panes.invariant.goes_on;
      under = under-later c.args.which c.panes.self.screen.stale c.settle_at.new.self.screen.stale c.settle_at.ensures.goes_stale.stays c.panes.invariant.under;
      goes_stale = stale-then c.start.new.screen.stale c.panes.self.screen.stale c.settle_at.new.self.screen.stale
          (g.D.Device.faults c.args.device.now) (g.D.Device.faults c.panes.device) (g.D.Device.faults c.settle_at.new.device) c.panes.invariant.goes_stale c.settle_at.ensures.goes_stale;
      idle = λ stale. c.settle_at.ensures.idle (c.panes.invariant.goes_stale.stays stale) ∙ c.panes.invariant.idle stale;
      breaks = λ fresh then. by-stale c.panes.self.screen.stale
          (λ stale. ap g.D.Device.broken (c.settle_at.ensures.idle stale) ∙ c.panes.invariant.breaks fresh stale)
          (λ still. c.settle_at.ensures.breaks still then);
      sent = λ fresh. sent_next (ground_of g.T.Types.holds g.T.Types.presents g.T.Types.reads g.T.Types.hierarchy c.args.program.now) c.args.which (state_of c.args.state.now) c.args.self.now.panes.items
          c.panes.self.panes.items c.settle_at.new.self.panes.items place c.panes.steps c.settle_at.new.steps c.panes.self.screen.stale c.settle_at.new.self.screen.stale
          _ _ _ c.panes.invariant.rest settled c.settle_at.ensures.bytes c.settle_at.ensures.goes_stale.stays
          c.panes.invariant.goes_stale.later c.settle_at.ensures.goes_stale.later (c.panes.invariant.sent fresh);
      lent = c.settle_at.ensures.lent ∙ c.panes.invariant.lent;
      later = omega (arith, c.panes.invariant.later, c.settle_at.ensures.later);
    }

pub returns-clause-settles : goal.returns-clause-settles
returns-clause-settles g c =
    let olds = frame_length c.args.program.now.app.now c.args.self.now c.requires.frame in
    let nows = frame_length c.args.program.now.app.now c.panes.self c.panes.invariant.frame in
    settled_frame (ground_of g.T.Types.holds g.T.Types.presents g.T.Types.reads g.T.Types.hierarchy c.args.program.now) c.args.which (state_of c.args.state.now) c.args.self.now c.panes.self c.args.steps.now c.panes.steps
    (settled_all (ground_of g.T.Types.holds g.T.Types.presents g.T.Types.reads g.T.Types.hierarchy c.args.program.now) c.args.which (state_of c.args.state.now) (panes_of c.args.program.now.app.now)
    c.args.self.now.panes.items c.panes.self.panes.items c.panes.place c.args.steps.now c.panes.steps
    (omega (arith, olds, c.panes-test.false, c.len-place-end.ensures)) (omega (arith, c.panes-test.false, c.len-place-end.ensures))
    (omega (arith, nows, olds, c.panes-test.false, c.len-place-end.ensures)) c.panes.invariant.goes_on)

pub returns-clause-ledger : goal.returns-clause-ledger
returns-clause-ledger g c =
    let olds = frame_length c.args.program.now.app.now c.args.self.now c.requires.frame in
    let nows = frame_length c.args.program.now.app.now c.panes.self c.panes.invariant.frame in
    settled_spends (ground_of g.T.Types.holds g.T.Types.presents g.T.Types.reads g.T.Types.hierarchy c.args.program.now) c.args.which (state_of c.args.state.now) c.args.self.now c.panes.self c.args.steps.now c.panes.steps
    (settled_all (ground_of g.T.Types.holds g.T.Types.presents g.T.Types.reads g.T.Types.hierarchy c.args.program.now) c.args.which (state_of c.args.state.now) (panes_of c.args.program.now.app.now)
    c.args.self.now.panes.items c.panes.self.panes.items c.panes.place c.args.steps.now c.panes.steps
    (omega (arith, olds, c.panes-test.false, c.len-place-end.ensures)) (omega (arith, c.panes-test.false, c.len-place-end.ensures))
    (omega (arith, nows, olds, c.panes-test.false, c.len-place-end.ensures)) c.panes.invariant.goes_on)

pub returns-clause-bytes : goal.returns-clause-bytes
returns-clause-bytes g c = λ fresh.
    let olds = frame_length c.args.program.now.app.now c.args.self.now c.requires.frame in
    let nows = frame_length c.args.program.now.app.now c.panes.self c.panes.invariant.frame in
    let started : c.start.new.screen.stale ≡ false = c.start.ensures.stale ∙ fresh in
    let fault : is_fault c.fault_between.result ≡ c.panes.self.screen.stale =
    ap is_fault c.fault_between.ensures
    ∙ (fault-between c.stale-was_stale.result c.stale.result (c.stale-was_stale.ensures ∙ started) ∙ c.stale.ensures) in
    rw fault
    (sent_all (ground_of g.T.Types.holds g.T.Types.presents g.T.Types.reads g.T.Types.hierarchy c.args.program.now) c.args.which (state_of c.args.state.now) (panes_of c.args.program.now.app.now) c.args.self.now.panes.items c.panes.self.panes.items c.panes.place c.panes.self.screen.stale _ _
    (omega (arith, olds, c.panes-test.false, c.len-place-end.ensures)) (omega (arith, c.panes-test.false, c.len-place-end.ensures))
    (omega (arith, nows, olds, c.panes-test.false, c.len-place-end.ensures)) (c.panes.invariant.sent started))
