use Rattle.std.proofs.Common.{◌+◌, ◌∙◌, ap}
use Rattle.cl_frame.specs.Ground.{ground_of}
use Rattle.cl_outside.specs.Lent.{Lent}
use Rattle.cl_session.specs.World.{World}
use Rattle.cl_program.proofs.OpeningLemmas.{cost_at, opened_at, opens_at}
use Rattle.cl_program.proofs.running.open.Goals as goal

pub returns-clause-opening : goal.returns-clause-opening
returns-clause-opening g c = record {
  world = c.in_ok-session.ensures.world
      ∙ opened_at (ground_of g.T.Types.holds g.T.Types.presents g.T.Types.reads g.T.Types.hierarchy c.args.program.now) c.in_ok-slots.slots c.in_ok-session.session.frame.screen.stale (c.in_ok-slots.ensures ∙ c.requires.opening);
  totals = c.in_ok-session.ensures.totals;
  fits = c.in_ok-session.ensures.fits;
  breaks = c.in_ok-session.ensures.breaks;
}

pub returns-clause-opens : goal.returns-clause-opens
returns-clause-opens g c =
    opens_at (ground_of g.T.Types.holds g.T.Types.presents g.T.Types.reads g.T.Types.hierarchy c.args.program.now) c.in_ok-session.session.frame.screen.stale (g.D.Device.broken c.args.device.now) _ _ _ c.requires.whole
    (ap (λ (w : World). w.panes) (c.in_ok-session.ensures.world
    ∙ opened_at (ground_of g.T.Types.holds g.T.Types.presents g.T.Types.reads g.T.Types.hierarchy c.args.program.now) c.in_ok-slots.slots c.in_ok-session.session.frame.screen.stale (c.in_ok-slots.ensures ∙ c.requires.opening)))
    c.in_ok-session.ensures.failed c.in_ok-session.ensures.sent c.in_ok-session.ensures.shows (ap (λ (l : Lent). l.told) c.in_ok-session.ensures.lent)

pub returns-clause-ledger : goal.returns-clause-ledger
returns-clause-ledger g c =
    c.in_ok-session.ensures.ledger
    ∙ ap (λ n. c.args.steps.now + n) (cost_at (ground_of g.T.Types.holds g.T.Types.presents g.T.Types.reads g.T.Types.hierarchy c.args.program.now) c.in_ok-slots.slots (c.in_ok-slots.ensures ∙ c.requires.opening))
