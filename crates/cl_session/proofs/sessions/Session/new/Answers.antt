use Rattle.std.proofs.Common.{None, refl, sym, ◌∙◌}
use Rattle.cl_frame.specs.Ground.{ground_of}
use Rattle.cl_session.proofs.OpeningLemmas.{blank_marks, frame_as_many, none_told, opening_fits, opening_most, opening_paid, opening_world}
use Rattle.cl_session.proofs.StepLemmas.{broken_after, never_less}
use Rattle.cl_session.proofs.sessions.Session.new.Goals as goal

pub returns-then-met_memory-clause-at_most : goal.returns-then-met_memory-clause-at_most
returns-then-met_memory-clause-at_most g c =
    let own = ground_of g.T.Types.holds g.T.Types.presents g.T.Types.reads g.T.Types.hierarchy c.args.program.now in
    opening_most own c.args.slots.now c.in_ok-frame.frame _ c.args.steps.now c.update.new.steps (frame_as_many own c.in_ok-frame.frame c.in_ok-frame.ensures.frame)
    (blank_marks c.in_ok-frame.frame.panes.items c.in_ok-frame.ensures.blank) c.update.ensures.ledger

pub returns-then-met_memory-clause-device_later : goal.returns-then-met_memory-clause-device_later
returns-then-met_memory-clause-device_later g c =
    never_less c.update.result (g.D.Device.faults c.args.device.now) (g.D.Device.faults c.update.new.device) c.update.ensures.cause

pub returns-clause-world : goal.returns-clause-world
returns-clause-world g c =
    let own = ground_of g.T.Types.holds g.T.Types.presents g.T.Types.reads g.T.Types.hierarchy c.args.program.now in
    opening_world own c.args.slots.now record { line = c.in_ok-new.field-0; enabled = c.in_ok-enabled_of.field-0; dialog = None } c.in_ok-frame.frame c.update.new.self c.in_ok-new.ensures refl c.in_ok-enabled_of.ensures
    (frame_as_many own c.in_ok-frame.frame c.in_ok-frame.ensures.frame) c.update.ensures.settles
    (none_told c.update.new.self.panes.items (sym c.met_memory.ensures ∙ c.if-met_memory.false))

pub returns-clause-ledger : goal.returns-clause-ledger
returns-clause-ledger g c =
    let own = ground_of g.T.Types.holds g.T.Types.presents g.T.Types.reads g.T.Types.hierarchy c.args.program.now in
    opening_paid own c.args.slots.now c.in_ok-frame.frame c.update.new.self c.args.steps.now c.update.new.steps
    (frame_as_many own c.in_ok-frame.frame c.in_ok-frame.ensures.frame) (blank_marks c.in_ok-frame.frame.panes.items c.in_ok-frame.ensures.blank) c.update.ensures.ledger
    (none_told c.update.new.self.panes.items (sym c.met_memory.ensures ∙ c.if-met_memory.false))

pub returns-clause-at_most : goal.returns-clause-at_most
returns-clause-at_most g c =
    let own = ground_of g.T.Types.holds g.T.Types.presents g.T.Types.reads g.T.Types.hierarchy c.args.program.now in
    opening_most own c.args.slots.now c.in_ok-frame.frame _ c.args.steps.now c.update.new.steps (frame_as_many own c.in_ok-frame.frame c.in_ok-frame.ensures.frame)
    (blank_marks c.in_ok-frame.frame.panes.items c.in_ok-frame.ensures.blank) c.update.ensures.ledger

pub returns-clause-fits : goal.returns-clause-fits
returns-clause-fits g c =
    let own = ground_of g.T.Types.holds g.T.Types.presents g.T.Types.reads g.T.Types.hierarchy c.args.program.now in
    record {
      reuse = c.requires.reuse;
      accessible = c.in_ok-accessible.ensures;
      frame = c.update.ensures.frame;
      faithful = c.update.ensures.faithful;
      current = opening_fits own c.args.slots.now c.update.new.self.screen.stale _
          (opening_world own c.args.slots.now record { line = c.in_ok-new.field-0; enabled = c.in_ok-enabled_of.field-0; dialog = None } c.in_ok-frame.frame c.update.new.self c.in_ok-new.ensures refl c.in_ok-enabled_of.ensures
          (frame_as_many own c.in_ok-frame.frame c.in_ok-frame.ensures.frame) c.update.ensures.settles
          (none_told c.update.new.self.panes.items (sym c.met_memory.ensures ∙ c.if-met_memory.false)));
    }

pub returns-clause-sent : goal.returns-clause-sent
returns-clause-sent g c = rw c.update.ensures.stale (rw c.in_ok-frame.ensures.stale at c.update.ensures.bytes)

pub returns-clause-shows : goal.returns-clause-shows
returns-clause-shows g c = λ fresh. c.update.ensures.shows (sym c.update.ensures.stale ∙ fresh)

pub returns-clause-breaks : goal.returns-clause-breaks
returns-clause-breaks g c = λ stale.
    broken_after c.update.result (g.D.Device.broken c.update.new.device) (sym c.update.ensures.stale ∙ stale) c.update.ensures.breaks
