use Rattle.std.proofs.Common.{◌≡◌, ◌≤◌, ◌∙◌, List, ℕ, length, subst, sym}
use Rattle.cl_frame.specs.Ground.{ground_of}
use Rattle.cl_gesture.specs.Lines.{pieces}
use Rattle.cl_session.specs.declared.totals.Totals.{Totals}
use Rattle.cl_program.specs.Run.{IsMeasured}
use Rattle.cl_program.proofs.BenchLemmas.{measured, no_limit, no_output_fault, no_read_fault}
use Rattle.cl_program.proofs.measuring.measure_program.Goals as goal

pub unreachable-requires : goal.unreachable-requires
unreachable-requires g c =
    no_read_fault (ground_of g.T.Types.holds g.T.Types.presents g.T.Types.reads g.T.Types.hierarchy c.args.program.now) c.new-source.result.left c.serve.new.gestures.left
    c.args.steps.now c.serve.new.steps c.serve.new.self.session.totals
    (c.in-ReadFault.ensures.ended c.args.steps.now _ c.in_ok-opening.ensures.ledger c.in_ok-opening.ensures.opens)

pub unreachable-requires-in-TooMany : goal.unreachable-requires-in-TooMany
unreachable-requires-in-TooMany g c =
    let same : c.new-source.result.left ≡ c.args.gestures.now = c.new-source.ensures ∙ c.in_ok-from_slice.ensures.items in
    no_limit (ground_of g.T.Types.holds g.T.Types.presents g.T.Types.reads g.T.Types.hierarchy c.args.program.now) c.new-source.result.left c.serve.new.gestures.left
    c.args.steps.now c.serve.new.steps c.serve.new.self.session.totals
    (subst (λ (bytes : List ℕ). length (pieces bytes) ≤ 1000000) (sym same) c.requires.few)
    (c.in-TooMany.ensures.ended c.args.steps.now _ c.in_ok-opening.ensures.ledger c.in_ok-opening.ensures.opens)

pub unreachable-requires-in-OutputFault : goal.unreachable-requires-in-OutputFault
unreachable-requires-in-OutputFault g c =
    no_output_fault (ground_of g.T.Types.holds g.T.Types.presents g.T.Types.reads g.T.Types.hierarchy c.args.program.now) c.new-source.result.left c.serve.new.gestures.left
    c.args.steps.now c.serve.new.steps c.serve.new.self.session.totals
    (c.in-OutputFault.ensures.ended c.args.steps.now _ c.in_ok-opening.ensures.ledger c.in_ok-opening.ensures.opens)

pub returns-clause-measures : goal.returns-clause-measures
returns-clause-measures g c =
    let own = ground_of g.T.Types.holds g.T.Types.presents g.T.Types.reads g.T.Types.hierarchy c.args.program.now in
    let same : c.new-source.result.left ≡ c.args.gestures.now = c.new-source.ensures ∙ c.in_ok-from_slice.ensures.items in
    subst (λ (totals : Totals). IsMeasured own c.args.gestures.now c.args.steps.now c.serve.new.steps totals) (sym c.totals.ensures)
    (subst (λ (bytes : List ℕ). IsMeasured own bytes c.args.steps.now c.serve.new.steps c.serve.new.self.session.totals) same
    (measured own c.new-source.result.left c.serve.new.gestures.left c.args.steps.now c.serve.new.steps c.serve.new.self.session.totals
    (c.in-Done.ensures.ended c.args.steps.now _ c.in_ok-opening.ensures.ledger c.in_ok-opening.ensures.opens)))
