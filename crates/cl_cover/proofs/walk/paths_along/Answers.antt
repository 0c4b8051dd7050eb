use Rattle.std.proofs.Common.{◌≡◌, ◌+◌, ◌-◌, ◌∙◌, false, Some, suc, sym, arith}
use Rattle.cl_cover.specs.Steps.{body_steps}
use Rattle.cl_cover.specs.Walk.{callees, is_among}
use Rattle.cl_cover.proofs.WalkTurns.{entering_turn, paths_at_end}
use Rattle.cl_cover.proofs.walk.paths_along.Goals as goal

pub loop-step-preserved : goal.loop-step-preserved
loop-step-preserved c =
    let left : c.loop-step.left ≡ suc (c.loop-step.left - 1) = omega (arith, c.if-left-eq0.false) in
    let new : is_among c.in-Calls.callee c.loop-step.entered ≡ false = sym c.contains.ensures ∙ c.if-contains.false in
    let body : body_steps c.args.app.now c.in-Calls.callee ≡ Some c.in-Some-2.body.items = rw c.in-Some-2.is at (sym c.in_ok-body.ensures) in
    entering_turn (body_steps c.args.app.now) c.loop-step.left c.in-Calls.callee c.in-Some.step c.in-Some-2.body.items c.next.new.self c.loop-step.pending
    c.put_first-in-Some.new.self c.loop-step.paths.items c.loop-step.entered c.push-in-Some.new.self _ left c.in-Some.ensures c.in-Calls.is new body
    c.in_ok-put_first-2.ensures c.in_ok-push.ensures c.loop-step.invariant

pub returns : goal.returns
returns c =
    let many : (c.len.result + c.len-2.result) + (c.len-3.result + c.len-4.result) ≡ callees c.args.app.now =
    λ i. (c.len.ensures i + c.len-2.ensures i) + (c.len-3.ensures i + c.len-4.ensures i) in
    paths_at_end (body_steps c.args.app.now) c.loop-step.left ((c.len.result + c.len-2.result) + (c.len-3.result + c.len-4.result))
    (callees c.args.app.now) c.loop-step.pending c.put_first.new.self
    c.args.steps.items c.new-pending.result c.loop-step.paths.items c.new-paths.result.items c.loop-step.entered c.new-entered.result c.in_default.ensures many
    c.in_ok-put_first.ensures c.new-pending.ensures c.new-paths.ensures.items c.new-entered.ensures c.loop-step.invariant
