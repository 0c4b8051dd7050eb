use Rattle.std.proofs.Common.{length-append, refl, arith}
use Rattle.cl_spans.proofs.FillLemmas.{empty_more}
use Rattle.cl_spans.proofs.rows.empty_rows.Goals as goal

pub loop-i-init : goal.loop-i-init
loop-i-init c = rw c.new-rows.ensures.items (refl, (λ i. refl))

pub loop-i-preserved : goal.loop-i-preserved
loop-i-preserved c =
    rw c.in_ok-push.ensures.items (
      rw length-append (omega (arith, c.loop-i.invariant.0)),
      empty_more c.loop-i.rows.items c.new.result c.new.ensures.items c.loop-i.invariant.1,
    )
