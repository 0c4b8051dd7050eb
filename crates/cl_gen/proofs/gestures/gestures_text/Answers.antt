-- Each turn puts the lines of one more key behind the text, and the text ends with the lines of the item that comes in front.
use Rattle.std.proofs.Common.{◌≡◌, ◌+◌, ◌++◌, ◌∙◌, ap, sym, arith}
use Rattle.cl_gen.specs.Workload.{joined, set_lines, front_lines, gestures_text}
use Rattle.cl_gen.proofs.Texts.{sets-more, whole-gestures}
use Rattle.cl_gen.proofs.gestures.gestures_text.Goals as goal

pub loop-done-preserved : goal.loop-done-preserved
loop-done-preserved c =
    c.in_ok-put_set.ensures ∙ ap (λ text. text ++ joined (set_lines (c.loop-done.done + 1))) c.loop-done.invariant
    ∙ sym (sets-more c.loop-done.done)

pub returns : goal.returns
returns c =
    let all : c.loop-done.done ≡ c.args.n = omega arith in
    c.in_ok-extend_from_slice.ensures.items ∙ ap (λ text. text ++ joined front_lines) c.loop-done.invariant
    ∙ sym (whole-gestures c.loop-done.done) ∙ ap gestures_text all
