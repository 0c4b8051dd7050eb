use Rattle.std.proofs.Common.{◌≡◌, ◌+◌, ◌-◌, ◌<◌, ◌∙◌, length, get_or, pos, ap, arith, rules, sym, take}
use Rattle.std.proofs.lemmas.Int.{to_z-of_z}
use Rattle.std.proofs.lemmas.List.{take_more, length-take-le}
use mir.Syntax.{w64}
use mir.Val.{SFits, of_z, to_z}
use Rattle.cl_region.specs.declared.rects.Rect.{Rect}
use Rattle.cl_index.specs.Found.{is_at}
use Rattle.cl_index.specs.Boxes.{before, head_of}
use Rattle.cl_index.proofs.Walked.{before_fails, before_here, before_late}
use Rattle.cl_index.proofs.trees.last_of.Goals as goal
use Rattle.cl_index.proofs.trees.last_of.Goals.{else-base-left-via-then-base-left+else-contains, else-base-left-via-else-base-left}

pub returns-then-contains : goal.returns-then-contains
returns-then-contains c =
    let a : SFits w64 c.args.x = search rules in
    let b : SFits w64 c.args.y = search rules in
    let rects = c.args.rects.now in
    let p = is_at c.args.x c.args.y in
    let i = c.loop-left.left - 1 in
    let d : Rect = record { x1 = pos 0; y1 = pos 0; x2 = pos 0; y2 = pos 0 } in
    let inside : i < length rects = omega (arith, c.loop-left-test.true, c.loop-left.invariant.inside) in
    let more : c.loop-left.left ≡ i + 1 = omega (arith, c.loop-left-test.true) in
    let taken = ap (λ n. take n rects) more ∙ take_more rects i d inside in
    let place : c.args.base + i ≡ c.args.base + length (take i rects) = omega (arith, length-take-le i rects (omega arith)) in
    let held = rw (to_z-of_z w64 c.args.x a, to_z-of_z w64 c.args.y b) at (sym c.contains.ensures ∙ c.if-contains.true) in
    let same = rw (to_z-of_z w64 c.args.x a, to_z-of_z w64 c.args.y b) at c.loop-left.invariant.same in
    before_here p c.args.end c.args.base (c.args.base + i) (take i rects) (get_or rects i d) place held c.if-base-left.true
    ∙ ap head_of (sym (ap (λ rs. before c.args.end p c.args.base rs) taken) ∙ same)

pub loop-left-preserved : goal.loop-left-preserved
loop-left-preserved c =
    let rects = c.args.rects.now in
    let p = is_at (to_z w64 (of_z w64 c.args.x)) (to_z w64 (of_z w64 c.args.y)) in
    let i = c.loop-left.left - 1 in
    let d : Rect = record { x1 = pos 0; y1 = pos 0; x2 = pos 0; y2 = pos 0 } in
    let inside : i < length rects = omega (arith, c.loop-left-test.true, c.loop-left.invariant.inside) in
    let more : c.loop-left.left ≡ i + 1 = omega (arith, c.loop-left-test.true) in
    let taken = ap (λ n. take n rects) more ∙ take_more rects i d inside in
    let place : c.args.base + i ≡ c.args.base + length (take i rects) = omega (arith, length-take-le i rects (omega arith)) in
    let whole = sym (ap (λ rs. before c.args.end p c.args.base rs) taken) ∙ c.loop-left.invariant.same in
    record {
      inside = omega (arith, inside);
      same = elim c.else-base-left.branch [
        | else-base-left-via-then-base-left+else-contains w ↦
            before_fails p c.args.end c.args.base (c.args.base + i) (take i rects) (get_or rects i d) place (sym w.contains.ensures ∙ w.if-contains.false) ∙ whole
        | else-base-left-via-else-base-left w ↦
            before_late p c.args.end c.args.base (c.args.base + i) (take i rects) (get_or rects i d) place (omega (arith, w.if-base-left.false)) ∙ whole
      ];
    }
