use Rattle.std.proofs.Common.{◌≡◌, ◌-◌, ◌≤ℤ◌, ◌∙◌, ◌<◌, refl, ap, subst, length, rules, arith}
use Rattle.std.proofs.lemmas.Int.{ints, to_z-of_z}
use Rattle.std.specs.Int.{int_max}
use mir.Syntax.{w64}
use mir.Val.{SFits, to_z, of_z}
use Rattle.cl_spans.proofs.ExtendLemmas.{adds_first, adds_more, joins, same_item}
use Rattle.cl_spans.proofs.runs.extend.Goals as goal
use Rattle.cl_spans.proofs.runs.extend.Goals.{else-count-gt0-via-then-count-gt0+else-span-index, else-count-gt0-via-else-count-gt0}

pub returns-then-span-index : goal.returns-then-span-index
returns-then-span-index c =
    let xs = c.args.row.now.items in
    let n = c.len-count.result - 1 in
    let last = c.index_mut.result.now in
    let within : n < length xs = omega arith in
    let fits_last : SFits w64 c.index-then-span-index.result.now.x2 = search rules in
    let fits_end : SFits w64 c.args.span.x2 = search rules in
    let fits_max : SFits w64 c.max.result = search rules in
    let tested : c.index.result.now ≡ last = same_item xs n _ _ within c.index.ensures c.index_mut.ensures.value in
    let compared : c.index-then-span-index.result.now ≡ last = same_item xs n _ _ within c.index-then-span-index.ensures c.index_mut.ensures.value in
    let before : c.args.span.x1 ≤ℤ c.index.result.now.x2 = omega (arith, ints) in
    let further : to_z w64 (of_z w64 c.max.result) ≡ int_max c.index-then-span-index.result.now.x2 c.args.span.x2 =
    to_z-of_z w64 c.max.result fits_max
    ∙ (c.max.ensures.value ∙ rw (to_z-of_z w64 c.index-then-span-index.result.now.x2 fits_last, to_z-of_z w64 c.args.span.x2 fits_end) refl) in
    joins xs c.args.span n last (to_z w64 (of_z w64 c.max.result))
    (omega arith) c.index_mut.ensures.value (subst (λ a. c.args.span.x1 ≤ℤ a.x2) tested before)
    (further ∙ ap (λ a. int_max a.x2 c.args.span.x2) compared)

pub returns : goal.returns
returns c =
    c.in_ok-push.ensures.items
    ∙ elim c.else-count-gt0.branch [
      | else-count-gt0-via-then-count-gt0+else-span-index w ↦
          adds_more c.args.row.now.items c.args.span (c.len-count.result - 1) w.index.result.now (omega arith) w.index.ensures (omega (arith, ints))
      | else-count-gt0-via-else-count-gt0 w ↦ adds_first c.args.row.now.items c.args.span (omega arith)
    ]
