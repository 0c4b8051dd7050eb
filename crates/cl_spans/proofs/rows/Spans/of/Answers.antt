use Rattle.std.proofs.Common.{pos, length, drop, ◌∙◌, rules}
use Rattle.std.proofs.lemmas.Int.{to_z-of_z}
use mir.Syntax.{w64}
use mir.Val.{SFits}
use Rattle.cl_spans.specs.Filling.{rows_from}
use Rattle.cl_spans.proofs.FilledLemmas.{all_rows_are_runs, filled_first, filled_all, filled_step, part_is_within}
use Rattle.cl_spans.proofs.rows.Spans.of.Goals as goal

pub loop-rect-init : goal.loop-rect-init
loop-rect-init c = (
  c.in_ok-rows.ensures.count ∙ c.row_count.ensures,
  rw c.deref-rect-items.ensures.value
      (filled_first c.args.clip.now c.in_ok-sorted.sorted.items (rows_from c.args.clip.now.y1 c.in_ok-rows.rows.items) c.in_ok-sorted.ensures.order c.in_ok-rows.ensures.empty),
)

pub add-requires : goal.add-requires
add-requires c =
    let f : SFits w64 c.args.clip.now.y1 = search rules in
    rw (c.meet.ensures.rect)
    (simp to_z-of_z (part_is_within _ c.args.clip.now (length c.loop-rect.rows.items) c.loop-rect.invariant.0))

pub loop-rect-preserved : goal.loop-rect-preserved
loop-rect-preserved c =
    let clip = c.args.clip.now in
    let f : SFits w64 clip.y1 = search rules in
    let added = simp to_z-of_z at (rw c.meet.ensures.rect at c.in_ok-add.ensures.rows) in (
      c.in_ok-add.ensures.count ∙ c.loop-rect.invariant.0,
      filled_step clip c.deref-rect-items.result.now c.loop-rect.rect-index (record { x1 = pos 0; y1 = pos 0; x2 = pos 0; y2 = pos 0 })
          (rows_from clip.y1 c.loop-rect.rows.items) (rows_from clip.y1 c.add.new.rows.items) c.loop-rect-test.true c.loop-rect.invariant.1 added,
    )

pub invariant_of-result : goal.invariant_of-result
invariant_of-result c = all_rows_are_runs (rows_from c.args.clip.now.y1 c.loop-rect.rows.items) c.loop-rect.invariant.1.runs

pub returns-clause-places : goal.returns-clause-places
returns-clause-places c =
    let clip = c.args.clip.now in
    let f : SFits w64 clip.y1 = search rules in
    let same = rw (← c.deref-rect-items.ensures.value) at c.in_ok-sorted.ensures.same in
    simp to_z-of_z
    (filled_all clip c.args.rects.now c.deref-rect-items.result.now (drop c.loop-rect.rect-index c.deref-rect-items.result.now) c.loop-rect.rect-index
    (rows_from clip.y1 c.loop-rect.rows.items) c.loop-rect-test.false same c.loop-rect.invariant.1)

pub returns-clause-rows : goal.returns-clause-rows
returns-clause-rows c =
    let f : SFits w64 c.args.clip.now.y1 = search rules in
    simp to_z-of_z c.loop-rect.invariant.1.runs
