use Rattle.std.proofs.Common.{◌≡◌, ◌<◌, pos, ◌+ℤ◌, ◌<ℤ◌, sym, ◌∙◌, ap, length, rules, arith}
use Rattle.std.proofs.lemmas.Int.{ints, to_z-of_z}
use mir.Syntax.{w64}
use mir.Val.{SFits, to_z}
use Rattle.cl_spans.specs.Extending.{extended}
use Rattle.cl_spans.specs.Filling.{columns_of, row_in}
use Rattle.cl_spans.proofs.AddLemmas.{IsAddedUpTo, added_all, added_first, added_more, part_within}
use Rattle.cl_spans.proofs.RowLemmas.{row_at}
use Rattle.cl_spans.proofs.rows.add.Goals as goal

pub loop-y-init : goal.loop-y-init
loop-y-init c =
    let f : SFits w64 c.args.first = c.ranges.first in
    let g : SFits w64 c.args.part.now.y1 = search rules in
    simp to_z-of_z (added_first c.args.part.now c.args.first c.args.rows.now.items (sym c.is_empty.ensures.sides ∙ c.if-is_empty.false))

pub index_mut-requires : goal.index_mut-requires
index_mut-requires c =
    let y = to_z w64 c.loop-y.y-bits in
    let f : SFits w64 c.args.first = c.ranges.first in
    let h : y <ℤ c.args.part.now.y2 = omega (arith, ints) in
    let w = part_within c.args.first (length c.args.rows.now.items) c.args.part.now y c.requires
    (sym c.is_empty.ensures.sides ∙ c.if-is_empty.false) c.loop-y.invariant.top h in
    let e = simp to_z-of_z at c.abs_diff-place.ensures in
    omega (arith, w.1, e, c.loop-y.invariant.count, c.loop-y.rows.ok.0)

pub loop-y-preserved : goal.loop-y-preserved
loop-y-preserved c =
    let part = c.args.part.now in
    let y = to_z w64 c.loop-y.y-bits in
    let vs = c.loop-y.rows.items in
    let i = c.abs_diff-place.result in
    let f : SFits w64 c.args.first = c.ranges.first in
    let left : SFits w64 part.x1 = search rules in
    let right : SFits w64 part.x2 = search rules in
    let last : SFits w64 part.y2 = search rules in
    let h : y <ℤ part.y2 = omega (arith, ints) in
    let next : SFits w64 (y +ℤ pos 1) = search rules in
    let w = part_within c.args.first (length c.args.rows.now.items) part y c.requires
    (sym c.is_empty.ensures.sides ∙ c.if-is_empty.false) c.loop-y.invariant.top h in
    let place = simp to_z-of_z at c.abs_diff-place.ensures in
    let so_far : IsAddedUpTo part c.args.first y c.args.rows.now.items vs = simp to_z-of_z at c.loop-y.invariant in
    let within : i < length vs = omega (arith, w.1, place, c.loop-y.invariant.count) in
    let put : c.extend.new.row.items ≡ extended (row_in vs i) (columns_of part) =
    simp to_z-of_z at c.in_ok-extend.ensures
    ∙ ap (λ row. extended row (columns_of part)) (sym (row_at vs i c.index_mut.result.now within c.index_mut.ensures.value)) in
    simp to_z-of_z
    (added_more part c.args.first y c.args.rows.now.items vs i c.extend.new.row so_far h w.0 place within put)

pub returns-clause-rows : goal.returns-clause-rows
returns-clause-rows c =
    let y = to_z w64 c.loop-y.y-bits in
    let f : SFits w64 c.args.first = c.ranges.first in
    let last : SFits w64 c.args.part.now.y2 = search rules in
    let so_far : IsAddedUpTo c.args.part.now c.args.first y c.args.rows.now.items c.loop-y.rows.items = simp to_z-of_z at c.loop-y.invariant in
    added_all c.args.part.now c.args.first y c.args.rows.now.items c.loop-y.rows.items
    (sym c.is_empty.ensures.sides ∙ c.if-is_empty.false) (omega (arith, ints)) so_far
