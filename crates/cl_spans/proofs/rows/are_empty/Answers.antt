use Rattle.std.proofs.Common.{◌≡◌, ◌≢◌, length, refl, ap, sym, ◌∙◌, below_more, arith}
use Rattle.std.proofs.lemmas.Bool.Decides.{nat_tests}
use Rattle.std.specs.Vec.{vec_len}
use Rattle.cl_region.proofs.Corners.{wrong}
use Rattle.cl_spans.proofs.RowLemmas.{no_spans, none_anywhere, row_at}
use Rattle.cl_spans.proofs.rows.are_empty.Goals as goal

pub returns-then-not-is_empty : goal.returns-then-not-is_empty
returns-then-not-is_empty c =
    let vs = c.args.rows.now in
    let i = c.loop-row.row-index in
    let item = c.row-item.result in (
      λ h. absurd (wrong h),
      λ f. let none : length item.items ≡ 0 = ap length (sym (row_at vs i item (omega arith) c.row-item.is) ∙ f i) in
          let tested : vec_len item ≢ 0 = grind (arith, nat_tests, c.is_empty.ensures, c.if-not-is_empty.true) in
          absurd (omega (arith, item.ok.0, none)),
    )

pub loop-row-preserved : goal.loop-row-preserved
loop-row-preserved c =
    let vs = c.args.rows.now in
    let i = c.loop-row.row-index in
    let item = c.row-item.result in
    let tested : vec_len item ≡ 0 = grind (arith, nat_tests, c.is_empty.ensures, c.if-not-is_empty.false) in
    let none : length item.items ≡ 0 = omega (arith, item.ok.0) in
    below_more _ _ c.loop-row.invariant (row_at vs i item (omega arith) c.row-item.is ∙ no_spans item.items none)

pub returns : goal.returns
returns c = ((λ h. none_anywhere c.args.rows.now c.loop-row.row-index (omega arith) c.loop-row.invariant), (λ f. refl))
