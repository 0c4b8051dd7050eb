use Rattle.std.proofs.Common.{◌≡◌, sym, ap, ◌∙◌}
use Rattle.std.specs.List.{list_all}
use Rattle.cl_tables.specs.Clearing.{AreClear, is_clear}
use Rattle.cl_tables.specs.Inheritance.{parents_by}
use Rattle.cl_tables.specs.Walk.{with_visit}
use Rattle.cl_tables.proofs.ClearingLemmas.{clear_more, on_ok}
use Rattle.cl_tables.proofs.clearing.leave.Goals as goal

pub returns : goal.returns
returns c =
    let parents = ap parents_by (rw c.as_slice.ensures at (sym c.in-Some.ensures)) in
    let clear = sym c.are_clear.ensures ∙ c.if-not-are_clear.false in
    on_ok (c.add_first.new.self ≡ with_visit c.args.name c.args.clear.now) (AreClear c.args.tables.now c.add_first.new.self) c.add_first.result
    (λ added. rw added (clear_more c.args.tables.now c.args.clear.now c.args.name c.requires
    (ap (list_all (is_clear c.args.tables.now c.args.clear.now)) (parents ∙ sym c.as_slice-2.ensures) ∙ clear)))
    c.add_first.ensures.ok
