use Rattle.std.proofs.Common.{◌≡◌, ◌≤◌, ◌+◌, length, sym, ap, ◌∙◌, arith}
use Rattle.std.specs.Prelude.{is_some}
use Rattle.std.proofs.lemmas.List.{length-append}
use Rattle.cl_tables.specs.Clearing.{pending}
use Rattle.cl_tables.specs.Walk.{with_visit}
use Rattle.cl_tables.proofs.ClearingLemmas.{entered, on_ok}
use Rattle.cl_tables.proofs.SightLemmas.{some_map}
use Rattle.cl_tables.proofs.clearing.enter.Goals as goal

pub returns : goal.returns
returns c =
    let here = rw c.as_slice-2.ensures at (sym c.in-Some.ensures) in
    let new = sym (some_map _ c.get.result ∙ sym c.is_some.ensures) in
    let grows = ap length c.in_ok-push.ensures.items ∙ length-append c.args.steps.now.items _ in
    on_ok (c.add_first.new.self ≡ with_visit c.args.name c.args.entered.now)
    (pending c.args.tables.now c.add_first.new.self + length c.push_parents.new.steps.items ≤ pending c.args.tables.now c.args.entered.now + length c.args.steps.now.items)
    c.add_first.result
    (λ added. rw added (entered c.args.tables.now c.args.name c.in-Some.decl.now c.args.entered.now (length c.push_parents.new.steps.items) (length c.args.steps.now.items)
    here
    (ap is_some (rw c.as_slice.ensures at (sym c.get.ensures)) ∙ sym new ∙ c.if-is_some.false)
    (omega (arith, c.in_ok-push_parents.ensures, grows, ap length c.as_slice-3.ensures))))
    c.add_first.ensures.ok
