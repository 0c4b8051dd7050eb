use Rattle.std.proofs.Common.{◌+◌, ◌*◌, ℕ, ap, ◌∙◌, sym}
use Rattle.std.specs.Prelude.{filter}
use Rattle.cl_translators.specs.Order.{is_for}
use Rattle.cl_translators.proofs.SlotLemmas.{in_its_slot}
use Rattle.cl_translators.proofs.translators.Translators.group.Goals as goal

pub returns : goal.returns
returns c =
    let slot : ℕ = 10 * c.number.result + c.args.high in
    c.under.ensures
    ∙ in_its_slot c.args.gesture c.args.from.now c.args.high slot c.self.inside.all.items c.in-Some.groups.now
    (ap (λ (n : ℕ). 10 * n + c.args.high) c.number.ensures) c.requires (c.self.invariant.each slot c.in-Some.groups.now (sym (rw (c.from.ensures, c.as_slice.ensures.value) at c.in-Some.ensures)))
    ∙ ap (filter (is_for c.args.gesture c.args.from.now c.args.high)) c.self.view_is
