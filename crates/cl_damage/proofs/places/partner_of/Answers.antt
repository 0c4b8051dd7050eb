use Rattle.std.proofs.Common.{◌≡◌, ℕ, Option, Some, ◌∙◌, ap, sym, subst, drop}
use Rattle.cl_damage.specs.Places.{IsNext, last_place, not_before}
use Rattle.cl_damage.specs.Touched.{partner}
use Rattle.cl_damage.proofs.NextLemmas.{named-next}
use Rattle.cl_damage.proofs.places.partner_of.Goals as goal

pub returns-in-Update : goal.returns-in-Update
returns-in-Update g c = λ os known.
    let head = c.in-Update.branch.piece.now.head in
    let site = c.site.ensures ∙ ap (λ h. h.site) c.head-head.ensures in
    let id = c.id.ensures ∙ ap (λ h. h.id) c.head-head.ensures in
    let place : c.find.result ≡ last_place (head.site, head.id) os =
    c.find.ensures ∙ (known c.site.result c.id.result.now ∙ (λ i. last_place (site i, id i) os)) in
    let there = c.not_before.ensures ∙ ap (not_before c.args.next) place in
    rw c.in-Update.is
    (subst (λ (r : Option ℕ). IsNext c.args.next os (partner (Some (head.site, head.id)) (drop c.args.next os)) r) (sym there)
    (named-next (head.site, head.id) c.args.next os))
