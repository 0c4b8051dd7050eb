use Rattle.std.proofs.Common.{◌∙◌, sym}
use Rattle.std.proofs.lemmas.Result.{err_from_is_err_and}
use Rattle.cl_cover.proofs.UpdateLemmas.{none_is_covered}
use Rattle.cl_load.proofs.LoadLemmas.{refused_so}
use Rattle.cl_load.proofs.loading.load.Goals as goal

pub returns-in_err-opened : goal.returns-in_err-opened
returns-in_err-opened g c =
    let refusal = err_from_is_err_and c.from_residual.result c.from_residual.ensures.1 in
    rw (refusal.1, refusal.2) (refused_so (g.H.Hosts.bounds c.args.hosts.now) c.args.text.now c.in_err-opened.field-0.0 c.in_err-opened.ensures)

pub returns-in-Some : goal.returns-in-Some
returns-in-Some g c = (c.in_ok-opened.opened.app, (c.in_ok-opened.ensures.0, sym c.in_ok-update.ensures ∙ c.in-Some.is))

pub invariant_of-result-clause-of_text : goal.invariant_of-result-clause-of_text
invariant_of-result-clause-of_text g c =
    λ none. none (g.H.Hosts.bounds c.args.hosts.now) c.args.text.now (c.in_ok-opened.ensures.0, sym c.in_ok-update.ensures ∙ c.in-None.is)
    c.in_ok-opened.ensures.1

pub invariant_of-result-clause-covered : goal.invariant_of-result-clause-covered
invariant_of-result-clause-covered g c =
    (none_is_covered c.in_ok-opened.opened.app).0 (sym c.in_ok-update.ensures ∙ c.in-None.is)

pub returns-in_err-update : goal.returns-in_err-update
returns-in_err-update g c =
    let memory = err_from_is_err_and c.from_residual-in_err-update.result c.from_residual-in_err-update.ensures.1 in
    rw (memory.1, memory.2) tt
