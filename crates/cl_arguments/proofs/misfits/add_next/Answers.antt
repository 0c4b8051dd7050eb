use Rattle.std.proofs.Common.{◌≡◌, ℕ, List, sym, ap, subst, ◌∙◌}
use Rattle.std.specs.Prelude.{OnOk}
use Rattle.cl_arguments.specs.Probes.{in_parts, stands_at}
use Rattle.cl_arguments.specs.ProbeSearch.{with_probes}
use Rattle.cl_arguments.specs.declared.probes.Probe.{Probe}
use Rattle.cl_arguments.proofs.NextLemmas.{parameter_at, no_parameter_at, next_behind, nowhere_next}
use Rattle.cl_arguments.proofs.misfits.add_next.Goals as goal

pub returns-in_ok-copy-in-Some-get : goal.returns-in_ok-copy-in-Some-get
returns-in_ok-copy-in-Some-get c =
    let found = c.in-Some-get.ensures.lookup in
    subst (λ (ps : List Probe). OnOk c.add_parts-in-Some-get.result (c.add_parts-in-Some-get.new.found ≡ with_probes ps c.args.found.now))
    (ap (λ (x : List ℕ). in_parts (stands_at x c.in-Some-put.put.kind) c.in-Some.decl.now.inherit_from) c.in_ok-copy-in-Some-get.ensures
    ∙ sym (next_behind c.args.types.now c.args.probe.now c.in-Some.decl.now c.in-Some-put.put c.in-Some-get.parameter.now c.in-Some.ensures c.in-Some-put.is
    (parameter_at c.as_slice.result.now c.in-Some.decl.now.parameters c.in-Some-put.put.place c.in-Some-get.parameter.now c.as_slice.ensures found.3.0 found.1)))
    c.add_parts-in-Some-get.ensures

pub returns-in-None-get : goal.returns-in-None-get
returns-in-None-get c =
    let none = c.in-None-get.ensures.lookup in
    sym (ap (λ (ps : List Probe). with_probes ps c.args.found.now) (nowhere_next c.args.types.now c.args.probe.now c.in-Some.decl.now c.in-Some-put.put c.in-Some.ensures c.in-Some-put.is
    (no_parameter_at c.as_slice.result.now c.in-Some.decl.now.parameters c.in-Some-put.put.place c.as_slice.ensures none.3)))
