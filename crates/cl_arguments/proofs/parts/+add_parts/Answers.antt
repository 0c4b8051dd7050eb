use Rattle.std.proofs.Common.{◌≡◌, ◌+◌, drop, List, ap, subst, ◌∙◌, arith}
use Rattle.std.specs.Prelude.{OnOk}
use Rattle.cl_lattice.specs.Arguments.{trees_of}
use Rattle.cl_arguments.specs.Probes.{in_parts_all}
use Rattle.cl_arguments.specs.ProbeSearch.{found_in, with_probes}
use Rattle.cl_arguments.specs.declared.probes.Probe.{Probe}
use Rattle.cl_arguments.proofs.InParts.{parts_in_turn, args_in_turn}
use Rattle.cl_arguments.proofs.parts.+add_parts.Goals as goal

pub add_parts-returns : goal.add_parts-returns
add_parts-returns t c =
    subst (λ (ps : List Probe). OnOk c.add_parts_all.result (c.add_parts_all.new.found ≡ ps))
    (parts_in_turn (found_in c.args.sought.now) c.args.spec.now c.spec.inside.name c.as_slice.result.now c.spec.inside.args c.spec.inside.options c.args.found.now c.add_own.new.found
    c.spec.view_is c.as_slice.ensures c.in_ok-add_own.ensures)
    c.add_parts_all.ensures

pub add_parts_all-loop-arg-preserved : goal.add_parts_all-loop-arg-preserved
add_parts_all-loop-arg-preserved t c =
    ap (with_probes (in_parts_all (found_in c.args.sought.now) (trees_of (drop (c.loop-arg.arg-index + 1) c.args.args.now)))) c.in_ok-add_parts_arg.ensures
    ∙ args_in_turn (found_in c.args.sought.now) c.args.args.now c.loop-arg.arg-index c.arg-item.result c.loop-arg.found (omega arith) c.arg-item.is
    ∙ c.loop-arg.invariant
