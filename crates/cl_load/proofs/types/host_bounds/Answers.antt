use Rattle.std.proofs.Common.{◌∙◌}
use Rattle.cl_application.specs.declared.declarations.HostDecl.{HostDecl}
use Rattle.cl_syntax.specs.declared.type_decls.HostBound.{HostBound}
use Rattle.cl_lattice.proofs.TableCopies.{copied_next}
use Rattle.cl_load.specs.Types.{host_bound}
use Rattle.cl_load.proofs.TypeLemmas.{bound_name}
use Rattle.cl_load.proofs.types.host_bounds.Goals as goal

pub loop-place-preserved : goal.loop-place-preserved
loop-place-preserved g c =
    let bounds = g.H.Hosts.bounds c.args.hosts.now in
    c.in_ok-add_first.ensures.ok
    ∙ copied_next (λ (h : HostDecl). h.name) (λ (h : HostBound). h.name) (host_bound bounds) c.args.decls.now c.loop-place.bounds c.loop-place.place c.in-Some.decl.now c.in_ok-host_bound.field-0
    c.is_table.ensures c.in-Some.ensures c.loop-place.invariant c.in_ok-host_bound.ensures (bound_name bounds c.in-Some.decl.now)
