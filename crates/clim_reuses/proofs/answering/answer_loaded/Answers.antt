use Rattle.cl_load.specs.Types.{holds_in, types_in}
use Rattle.cl_loaded.proofs.Reused.{loaded_reuse}
use Rattle.clim_reuses.proofs.answering.answer_loaded.Goals as goal

pub answer_on_types-requires : goal.answer_on_types-requires
answer_on_types-requires g c =
    rw (c.in_ok-loaded.ensures.1)
    (loaded_reuse (g.H.Hosts.bounds c.args.hosts.now) _ (g.H.Hosts.entries c.args.hosts.now) (holds_in (types_in (g.H.Hosts.bounds c.args.hosts.now) c.in_ok-loaded.loaded.app) c.in_ok-loaded.loaded.app)
    c.in_ok-loaded.loaded.app c.in_ok-loaded.ensures.0)
