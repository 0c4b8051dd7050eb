use Rattle.cl_load.specs.Types.{holds_in, types_in}
use Rattle.cl_loaded.proofs.Reused.{loaded_reuse}
use Rattle.cl_tests.proofs.tests.frames.said_of_two.Goals as goal

pub said_on_types-requires : goal.said_on_types-requires
said_on_types-requires g c =
    rw (c.in_ok-loaded.ensures.1)
    (loaded_reuse (g.H.Hosts.bounds c.args.hosts.now) _ (g.H.Hosts.entries c.args.hosts.now) (holds_in (types_in (g.H.Hosts.bounds c.args.hosts.now) c.in_ok-loaded.loaded.app) c.in_ok-loaded.loaded.app)
    c.in_ok-loaded.loaded.app c.in_ok-loaded.ensures.0)
