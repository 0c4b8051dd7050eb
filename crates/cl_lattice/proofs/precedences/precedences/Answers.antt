use Rattle.std.proofs.Common.{◌≡◌, ap, subst}
use Rattle.std.specs.Prelude.{All}
use Rattle.cl_lattice.specs.World.{World}
use Rattle.cl_lattice.proofs.PrecedenceLemmas.{all_listed}
use Rattle.cl_lattice.proofs.precedences.precedences.Goals as goal

pub returns : goal.returns
returns c =
    let types : c.known.inside.types ≡ c.args.known.now.types = ap (λ (v : World). v.types) c.known.view_is in
    let owned : All (λ e. e.0 ≡ e.1.name) c.args.known.now.types = subst (All (λ e. e.0 ≡ e.1.name)) types c.is_table.ensures.owned in
    rw (c.in_ok-add_declared.ensures, c.in_ok-add_or_types.ensures, c.in_ok-add_built.ensures, c.in_ok-add_plain.ensures, c.new-table.ensures, types)
    (all_listed c.args.known.now owned)
