use Rattle.std.proofs.Common.{sym, ap, ◌∙◌}
use Rattle.std.specs.Prelude.{is_some}
use Rattle.cl_tables.specs.Lookups.{Sight, is_named, is_accessible}
use Rattle.cl_tables.proofs.SightLemmas.{some_map, any_found}
use Rattle.cl_tables.proofs.tables.Tables.accessible.Goals as goal

pub returns : goal.returns
returns c =
    c.is_some.ensures ∙ sym (some_map _ c.command_under.result) ∙ ap is_some c.command_under.ensures ∙ ap is_some (c.self.invariant.names c.args.command.now)
    ∙ sym (any_found (is_named c.args.command.now) c.self.inside.commands.items)
    ∙ ap (λ (s : Sight). is_accessible c.args.command.now s.commands) c.self.view_is
