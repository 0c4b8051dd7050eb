use Rattle.std.proofs.Common.{refl, ◌∙◌}
use Rattle.cl_application.specs.declared.declarations.CommandDecl.{CommandDecl}
use Rattle.cl_syntax.specs.declared.type_decls.CommandType.{CommandType}
use Rattle.cl_lattice.proofs.TableCopies.{copied_next}
use Rattle.cl_load.specs.Types.{command_type}
use Rattle.cl_load.proofs.types.command_types.Goals as goal

pub loop-place-preserved : goal.loop-place-preserved
loop-place-preserved c =
    c.in_ok-add_first.ensures.ok
    ∙ copied_next (λ (k : CommandDecl). k.name) (λ (k : CommandType). k.name) command_type c.args.commands.now c.loop-place.types c.loop-place.place c.in-Some.command.now
    c.in_ok-command_type.field-0 c.is_table.ensures c.in-Some.ensures c.loop-place.invariant c.in_ok-command_type.ensures refl
