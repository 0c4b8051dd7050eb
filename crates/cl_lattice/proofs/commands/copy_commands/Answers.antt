use Rattle.std.proofs.Common.{sym, refl, take, ◌∙◌}
use Rattle.cl_syntax.specs.declared.type_decls.CommandType.{CommandType}
use Rattle.cl_lattice.proofs.TableCopies.{copied_next, same_copies}
use Rattle.cl_lattice.proofs.commands.copy_commands.Goals as goal

pub loop-place-preserved : goal.loop-place-preserved
loop-place-preserved c =
    c.in_ok-add_first.ensures.ok
    ∙ copied_next (λ (k : CommandType). k.name) (λ k. k.name) (λ k. k) c.args.commands.now c.loop-place.copied c.loop-place.place c.in-Some.command.now c.in_ok-copy_command.field-0
    c.is_table.ensures c.in-Some.ensures (c.loop-place.invariant ∙ sym (same_copies (take c.loop-place.place c.args.commands.now))) c.in_ok-copy_command.ensures refl
    ∙ same_copies _
