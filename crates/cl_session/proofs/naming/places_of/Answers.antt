use Rattle.std.proofs.Common.{refl, ◌∙◌}
use Rattle.cl_application.specs.declared.declarations.CommandDecl.{CommandDecl}
use Rattle.cl_lattice.proofs.TableCopies.{copied_next}
use Rattle.cl_session.specs.Naming.{place_of}
use Rattle.cl_tables.specs.declared.declarations.CommandPlace.{CommandPlace}
use Rattle.cl_session.proofs.naming.places_of.Goals as goal

pub loop-place-preserved : goal.loop-place-preserved
loop-place-preserved c =
    c.in_ok-add_first.ensures.ok
    ∙ copied_next (λ (k : CommandDecl). k.name) (λ (p : CommandPlace). p.name) place_of c.args.commands.now c.loop-place.places c.loop-place.place
    c.in-Some.command.now c.in_ok-place_of.field-0 c.is_table.ensures c.in-Some.ensures c.loop-place.invariant c.in_ok-place_of.ensures refl
