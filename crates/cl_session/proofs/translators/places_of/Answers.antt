use Rattle.std.proofs.Common.{refl, ◌∙◌}
use Rattle.cl_application.specs.declared.declarations.TranslatorDecl.{TranslatorDecl}
use Rattle.cl_lattice.proofs.TableCopies.{copied_next}
use Rattle.cl_session.specs.TranslatorPlaces.{place_of}
use Rattle.cl_translators.specs.declared.declarations.TranslatorPlace.{TranslatorPlace}
use Rattle.cl_session.proofs.translators.places_of.Goals as goal

pub loop-place-preserved : goal.loop-place-preserved
loop-place-preserved c =
    c.in_ok-add_first.ensures.ok
    ∙ copied_next (λ (t : TranslatorDecl). t.name) (λ (p : TranslatorPlace). p.name) place_of c.args.translators.now c.loop-place.places c.loop-place.place
    c.in-Some.translator.now c.in_ok-place_of.field-0 c.is_table.ensures c.in-Some.ensures c.loop-place.invariant c.in_ok-place_of.ensures refl
