use Rattle.std.proofs.Common.{◌≡◌, take}
use Rattle.cl_session.specs.TranslatorPlaces.{places_of}
use Rattle.cl_session.proofs.translators.places_of.Given as goal

abbrev pub invariant-loop-place : goal.invariant-loop-place
invariant-loop-place l = l.places ≡ places_of (take l.place l.translators)
