-- The translators of an application, and where they stand.
use Rattle.std.specs.Prelude.{ℕ, List, map}
use Rattle.cl_application.specs.declared.applications.App.{App}
use Rattle.cl_application.specs.declared.declarations.TranslatorDecl.{TranslatorDecl}
use Rattle.cl_session.specs.Naming.{sight_in}
use Rattle.cl_syntax.specs.TypeSpecTree.{name_of}
use Rattle.cl_translators.specs.Order.{TranslatorPlaces, in_order, translators_of}
use Rattle.cl_translators.specs.declared.declarations.TranslatorPlace.{TranslatorPlace}

-- where a translator stands
abbrev pub place_of : TranslatorDecl → TranslatorPlace
place_of t = record { name = t.name; table = t.table; gesture = t.gesture; from = name_of t.from; priority = t.priority }

-- what tables see of translators
abbrev pub places_of : List (List ℕ × TranslatorDecl) → TranslatorPlaces
places_of translators = map (λ e. (e.0, place_of e.1)) translators

-- the translators that the frame's command table sees, in the order in which they are tried
abbrev pub translators_in : App → List TranslatorPlace
translators_in app = in_order (sight_in app).order (translators_of (places_of app.translators))
