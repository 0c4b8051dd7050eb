-- What is accessible from the command table of an application's frame.
use Rattle.std.specs.Prelude.{◌≡◌}
use Rattle.cl_application.specs.declared.applications.App.{App}
use Rattle.cl_session.specs.Naming.{sight_in}
use Rattle.cl_session.specs.TranslatorPlaces.{translators_in}
use Rattle.cl_session.specs.declared.accessible.Accessible.{Accessible}

-- its commands and its translators
pub record IsAccessible (app : App) (a : Accessible) : Type 0 where
  pub tables : a.tables ≡ sight_in app
  pub translators : a.translators ≡ translators_in app
