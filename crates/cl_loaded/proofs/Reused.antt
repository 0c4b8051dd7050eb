-- What loads may be reused.
use Rattle.std.proofs.Common.{ℕ, [], List, Ok}
use Rattle.cl_application.specs.declared.applications.App.{App}
use Rattle.cl_cover.proofs.UpdateLemmas.{none_is_covered}
use Rattle.cl_eval.specs.Statements.{Member}
use Rattle.cl_lattice.specs.Expansion.{expansion}
use Rattle.cl_load.specs.Application.{LoadsAs}
use Rattle.cl_load.specs.Types.{Bounds, types_in}
use Rattle.cl_loaded.proofs.SitesTexts.{loaded_apart}
use Rattle.cl_loaded.proofs.TextsOwned.{loaded-owned}
use Rattle.cl_loaded.proofs.TextsSeen.{owned-sees}
use Rattle.cl_loaded.specs.Texts.{texts_in}
use Rattle.cl_ptext.specs.Hosts.{NameEntries}
use Rattle.cl_ptext.specs.TextLaws.{book_texts}
use Rattle.cl_updating.specs.Redisplays.{CanReuse}

pub loaded_reuse : (bounds : Bounds) (bytes : List ℕ) (names : List ℕ → NameEntries) (holds : Member) (app : App) → LoadsAs bounds bytes (Ok app)
    → CanReuse app (record { holds = holds; presents = texts_in names (types_in bounds app) app })
loaded_reuse bounds bytes names holds app loads = record {
  texts = book_texts (record { app = app; world = types_in bounds app; hosts = names }) (expansion (types_in bounds app) []);
  sees = owned-sees bounds names app (loaded-owned bounds bytes app loads);
  covered = (none_is_covered app).0 loads.1;
  apart = loaded_apart bounds bytes app loads;
}
