-- The types of an application whose user types stand under their own names see only what their specifiers reach.
use Rattle.std.proofs.Common.{ℕ, List, []}
use Rattle.cl_value.specs.Data.{text}
use Rattle.cl_application.specs.declared.applications.App.{App}
use Rattle.cl_eval.specs.Outcome.{after, give}
use Rattle.cl_lattice.specs.World.{World}
use Rattle.cl_load.specs.Types.{Bounds, command_types, host_bounds, types_in}
use Rattle.cl_ptext.specs.Book.{Book}
use Rattle.cl_ptext.specs.Hosts.{NameEntries}
use Rattle.cl_ptext.specs.Texts.{outcome_of_text}
use Rattle.cl_reuse.specs.ReadValues.{SeesReads}
use Rattle.cl_loaded.specs.Texts.{StandUnderTheirNames, texts_in}
use Rattle.cl_loaded.proofs.TextsNamed.{user_named}
use Rattle.cl_loaded.proofs.TextsReached.{AreDeclared, expansion-same}

declared-sees : (names : List ℕ → NameEntries) (w : World) (app : App) → AreDeclared app w → SeesReads app (texts_in names w app)
unfolding outcome_of_text
declared-sees names w app declared = record {
  same = λ limits slots other s agree d.
      let b : Book = record { app = app; world = w; hosts = names } in
      λ i. after (expansion-same b limits slots other declared s agree d [] i 0 0) (λ x. give (text x));
}

pub owned-sees : (bounds : Bounds) (names : List ℕ → NameEntries) (app : App) → StandUnderTheirNames app
    → SeesReads app (texts_in names (types_in bounds app) app)
owned-sees bounds names app own =
    declared-sees names (types_in bounds app) app
    (user_named app.records app.types (host_bounds bounds app.hosts) (command_types app.commands) own)
