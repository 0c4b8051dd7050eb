-- The texts of values by the types of an application.
use Rattle.std.specs.Prelude.{◌≡◌, ℕ, All, List, []}
use Rattle.cl_application.specs.declared.applications.App.{App}
use Rattle.cl_eval.specs.TypeMeanings.{Presents}
use Rattle.cl_lattice.specs.Expansion.{expansion}
use Rattle.cl_lattice.specs.World.{World}
use Rattle.cl_ptext.specs.Hosts.{NameEntries}
use Rattle.cl_ptext.specs.Texts.{outcome_of_text}

-- the text of a value by a specifier, by the types and the present methods of an application and the names of host types
abbrev pub texts_in : (List ℕ → NameEntries) → World → App → Presents
texts_in names w app limits slots s d = outcome_of_text (record { app = app; world = w; hosts = names }) limits slots (expansion w [] s) s d

-- each user type stands under its own name
abbrev pub StandUnderTheirNames : App → Type 0
StandUnderTheirNames app = All (λ e. e.0 ≡ e.1.name) app.types
