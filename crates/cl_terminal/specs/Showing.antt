-- What a terminal shows below the screen.
use Rattle.std.specs.Prelude.{◌≡◌, ◌⊎◌, ℕ, List, [], ◌++◌, Option, None, Some, codes}
use Rattle.cl_ansi.specs.Terminal.{Terminal, Writes}
use Rattle.cl_application.specs.declared.applications.App.{App}
use Rattle.cl_interactor.specs.Expected.{expected_words}
use Rattle.cl_interactor.specs.Rows.{interactor_bytes}
use Rattle.cl_interactor.specs.Typed.{typed_so_far}
use Rattle.cl_outside.specs.Memory.{MemorySink}
use Rattle.cl_outside.specs.declared.answers.Sent.{Sent}
use Rattle.cl_session.specs.Naming.{sight_in}
use Rattle.cl_session.specs.World.{World}

-- what is shown of what was said: all of it that was kept; where there was no memory for it, that
abbrev pub said_bytes : Option MemorySink → List ℕ
said_bytes None = codes "! memory"
said_bytes (Some said) = said.taken

-- these bytes are all that was said, or the first ones of it
abbrev pub SaysFirst : List ℕ → MemorySink → Type 0
SaysFirst whole said = (lost : List ℕ) × (whole ≡ said.taken ++ lost)

-- the rows below the screen in a world: what was typed, what is expected, and what was said of the last gesture
abbrev pub rows_in : App → World → Option MemorySink → List ℕ
rows_in app w said = interactor_bytes app.frame.height (typed_so_far w.line) (expected_words app (sight_in app) w.line w.dialog) (said_bytes said)

-- the rows were sent, or nothing was, out of memory
pub record Shows (app : App) (w : World) (said : Option MemorySink) (old new : Terminal) (sent : Sent) : Type 0 where
  pub bytes : List ℕ
  pub rows : (bytes ≡ rows_in app w said) ⊎ (bytes ≡ [])
  pub writes : Writes old new bytes sent
