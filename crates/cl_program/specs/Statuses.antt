-- The statuses of the program, and when they are due.
use Rattle.std.specs.Prelude.{◌≡◌, ◌<◌, ◌≤◌, ℕ, List, length, Option, None, Some}
use Rattle.cl_application.specs.declared.applications.App.{App}
use Rattle.cl_gen.specs.Workload.{application_text}
use Rattle.cl_gesture.specs.Lines.{pieces}
use Rattle.cl_gesture.specs.Next.{most_lines}
use Rattle.cl_load.specs.Application.{IsApplication, IsReason}
use Rattle.cl_load.specs.Reason.{Reason}
use Rattle.cl_load.specs.Types.{Bounds}
use Rattle.cl_session.specs.declared.serving.End.TheVariants as end
use Rattle.cl_program.specs.Texts.{first_bytes}
use Rattle.cl_program.specs.Commands.{MakesNoneAt}
use Rattle.cl_program.specs.Hosts.{HostMeanings}
use Rattle.cl_program.specs.Run.{Ran}
use Rattle.cl_program.specs.Surroundings.{Placed, Streams}
use Rattle.cl_program.specs.declared.running.How.{How}
use Rattle.cl_program.specs.declared.running.How.TheVariants as how

-- the status that a run ends with
abbrev pub status_of : How → ℕ
status_of how.Usage = 2
status_of how.UsageCut = 5
status_of how.AppFault = 3
status_of how.Refused = 1
status_of how.RefusalCut = 5
status_of how.Loads = 0
status_of how.LoadsCut = 5
status_of how.WireFault = 6
status_of how.Memory = 7
status_of how.Benched = 0
status_of how.BenchCut = 5
status_of (how.Ended end.Done) = 0
status_of (how.Ended end.ReadFault) = 4
status_of (how.Ended end.TooMany) = 8
status_of (how.Ended end.OutputFault) = 5

-- a run ended with this status: in one of the ways that have it, and what that says holds
pub record EndsWith (hosts : HostMeanings) (words : List (List ℕ)) (place_old place_new : Placed) (old new : Streams) (status : ℕ) : Type 0 where
  pub how : How
  pub status_is : status ≡ status_of how
  pub ran : Ran hosts words place_old place_new old new how
  pub makes : MakesNoneAt how place_old place_new

-- a file that is told, whose text declares an application on host types of these bounds
abbrev pub DeclaresApplication : Bounds → Option (Option (List ℕ)) → Type 0
DeclaresApplication bounds None = ⊥
DeclaresApplication bounds (Some None) = ⊥
DeclaresApplication bounds (Some (Some bytes)) = (app : App) × IsApplication bounds (first_bytes bytes) app

-- a file that is told, whose text does not load for this reason on host types of these bounds
abbrev pub HasRefusal : Bounds → Option (Option (List ℕ)) → Reason → Type 0
HasRefusal bounds None reason = ⊥
HasRefusal bounds (Some None) reason = ⊥
HasRefusal bounds (Some (Some bytes)) reason = IsReason bounds (first_bytes bytes) reason

-- gestures that are told, of at most a million lines
abbrev pub HasFewLines : Option (List ℕ) → Type 0
HasFewLines None = ⊥
HasFewLines (Some bytes) = length (pieces bytes) ≤ most_lines

-- gestures that are told, of more than a million lines
abbrev pub HasManyLines : Option (List ℕ) → Type 0
HasManyLines None = ⊥
HasManyLines (Some bytes) = most_lines < length (pieces bytes)

-- the application text of a bench of so many items declares an application on host types of these bounds
abbrev pub DeclaresItems : Bounds → (items : ℕ) → Type 0
DeclaresItems bounds items = (app : App) × IsApplication bounds (application_text items) app

-- it does not load for this reason
abbrev pub RefusesItems : Bounds → (items : ℕ) → Reason → Type 0
RefusesItems bounds items reason = IsReason bounds (application_text items) reason
