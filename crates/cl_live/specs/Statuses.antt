-- The statuses of a run in a terminal.
use Rattle.std.specs.Prelude.{◌≡◌, ℕ, Bool, List}
use Rattle.cl_live.specs.Runs.{Went}
use Rattle.cl_live.specs.declared.ends.How.{How}
use Rattle.cl_live.specs.declared.ends.How.TheVariants as how
use Rattle.cl_program.specs.Hosts.{HostMeanings}
use Rattle.cl_program.specs.Surroundings.{Placed, Streams}
use Rattle.cl_terminal.specs.declared.flows.Closing.TheVariants as closing
use Rattle.cl_terminal.specs.declared.running.RunEnd.TheVariants as end

-- the status that a run ends with
abbrev pub status_of : How → ℕ
status_of how.Usage = 2
status_of how.UsageCut = 5
status_of how.AppFault = 3
status_of how.Refused = 1
status_of how.RefusalCut = 5
status_of how.Memory = 7
status_of (how.Ran end.Memory) = 7
status_of (how.Ran (end.Served closing.Done)) = 0
status_of (how.Ran (end.Served closing.ReadFault)) = 4
status_of (how.Ran (end.Served closing.OutputFault)) = 5
status_of (how.Ran (end.Served closing.TooLong)) = 8

-- a run ended with this status: in one of the ways that have it, and what that says holds
pub record EndsWith (told : Bool) (hosts : HostMeanings) (words : List (List ℕ)) (place_old place_new : Placed) (old new : Streams) (status : ℕ) : Type 0 where
  pub how : How
  pub status_is : status ≡ status_of how
  pub went : Went told hosts words place_old place_new old new how
