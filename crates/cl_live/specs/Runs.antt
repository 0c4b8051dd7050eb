-- What a run in a terminal comes to. The gestures of the streams are the keys here, and their output is the terminal.
use Rattle.std.specs.Prelude.{◌≡◌, ℕ, Bool, List, Option, None}
use Rattle.cl_ansi.specs.Terminal.{Terminal, new_terminal}
use Rattle.cl_eval.specs.declared.metering.Limits.{Limits}
use Rattle.cl_frame.specs.Ground.{Ground}
use Rattle.cl_live.specs.Words.{IsLive, IsNoLive, as_run, usage_line}
use Rattle.cl_live.specs.declared.ends.How.{How}
use Rattle.cl_live.specs.declared.ends.How.TheVariants as how
use Rattle.cl_opening.specs.Opening.{opening_slots}
use Rattle.cl_load.specs.Types.{Bounds}
use Rattle.cl_load.specs.declared.refusals.LoadRefusal.{LoadRefusal}
use Rattle.cl_outside.specs.Causes.{Rose}
use Rattle.cl_program.specs.Commands.{RefusesText, SaysLine}
use Rattle.cl_program.specs.Hosts.{HostMeanings}
use Rattle.cl_program.specs.Run.{OfApplication, Opens, SaysCut, SaysWhole}
use Rattle.cl_program.specs.Surroundings.{Placed, Streams}
use Rattle.cl_program.specs.Texts.{IsTextOf}
use Rattle.cl_terminal.specs.Running.{IsGivenBack, Ran}
use Rattle.cl_terminal.specs.declared.running.RunEnd.{RunEnd}

-- ---- an application that was loaded

-- It was run in the terminal from its opening slots on, and the terminal was given back. The output tells its bytes at all times, or does not.
pub record RanOn (told : Bool) (g : Ground) (old new : Streams) (ended : RunEnd) : Type 0 where
  pub terminal : Terminal
  pub taken_is : terminal.taken ≡ new.taken
  pub faults_is : terminal.faults ≡ new.output_faults
  pub ran : Ran g (opening_slots g.app) old.left new.left old.gesture_faults new.gesture_faults (new_terminal told old.taken old.output_faults) terminal ended
  pub given_back : IsGivenBack terminal

-- ---- a text that was read

-- a run of it
abbrev pub RanText : (told : Bool) → HostMeanings → (text : List ℕ) → Limits → (old new : Streams) → How → Type 0
RanText told hosts text limits old new how.Usage = ⊥
RanText told hosts text limits old new how.UsageCut = ⊥
RanText told hosts text limits old new how.AppFault = ⊥
RanText told hosts text limits old new how.Refused = RefusesText hosts.bounds text (SaysWhole old new)
RanText told hosts text limits old new how.RefusalCut = RefusesText hosts.bounds text (SaysCut old new)
RanText told hosts text limits old new how.Memory = new ≡ old
RanText told hosts text limits old new (how.Ran ended) = OfApplication hosts text limits (λ g. RanOn told g old new ended)

-- the line of a refusal was written, or the output failed, or memory was wanting before it
abbrev pub Tells : LoadRefusal → (old new : Streams) → How → Type 0
Tells r old new how.Usage = ⊥
Tells r old new how.UsageCut = ⊥
Tells r old new how.AppFault = ⊥
Tells r old new how.Refused = SaysLine r (SaysWhole old new)
Tells r old new how.RefusalCut = SaysLine r (SaysCut old new)
Tells r old new how.Memory = new ≡ old
Tells r old new (how.Ran ended) = ⊥

-- ---- the words

-- the usage line was written, or the output failed in it
abbrev pub SaysUsage : (old new : Streams) → How → Type 0
SaysUsage old new how.Usage = SaysWhole old new usage_line
SaysUsage old new how.UsageCut = SaysCut old new usage_line
SaysUsage old new how.AppFault = ⊥
SaysUsage old new how.Refused = ⊥
SaysUsage old new how.RefusalCut = ⊥
SaysUsage old new how.Memory = ⊥
SaysUsage old new (how.Ran ended) = ⊥

-- the words ask for a file, with which the place failed
pub record FaultRose (words : List (List ℕ)) (old new : Placed) : Type 0 where
  pub name : List ℕ
  pub budget : Option ℕ
  pub asked : IsLive words name budget
  pub rose : Rose (old.app_faults name) (new.app_faults name)

-- the words ask for a file of a text that does not load, and the line of its reason was said so
pub record Refuses (bounds : Bounds) (words : List (List ℕ)) (place : Placed) (said : List ℕ → Type 0) : Type 0 where
  pub name : List ℕ
  pub budget : Option ℕ
  pub asked : IsLive words name budget
  pub text : List ℕ
  pub of_file : IsTextOf (place.file name) text
  pub refuses : RefusesText bounds text said

-- the words ask for an application, which was run in the terminal
pub record Runs (told : Bool) (hosts : HostMeanings) (words : List (List ℕ)) (place : Placed) (old new : Streams) (ended : RunEnd) : Type 0 where
  pub g : Ground
  pub opened : Opens hosts (as_run words) place None g
  pub ran : RanOn told g old new ended

-- a run of these words, with these host types
abbrev pub Went : (told : Bool) → HostMeanings → (words : List (List ℕ)) → (place_old place_new : Placed) → (old new : Streams) → How → Type 0
Went told hosts words place_old place_new old new how.Usage = IsNoLive words × SaysWhole old new usage_line
Went told hosts words place_old place_new old new how.UsageCut = IsNoLive words × SaysCut old new usage_line
Went told hosts words place_old place_new old new how.AppFault = FaultRose words place_old place_new × (new ≡ old)
Went told hosts words place_old place_new old new how.Refused = Refuses hosts.bounds words place_old (SaysWhole old new)
Went told hosts words place_old place_new old new how.RefusalCut = Refuses hosts.bounds words place_old (SaysCut old new)
Went told hosts words place_old place_new old new how.Memory = new ≡ old
Went told hosts words place_old place_new old new (how.Ran ended) = Runs told hosts words place_old old new ended
