-- A run of words, by the run of the text that they ask for.
use Rattle.std.proofs.Common.{refl, ◌≡◌, ℕ, Bool, List, Option, None}
use Rattle.std.specs.Prelude.{Err}
use Rattle.cl_application.specs.declared.applications.App.{App}
use Rattle.cl_eval.specs.declared.metering.Limits.{Limits}
use Rattle.cl_frame.specs.Ground.{ground}
use Rattle.cl_lattice.specs.World.{World}
use Rattle.cl_live.specs.Runs.{RanOn, RanText, SaysUsage, Tells, Went}
use Rattle.cl_live.specs.Words.{IsLive, IsNoLive, as_run}
use Rattle.cl_live.specs.declared.ends.How.{How}
use Rattle.cl_live.specs.declared.ends.How.TheVariants as how
use Rattle.cl_load.specs.Application.{IsApplication}
use Rattle.cl_load.specs.Loads.{Loads}
use Rattle.cl_load.specs.Types.{types_in}
use Rattle.cl_load.specs.declared.refusals.LoadRefusal.{LoadRefusal}
use Rattle.cl_program.proofs.CommandLemmas.{refuses, stands}
use Rattle.cl_program.specs.Hosts.{HostMeanings, meanings_in, reads_in}
use Rattle.cl_program.specs.Run.{Opens, SaysCut, SaysWhole, ground_in, limits_of}
use Rattle.cl_program.specs.Surroundings.{Placed, Streams}
use Rattle.cl_program.specs.Texts.{IsTextOf}
use Rattle.cl_ptext.specs.Subtyping.{hierarchy_in}
use Rattle.cl_terminal.specs.declared.running.RunEnd.{RunEnd}

-- an application that was loaded, with its types
pub RanText-ran : (told : Bool) (hosts : HostMeanings) (text : List ℕ) (limits : Limits) (app : App) (types : World) (s t : Streams) (ended : RunEnd)
    → IsApplication hosts.bounds text app → types ≡ types_in hosts.bounds app
    → RanOn told (ground app (meanings_in hosts.names types app) (reads_in hosts.names types app) (hierarchy_in types) limits) s t ended
    → RanText told hosts text limits s t (how.Ran ended)
RanText-ran told hosts text limits app types s t ended is same r = (app, is, rw same at r)

-- a text that does not load
pub RanText-refused : (told : Bool) (hosts : HostMeanings) (text : List ℕ) (limits : Limits) (r : LoadRefusal) (s t : Streams) (h : How)
    → Loads hosts.bounds text (Err r) → Tells r s t h → RanText told hosts text limits s t h
RanText-refused told hosts text limits r s t how.Usage is said = absurd said
RanText-refused told hosts text limits r s t how.UsageCut is said = absurd said
RanText-refused told hosts text limits r s t how.AppFault is said = absurd said
RanText-refused told hosts text limits r s t how.Refused is said = refuses hosts.bounds text r (SaysWhole s t) (stands hosts.bounds text r is) said
RanText-refused told hosts text limits r s t how.RefusalCut is said = refuses hosts.bounds text r (SaysCut s t) (stands hosts.bounds text r is) said
RanText-refused told hosts text limits r s t how.Memory is said = said
RanText-refused told hosts text limits r s t (how.Ran ended) is said = absurd said

module _ (told : Bool) (hosts : HostMeanings) (words : List (List ℕ)) (name : List ℕ) (budget : Option ℕ) (asked : IsLive words name budget) where
  opens : (place : Placed) (text : List ℕ) (app : App) → IsTextOf (place.file name) text → IsApplication hosts.bounds text app
      → Opens hosts (as_run words) place None (ground_in hosts app (limits_of budget))
  opens place text app of is =
      record { name = name; budget = budget; command = asked; text = text; of_file = of; declared = is; stands = refl }

  -- the file that the words ask for has this text
  pub Went-text : (old new : Placed) (s t : Streams) (text : List ℕ) (h : How) → IsTextOf (old.file name) text
      → RanText told hosts text (limits_of budget) s t h → Went told hosts words old new s t h
  Went-text old new s t text how.Usage of r = absurd r
  Went-text old new s t text how.UsageCut of r = absurd r
  Went-text old new s t text how.AppFault of r = absurd r
  Went-text old new s t text how.Refused of r =
      record { name = name; budget = budget; asked = asked; text = text; of_file = of; refuses = r }
  Went-text old new s t text how.RefusalCut of r =
      record { name = name; budget = budget; asked = asked; text = text; of_file = of; refuses = r }
  Went-text old new s t text how.Memory of r = r
  Went-text old new s t text (how.Ran ended) of r =
      record { g = ground_in hosts r.0 (limits_of budget); opened = opens old text r.0 of r.1; ran = r.2 }

-- the words ask for none
pub Went-usage : (told : Bool) (hosts : HostMeanings) (words : List (List ℕ)) (place : Placed) (s t : Streams) (h : How) → IsNoLive words → SaysUsage s t h
    → Went told hosts words place place s t h
Went-usage told hosts words place s t how.Usage none said = (none, said)
Went-usage told hosts words place s t how.UsageCut none said = (none, said)
Went-usage told hosts words place s t how.AppFault none said = absurd said
Went-usage told hosts words place s t how.Refused none said = absurd said
Went-usage told hosts words place s t how.RefusalCut none said = absurd said
Went-usage told hosts words place s t how.Memory none said = absurd said
Went-usage told hosts words place s t (how.Ran ended) none said = absurd said
