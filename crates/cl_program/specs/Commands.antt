-- What the parts of a run come to: of a text that was read, and of an application that was loaded.
use Rattle.std.specs.Prelude.{◌≡◌, ◌≢◌, ◌≤◌, ◌<◌, ◌+◌, ◌⊎◌, ℕ, Bool, true, false, List, Option, None, Some, Result, Ok, Err}
use Rattle.cl_application.specs.declared.applications.App.{App}
use Rattle.cl_eval.specs.declared.metering.Limits.{Limits}
use Rattle.cl_frame.specs.Ground.{Ground}
use Rattle.cl_frame.specs.Sending.{Wire}
use Rattle.cl_cover.specs.PathText.{path_text}
use Rattle.cl_gen.specs.Workload.{application_text}
use Rattle.cl_load.specs.Application.{IsApplication, IsReason}
use Rattle.cl_load.specs.Reason.{Reason, refused, uncovered}
use Rattle.cl_load.specs.Types.{Bounds}
use Rattle.cl_load.specs.declared.refusals.LoadRefusal.{LoadRefusal}
use Rattle.cl_load.specs.declared.refusals.LoadRefusal.TheVariants as refusal
use Rattle.cl_outside.specs.Causes.{Rose}
use Rattle.cl_outside.specs.Writing.{Says}
use Rattle.cl_invocation.specs.Words.{Invocation, run, check, bench}
use Rattle.cl_session.specs.declared.serving.End.{End}
use Rattle.cl_session.specs.declared.totals.Totals.{Totals}
use Rattle.cl_program.specs.Command.{bench_line, loads_line, reason_line, refusal_line, uncovered_line}
use Rattle.cl_program.specs.Hosts.{HostMeanings}
use Rattle.cl_program.specs.Run.{Benches, EndsAs, IsMeasured, OfApplication, RanOut, RanOutBenching, SaysCut, SaysWhole, limits_of, opening_cost}
use Rattle.cl_program.specs.Surroundings.{Placed, Streams, UsesDevice}
use Rattle.cl_program.specs.declared.running.How.{How}
use Rattle.cl_program.specs.declared.running.How.TheVariants as how

-- ---- what stays of a place

-- All but the file of a wire and its counts, where there is one, and the faults of the application's name: each file that is told, and every
-- one where there is no wire; where each name has a count of its own, those of other names.
pub record KeepsFiles (application : List ℕ) (wire : Option (List ℕ)) (by_name : Bool) (old new : Placed) : Type 0 where
  pub told_files : (name : List ℕ) (file : Option (List ℕ)) → wire ≢ Some name → old.file name ≡ Some file → new.file name ≡ Some file
  pub files : wire ≡ None → (name : List ℕ) → new.file name ≡ old.file name
  pub making : wire ≡ None → new.making_faults ≡ old.making_faults
  pub making_later : old.making_faults ≤ new.making_faults
  pub sink : wire ≡ None → new.sink ≡ old.sink
  pub sink_later : old.sink.faults ≤ new.sink.faults
  pub told : new.sink.told ≡ old.sink.told
  pub faults_later : (name : List ℕ) → old.app_faults name ≤ new.app_faults name
  pub other_faults : by_name ≡ true → (name : List ℕ) → name ≢ application → new.app_faults name ≡ old.app_faults name

-- what stays of it in a run of these words; all, where they are no command or a bench
abbrev pub KeptBy : Option Invocation → (by_name : Bool) → (old new : Placed) → Type 0
KeptBy None by_name old new = new ≡ old
KeptBy (Some (run application wire budget)) by_name old new = KeepsFiles application wire by_name old new
KeptBy (Some (check application)) by_name old new = KeepsFiles application None by_name old new
KeptBy (Some (bench items)) by_name old new = new ≡ old

-- no sink was made: each file, the count of making and the sink that was made last are as they were
pub record MakesNone (old new : Placed) : Type 0 where
  pub files : (name : List ℕ) → new.file name ≡ old.file name
  pub making : new.making_faults ≡ old.making_faults
  pub sink : new.sink ≡ old.sink

-- no sink is made where the application cannot be read, or its text is refused
abbrev pub MakesNoneAt : How → (old new : Placed) → Type 0
MakesNoneAt how.Usage old new = Unit {0}
MakesNoneAt how.UsageCut old new = Unit {0}
MakesNoneAt how.AppFault old new = MakesNone old new
MakesNoneAt how.Refused old new = MakesNone old new
MakesNoneAt how.RefusalCut old new = MakesNone old new
MakesNoneAt how.Loads old new = Unit {0}
MakesNoneAt how.LoadsCut old new = Unit {0}
MakesNoneAt how.WireFault old new = Unit {0}
MakesNoneAt how.Memory old new = Unit {0}
MakesNoneAt how.Benched old new = Unit {0}
MakesNoneAt how.BenchCut old new = Unit {0}
MakesNoneAt (how.Ended end) old new = Unit {0}

-- ---- an application that was loaded

-- the gestures were served on the device of the run
pub record Went (wire : Option (List ℕ)) (g : Ground) (place_old place_new : Placed) (old new : Streams) (how : End) : Type 0 where
  pub device_old : Wire
  pub device_new : Wire
  pub uses : UsesDevice wire place_old place_new device_old device_new
  pub totals : Totals
  pub went : EndsAs g old new device_old device_new totals how

-- the command `run` went so on an application that was loaded
abbrev pub RanOn : (wire : Option (List ℕ)) → Ground → (place_old place_new : Placed) → (old new : Streams) → How → Type 0
RanOn wire g place_old place_new old new how.Usage = ⊥
RanOn wire g place_old place_new old new how.UsageCut = ⊥
RanOn wire g place_old place_new old new how.AppFault = ⊥
RanOn wire g place_old place_new old new how.Refused = ⊥
RanOn wire g place_old place_new old new how.RefusalCut = ⊥
RanOn wire g place_old place_new old new how.Loads = ⊥
RanOn wire g place_old place_new old new how.LoadsCut = ⊥
RanOn wire g place_old place_new old new how.WireFault =
    (name : List ℕ) × (wire ≡ Some name) × Rose place_old.making_faults place_new.making_faults × (new ≡ old)
RanOn wire g place_old place_new old new how.Memory = (new ≡ old) ⊎ RanOut g old new
RanOn wire g place_old place_new old new how.Benched = ⊥
RanOn wire g place_old place_new old new how.BenchCut = ⊥
RanOn wire g place_old place_new old new (how.Ended end) = Went wire g place_old place_new old new end

-- ---- a text that was read, with these host types

-- it does not load for this reason, whose line was said so
abbrev pub RefusesText : Bounds → (text : List ℕ) → (said : List ℕ → Type 0) → Type 0
RefusesText bounds text said = (reason : Reason) × IsReason bounds text reason × said (reason_line reason)

-- a run of a text
abbrev pub RanText : HostMeanings → (text : List ℕ) → (wire : Option (List ℕ)) → Limits → (place_old place_new : Placed) → (old new : Streams) → How → Type 0
RanText hosts text wire limits place_old place_new old new how.Usage = ⊥
RanText hosts text wire limits place_old place_new old new how.UsageCut = ⊥
RanText hosts text wire limits place_old place_new old new how.AppFault = ⊥
RanText hosts text wire limits place_old place_new old new how.Refused = RefusesText hosts.bounds text (SaysWhole old new)
RanText hosts text wire limits place_old place_new old new how.RefusalCut = RefusesText hosts.bounds text (SaysCut old new)
RanText hosts text wire limits place_old place_new old new how.Loads = ⊥
RanText hosts text wire limits place_old place_new old new how.LoadsCut = ⊥
RanText hosts text wire limits place_old place_new old new how.WireFault = OfApplication hosts text limits (λ g. RanOn wire g place_old place_new old new how.WireFault)
RanText hosts text wire limits place_old place_new old new how.Memory = (new ≡ old) ⊎ OfApplication hosts text limits (λ g. RanOut g old new)
RanText hosts text wire limits place_old place_new old new how.Benched = ⊥
RanText hosts text wire limits place_old place_new old new how.BenchCut = ⊥
RanText hosts text wire limits place_old place_new old new (how.Ended end) = OfApplication hosts text limits (λ g. Went wire g place_old place_new old new end)

-- a refusal of a text; want of memory is none
abbrev pub Stands : Bounds → (text : List ℕ) → LoadRefusal → Type 0
Stands bounds text (refusal.Refused number at) = IsReason bounds text (refused number at)
Stands bounds text (refusal.Uncovered form path) = IsReason bounds text (uncovered (record { form = form; path = path }))
Stands bounds text refusal.Memory = Unit {0}

-- a text that loads, or does not for a reason; nothing is said where memory was wanting
abbrev pub Judges : Bounds → (text : List ℕ) → Option LoadRefusal → Type 0
Judges bounds text None = (app : App) × IsApplication bounds text app
Judges bounds text (Some r) = Stands bounds text r

-- ---- the line of a refusal

-- it was said so; want of memory has none
abbrev pub SaysLine : LoadRefusal → (said : List ℕ → Type 0) → Type 0
SaysLine (refusal.Refused number at) said = said (refusal_line number at)
SaysLine (refusal.Uncovered form path) said = said (uncovered_line form (path_text path))
SaysLine refusal.Memory said = ⊥

-- it was written, or the output failed, or memory was wanting before it
abbrev pub Tells : LoadRefusal → (old new : Streams) → How → Type 0
Tells r old new how.Usage = ⊥
Tells r old new how.UsageCut = ⊥
Tells r old new how.AppFault = ⊥
Tells r old new how.Refused = SaysLine r (SaysWhole old new)
Tells r old new how.RefusalCut = SaysLine r (SaysCut old new)
Tells r old new how.Loads = ⊥
Tells r old new how.LoadsCut = ⊥
Tells r old new how.WireFault = ⊥
Tells r old new how.Memory = new ≡ old
Tells r old new how.Benched = ⊥
Tells r old new how.BenchCut = ⊥
Tells r old new (how.Ended end) = ⊥

-- a check of a text
abbrev pub Checked : Bounds → (text : List ℕ) → (old new : Streams) → How → Type 0
Checked bounds text old new how.Usage = ⊥
Checked bounds text old new how.UsageCut = ⊥
Checked bounds text old new how.AppFault = ⊥
Checked bounds text old new how.Refused = RefusesText bounds text (SaysWhole old new)
Checked bounds text old new how.RefusalCut = RefusesText bounds text (SaysCut old new)
Checked bounds text old new how.Loads = (app : App) × IsApplication bounds text app × SaysWhole old new loads_line
Checked bounds text old new how.LoadsCut = (app : App) × IsApplication bounds text app × SaysCut old new loads_line
Checked bounds text old new how.WireFault = ⊥
Checked bounds text old new how.Memory = new ≡ old
Checked bounds text old new how.Benched = ⊥
Checked bounds text old new how.BenchCut = ⊥
Checked bounds text old new (how.Ended end) = ⊥

-- ---- a bench

-- the sums; or want of memory in the opening, which cost no more than it does
abbrev pub Measures : {E : Type 0} → Ground → (gestures : List ℕ) → (spent_old spent_new : ℕ) → Result Totals E → Type 0
Measures g gestures spent_old spent_new (Ok totals) = IsMeasured g gestures spent_old spent_new totals
Measures g gestures spent_old spent_new (Err e) = spent_new ≤ spent_old + opening_cost g

-- the line of these sums was said, or want of memory was told of some gesture
abbrev pub TellsTotals : (items : ℕ) → Totals → (taken_old taken_new : Option (List ℕ)) → (faults_old faults_new : ℕ) → How → Type 0
TellsTotals items t taken_old taken_new faults_old faults_new how.Usage = ⊥
TellsTotals items t taken_old taken_new faults_old faults_new how.UsageCut = ⊥
TellsTotals items t taken_old taken_new faults_old faults_new how.AppFault = ⊥
TellsTotals items t taken_old taken_new faults_old faults_new how.Refused = ⊥
TellsTotals items t taken_old taken_new faults_old faults_new how.RefusalCut = ⊥
TellsTotals items t taken_old taken_new faults_old faults_new how.Loads = ⊥
TellsTotals items t taken_old taken_new faults_old faults_new how.LoadsCut = ⊥
TellsTotals items t taken_old taken_new faults_old faults_new how.WireFault = ⊥
TellsTotals items t taken_old taken_new faults_old faults_new how.Memory = (0 < t.memory) × (taken_new ≡ taken_old) × (faults_new ≡ faults_old)
TellsTotals items t taken_old taken_new faults_old faults_new how.Benched = (t.memory ≡ 0) × Says true taken_old taken_new (bench_line items t) faults_old faults_new
TellsTotals items t taken_old taken_new faults_old faults_new how.BenchCut = (t.memory ≡ 0) × Says false taken_old taken_new (bench_line items t) faults_old faults_new
TellsTotals items t taken_old taken_new faults_old faults_new (how.Ended end) = ⊥

-- a bench of so many items
abbrev pub RanBench : HostMeanings → (items : ℕ) → (old new : Streams) → How → Type 0
RanBench hosts items old new how.Usage = ⊥
RanBench hosts items old new how.UsageCut = ⊥
RanBench hosts items old new how.AppFault = ⊥
RanBench hosts items old new how.Refused = RefusesText hosts.bounds (application_text items) (SaysWhole old new)
RanBench hosts items old new how.RefusalCut = RefusesText hosts.bounds (application_text items) (SaysCut old new)
RanBench hosts items old new how.Loads = ⊥
RanBench hosts items old new how.LoadsCut = ⊥
RanBench hosts items old new how.WireFault = ⊥
RanBench hosts items old new how.Memory = (new ≡ old) ⊎ OfApplication hosts (application_text items) (limits_of None) (RanOutBenching old new items)
RanBench hosts items old new how.Benched = OfApplication hosts (application_text items) (limits_of None) (Benches true old new items)
RanBench hosts items old new how.BenchCut = OfApplication hosts (application_text items) (limits_of None) (Benches false old new items)
RanBench hosts items old new (how.Ended end) = ⊥
