-- What a run of the program comes to.
use Rattle.std.specs.Prelude.{◌≡◌, ◌<◌, ◌≤◌, ◌⊎◌, ◌+◌, ℕ, Bool, not, List, [], ◌∷◌, ◌++◌, length, Option, Some, None, true, false, unwrap_or}
use Rattle.std.specs.Io.KnownBytes.{Appends, Consumes, IsAtEnd}
use Rattle.cl_outside.specs.Causes.{Rose}
use Rattle.cl_outside.specs.Operations.{ops_bytes}
use Rattle.cl_application.specs.declared.applications.App.{App}
use Rattle.cl_eval.specs.declared.metering.Limits.{Limits}
use Rattle.cl_eval.specs.declared.metering.TheConstants.{MAX_DEPTH}
use Rattle.cl_frame.specs.Ground.{Ground, ground}
use Rattle.cl_frame.specs.Sending.{SendsOn, ShowsPanes, Wire, frame_ops}
use Rattle.cl_gesture.specs.Lines.{Piece, pieces, ended, held_from}
use Rattle.cl_gesture.specs.Next.{most_lines}
use Rattle.cl_gen.specs.Workload.{application_text, gestures_text}
use Rattle.cl_load.specs.Application.{IsApplication, IsReason}
use Rattle.cl_opening.specs.Opening.{opening_slots}
use Rattle.cl_load.specs.Reason.{Reason}
use Rattle.cl_load.specs.Types.{Bounds, types_in}
use Rattle.cl_outside.specs.Writing.{Says}
use Rattle.cl_session.specs.Session.{Fits, cost_of_panes, world_of}
use Rattle.cl_session.specs.Totals.{no_totals}
use Rattle.cl_session.specs.Transcript.{IsTranscript, Meters, RoseIf, meters}
use Rattle.cl_session.specs.World.{World, opening}
use Rattle.cl_session.specs.declared.totals.Totals.{Totals}
use Rattle.cl_session.specs.declared.serving.End.{End}
use Rattle.cl_session.specs.declared.serving.End.TheVariants as end
use Rattle.cl_ptext.specs.Subtyping.{hierarchy_in}
use Rattle.cl_program.specs.Command.{IsBench, IsCheck, IsNoCommand, IsRun, Names, bench_line, loads_line, reason_line, usage_line}
use Rattle.cl_program.specs.Hosts.{HostMeanings, meanings_in, reads_in}
use Rattle.cl_program.specs.Surroundings.{Placed, Streams, UsesDevice, no_device}
use Rattle.cl_program.specs.Texts.{IsTextOf}
use Rattle.cl_program.specs.declared.running.Opening.{Opening}
use Rattle.cl_program.specs.declared.running.How.{How}
use Rattle.cl_program.specs.declared.running.How.TheVariants as how

-- the limits of a display and of a command
abbrev pub limits_of : (budget : Option ℕ) → Limits
limits_of budget = record { budget = unwrap_or budget 1000000; depth = MAX_DEPTH }

-- ---- the opening

-- the world at the opening of an application
abbrev pub opening_world : Ground → (failed : Bool) → World
opening_world g failed = opening g (opening_slots g.app) failed

-- what the displays of all panes cost at the opening
abbrev pub opening_cost : Ground → ℕ
opening_cost g = cost_of_panes g (opening_slots g.app)

-- The opening sends the whole screen to a device. Where all was sent, playback of the wire is what the panes show; else the device failed
-- behind the first bytes.
pub record OpensOn (g : Ground) (failed : Bool) (old new : Wire) : Type 0 where
  pub rose : RoseIf failed old.faults new.faults
  pub sent : SendsOn (not failed) old new (ops_bytes (frame_ops g.app (opening_world g failed).panes))
  pub shows : failed ≡ false → ShowsPanes g.app (opening_world g failed).panes new
  pub told : new.told ≡ old.told

-- These bytes are a transcript of the pieces up to a world, from the opening of the application on: the ledger rose by what the opening costs
-- and then by what the commands of the transcript cost and what is drawn anew of its displays, the device was sent the opening and then
-- what each gesture sends, and what was told of the panes is counted from nothing.
pub record IsTranscriptTo (g : Ground) (to : World) (ps : List Piece) (bytes : List ℕ) (spent : ℕ) (device : Wire) (last : Meters) : Type 0 where
  pub failed : Bool
  pub opened : Wire
  pub opens : OpensOn g failed device opened
  pub transcript : IsTranscript g (opening_world g failed) to 0 ps bytes (meters (spent + opening_cost g) opened no_totals) last

-- the same, to any world
pub record IsTranscriptOf (g : Ground) (ps : List Piece) (bytes : List ℕ) (spent_old spent_new : ℕ) (device_old device_new : Wire) (totals : Totals) : Type 0 where
  pub to : World
  pub transcript : IsTranscriptTo g to ps bytes spent_old device_old (meters spent_new device_new totals)

-- ---- the application

-- an application with its types on these host types, within limits
abbrev pub ground_in : HostMeanings → App → Limits → Ground
ground_in hosts app limits =
    ground app (meanings_in hosts.names (types_in hosts.bounds app) app) (reads_in hosts.names (types_in hosts.bounds app) app)
    (hierarchy_in (types_in hosts.bounds app)) limits

-- the words run an application of this text, which declares it on these host types; this ground is it with its types
pub record Opens (hosts : HostMeanings) (words : List (List ℕ)) (place : Placed) (wire : Option (List ℕ)) (g : Ground) : Type 0 where
  pub name : List ℕ
  pub budget : Option ℕ
  pub command : IsRun words name wire budget
  pub text : List ℕ
  pub of_file : IsTextOf (place.file name) text
  pub declared : IsApplication hosts.bounds text g.app
  pub stands : g ≡ ground_in hosts g.app (limits_of budget)

-- the words name a file of this text
pub record NamesText (words : List (List ℕ)) (place : Placed) (text : List ℕ) : Type 0 where
  pub name : List ℕ
  pub command : Names words name
  pub of_file : IsTextOf (place.file name) text

-- the words run the bench whose application has this text
pub record MakesText (words : List (List ℕ)) (text : List ℕ) : Type 0 where
  pub items : ℕ
  pub command : IsBench words items
  pub made : text ≡ application_text items

-- the text that the words name, or that of their bench, does not load for this reason
pub record IsRefused (bounds : Bounds) (words : List (List ℕ)) (place : Placed) (reason : Reason) : Type 0 where
  pub text : List ℕ
  pub given : NamesText words place text ⊎ MakesText words text
  pub refusal : IsReason bounds text reason

-- the words check a file, and its text declares an application
pub record IsLoaded (bounds : Bounds) (words : List (List ℕ)) (place : Placed) : Type 0 where
  pub name : List ℕ
  pub command : IsCheck words name
  pub text : List ℕ
  pub of_file : IsTextOf (place.file name) text
  pub app : App
  pub declared : IsApplication bounds text app

-- the words name a file, with which the place failed
pub record AppFaultRose (words : List (List ℕ)) (old new : Placed) : Type 0 where
  pub name : List ℕ
  pub command : Names words name
  pub rose : Rose (old.app_faults name) (new.app_faults name)

-- ---- how the gestures went

-- all gestures were read up to the source's end, at most a million lines, and the output took their transcript
pub record ReadToEnd (g : Ground) (old new : Streams) (device_old device_new : Wire) (totals : Totals) : Type 0 where
  pub read : List ℕ
  pub consumed : Consumes old.left new.left read
  pub at_end : IsAtEnd new.left
  pub few : length (pieces read) ≤ most_lines
  pub written : List ℕ
  pub appended : Appends old.taken new.taken written
  pub transcript : IsTranscriptOf g (pieces read) written old.spent new.spent device_old device_new totals

-- the source failed: the output took the transcript of the pieces that had ended in what was read, at most a million
pub record ReadToFault (g : Ground) (old new : Streams) (device_old device_new : Wire) (totals : Totals) : Type 0 where
  pub read : List ℕ
  pub consumed : Consumes old.left new.left read
  pub few : length (ended read) ≤ most_lines
  pub rose : Rose old.gesture_faults new.gesture_faults
  pub written : List ℕ
  pub appended : Appends old.taken new.taken written
  pub transcript : IsTranscriptOf g (ended read) written old.spent new.spent device_old device_new totals

-- a million lines were read, and then a further byte; the output took the transcript of these lines
pub record ReadToLimit (g : Ground) (old new : Streams) (device_old device_new : Wire) (totals : Totals) : Type 0 where
  pub read : List ℕ
  pub further : List ℕ
  pub consumed : Consumes old.left new.left (read ++ further)
  pub whole : held_from [] read ≡ []
  pub lines : length (ended read) ≡ most_lines
  pub more : 0 < length further
  pub written : List ℕ
  pub appended : Appends old.taken new.taken written
  pub transcript : IsTranscriptOf g (ended read) written old.spent new.spent device_old device_new totals

-- these are the first pieces of a stream of bytes that were read: those that ended in some of its first bytes, or all of them,
-- where the source's end came
abbrev pub AreFirst : Option (List ℕ) → List ℕ → List ℕ → List Piece → Type 0
AreFirst left read further ps = ((ps ≡ ended read) × (held_from [] read ≡ [])) ⊎ ((ps ≡ pieces read) × (further ≡ []) × IsAtEnd left)

-- The output failed in the answer to the last of the first pieces that were read: it took the transcript of those before it, and the
-- first bytes of this answer.
pub record WrittenToFault (g : Ground) (old new : Streams) (device_old device_new : Wire) (totals : Totals) : Type 0 where
  pub read : List ℕ
  pub further : List ℕ
  pub consumed : Consumes old.left new.left (read ++ further)
  pub earlier : List Piece
  pub last : Piece
  pub first : AreFirst new.left read further (earlier ++ last ∷ [])
  pub few : length (earlier ++ last ∷ []) ≤ most_lines
  pub rose : Rose old.output_faults new.output_faults
  pub between : World
  pub stood : Meters
  pub whole : List ℕ
  pub transcript : IsTranscriptTo g between earlier whole old.spent device_old stood
  pub to : World
  pub begun : List ℕ
  pub lost : List ℕ
  pub some : 0 < length lost
  pub answer : IsTranscript g between to (length earlier) (last ∷ []) (begun ++ lost) stood (meters new.spent device_new totals)
  pub appended : Appends old.taken new.taken (whole ++ begun)

-- the gestures ended so, with these sums over what was told of the panes
abbrev pub EndsAs : Ground → (old new : Streams) → (device_old device_new : Wire) → Totals → End → Type 0
EndsAs g old new device_old device_new totals end.Done = ReadToEnd g old new device_old device_new totals
EndsAs g old new device_old device_new totals end.ReadFault = ReadToFault g old new device_old device_new totals
EndsAs g old new device_old device_new totals end.TooMany = ReadToLimit g old new device_old device_new totals
EndsAs g old new device_old device_new totals end.OutputFault = WrittenToFault g old new device_old device_new totals

-- an application was opened, and its gestures went so
pub record Serves (hosts : HostMeanings) (words : List (List ℕ)) (place_old place_new : Placed) (old new : Streams) (how : End) : Type 0 where
  pub g : Ground
  pub wire : Option (List ℕ)
  pub opened : Opens hosts words place_old wire g
  pub device_old : Wire
  pub device_new : Wire
  pub uses : UsesDevice wire place_old place_new device_old device_new
  pub totals : Totals
  pub went : EndsAs g old new device_old device_new totals how

-- ---- how a run ended

-- no gesture was read, and nothing was spent
abbrev pub IsUnread : Streams → Streams → Type 0
IsUnread old new = (new.left ≡ old.left) × (new.gesture_faults ≡ old.gesture_faults) × (new.spent ≡ old.spent)

-- want of memory before the first gesture of an application: nothing was read or written, and the ledger rose by no more than the
-- opening costs
pub record RanOut (g : Ground) (old new : Streams) : Type 0 where
  pub same : new ≡ record old { spent = new.spent }
  pub later : old.spent ≤ new.spent
  pub at_most : new.spent ≤ old.spent + opening_cost g

-- the same, of the application that the words open
pub record RanOutServing (hosts : HostMeanings) (words : List (List ℕ)) (place : Placed) (old new : Streams) : Type 0 where
  pub g : Ground
  pub wire : Option (List ℕ)
  pub opened : Opens hosts words place wire g
  pub ran_out : RanOut g old new

-- the line was written whole; or the output failed behind its first bytes
abbrev pub SaysWhole : Streams → Streams → List ℕ → Type 0
SaysWhole old new line = IsUnread old new × Says true old.taken new.taken line old.output_faults new.output_faults

-- the output failed behind the first bytes of the line
abbrev pub SaysCut : Streams → Streams → List ℕ → Type 0
SaysCut old new line = IsUnread old new × Says false old.taken new.taken line old.output_faults new.output_faults

-- the text of the application is refused, and the line of its refusal was written whole
pub record Refuses (bounds : Bounds) (words : List (List ℕ)) (place : Placed) (old new : Streams) : Type 0 where
  pub reason : Reason
  pub refused : IsRefused bounds words place reason
  pub said : SaysWhole old new (reason_line reason)

-- the text of the application is refused, and the output failed in the line of its refusal
pub record RefusesCut (bounds : Bounds) (words : List (List ℕ)) (place : Placed) (old new : Streams) : Type 0 where
  pub reason : Reason
  pub refused : IsRefused bounds words place reason
  pub said : SaysCut old new (reason_line reason)

-- the wire that the words name could not be made: the application loads, and nothing was read or written
pub record MakesNoWire (hosts : HostMeanings) (words : List (List ℕ)) (old_place new_place : Placed) (old new : Streams) : Type 0 where
  pub g : Ground
  pub wire : List ℕ
  pub opened : Opens hosts words old_place (Some wire) g
  pub rose : Rose old_place.making_faults new_place.making_faults
  pub same : new ≡ old

-- ---- a bench

-- a text declares an application, of which this holds on its ground
abbrev pub OfApplication : HostMeanings → (text : List ℕ) → (limits : Limits) → (Ground → Type 0) → Type 0
OfApplication hosts text limits P = (app : App) × IsApplication hosts.bounds text app × P (ground_in hosts app limits)

-- the words run a bench, of whose items and application this holds
abbrev pub OfBench : HostMeanings → (words : List (List ℕ)) → (ℕ → Ground → Type 0) → Type 0
OfBench hosts words P = (items : ℕ) × IsBench words items × OfApplication hosts (application_text items) (limits_of None) (P items)

-- These gestures were all served on a screen at which nobody looks, while the ledger rose so: these are the sums over what was told of the panes.
pub record IsMeasured (g : Ground) (gestures : List ℕ) (spent_old spent_new : ℕ) (totals : Totals) : Type 0 where
  pub written : List ℕ
  pub transcript : IsTranscriptOf g (pieces gestures) written spent_old spent_new no_device no_device totals

-- the gestures of the bench were served with enough memory, and the line of the sums was said: whole or not
pub record Benches (whole : Bool) (old new : Streams) (items : ℕ) (g : Ground) : Type 0 where
  pub totals : Totals
  pub measured : IsMeasured g (gestures_text items) old.spent new.spent totals
  pub complete : totals.memory ≡ 0
  pub left : new.left ≡ old.left
  pub faults : new.gesture_faults ≡ old.gesture_faults
  pub said : Says whole old.taken new.taken (bench_line items totals) old.output_faults new.output_faults

-- the gestures of the bench were served, and want of memory was told of some
pub record BenchesShort (old new : Streams) (items : ℕ) (g : Ground) : Type 0 where
  pub same : new ≡ record old { spent = new.spent }
  pub totals : Totals
  pub measured : IsMeasured g (gestures_text items) old.spent new.spent totals
  pub short : 0 < totals.memory

-- want of memory in the opening of the bench, or in its gestures
abbrev pub RanOutBenching : (old new : Streams) → ℕ → Ground → Type 0
RanOutBenching old new items g = RanOut g old new ⊎ BenchesShort old new items g

-- want of memory before the first gesture: the ledger stays, or the opening of an application met it; or in a bench
abbrev pub RanOutOfMemory : HostMeanings → List (List ℕ) → Placed → Streams → Streams → Type 0
RanOutOfMemory hosts words place old new =
    (new ≡ old) ⊎ RanOutServing hosts words place old new ⊎ OfBench hosts words (RanOutBenching old new)

-- a run of these words, with these host types
abbrev pub Ran : HostMeanings → List (List ℕ) → (place_old place_new : Placed) → (old new : Streams) → How → Type 0
Ran hosts words place_old place_new old new how.Usage = IsNoCommand words × SaysWhole old new usage_line
Ran hosts words place_old place_new old new how.UsageCut = IsNoCommand words × SaysCut old new usage_line
Ran hosts words place_old place_new old new how.AppFault = AppFaultRose words place_old place_new × (new ≡ old)
Ran hosts words place_old place_new old new how.Refused = Refuses hosts.bounds words place_old old new
Ran hosts words place_old place_new old new how.RefusalCut = RefusesCut hosts.bounds words place_old old new
Ran hosts words place_old place_new old new how.Loads = IsLoaded hosts.bounds words place_old × SaysWhole old new loads_line
Ran hosts words place_old place_new old new how.LoadsCut = IsLoaded hosts.bounds words place_old × SaysCut old new loads_line
Ran hosts words place_old place_new old new how.WireFault = MakesNoWire hosts words place_old place_new old new
Ran hosts words place_old place_new old new how.Memory = RanOutOfMemory hosts words place_old old new
Ran hosts words place_old place_new old new how.Benched = OfBench hosts words (Benches true old new)
Ran hosts words place_old place_new old new how.BenchCut = OfBench hosts words (Benches false old new)
Ran hosts words place_old place_new old new (how.Ended end) = Serves hosts words place_old place_new old new end

-- a run of an application on a device
abbrev pub RanLoaded : Ground → (old new : Streams) → (device_old device_new : Wire) → How → Type 0
RanLoaded g old new device_old device_new how.Usage = ⊥
RanLoaded g old new device_old device_new how.UsageCut = ⊥
RanLoaded g old new device_old device_new how.AppFault = ⊥
RanLoaded g old new device_old device_new how.Refused = ⊥
RanLoaded g old new device_old device_new how.RefusalCut = ⊥
RanLoaded g old new device_old device_new how.Loads = ⊥
RanLoaded g old new device_old device_new how.LoadsCut = ⊥
RanLoaded g old new device_old device_new how.WireFault = ⊥
RanLoaded g old new device_old device_new how.Memory = RanOut g old new
RanLoaded g old new device_old device_new how.Benched = ⊥
RanLoaded g old new device_old device_new how.BenchCut = ⊥
RanLoaded g old new device_old device_new (how.Ended end) = (totals : Totals) × EndsAs g old new device_old device_new totals end

-- ---- a frame that was just opened

-- it is the opening of an application, of which nothing was told, and its device is broken where the screen is stale
pub record IsOpening (g : Ground) (o : Opening) (broken : Bool) : Type 0 where
  pub world : world_of o.session o.slots ≡ opening_world g o.session.frame.screen.stale
  pub totals : o.session.totals ≡ no_totals
  pub fits : Fits g o.slots o.session
  pub breaks : o.session.frame.screen.stale ≡ true → broken ≡ true
