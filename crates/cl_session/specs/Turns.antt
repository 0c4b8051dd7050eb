-- One turn of serving.
use Rattle.std.specs.Prelude.{◌≡◌, ◌<◌, ℕ, Bool, true, false, Option, Some, None}
use Rattle.cl_frame.specs.Ground.{Ground}
use Rattle.cl_gesture.specs.declared.answers.Stop.{Stop}
use Rattle.cl_gesture.specs.declared.answers.Stop.TheVariants as stop
use Rattle.cl_session.specs.declared.totals.Totals.{Totals}
use Rattle.cl_session.specs.declared.serving.End.{End}
use Rattle.cl_session.specs.declared.serving.End.TheVariants as end
use Rattle.cl_session.specs.Serving.{GoesOn, ServesTo, Stand}
use Rattle.cl_session.specs.Transcript.{Meters}
use Rattle.cl_session.specs.World.{World}

-- a turn that read a piece, or the end
abbrev pub Turns : Ground → (old new : Stand World Meters) → Option End → Type 0
Turns g old new None = GoesOn g old new × (old.progress.count < new.progress.count)
Turns g old new (Some how) = ServesTo g old new how

-- where the reader had stopped, its end comes again, and nothing changes
abbrev pub StaysAt : Stop → Option End → Type 0 → Type 0
StaysAt stop.Going answer same = Unit {0}
StaysAt stop.AtEnd answer same = (answer ≡ Some end.Done) × same
StaysAt stop.AtFault answer same = (answer ≡ Some end.ReadFault) × same
StaysAt stop.AtLimit answer same = (answer ≡ Some end.TooMany) × same

-- the reader, the sink, the device, the ledger, the sums and the world are as before
abbrev pub IsSame : {A B C D : Type 0} → (gestures_old gestures_new : A) → (out_old out_new : B) → (device_old device_new : C) → (spent_old spent_new : ℕ) → (totals_old totals_new : Totals)
    → (from to : D) → Type 0
IsSame gestures_old gestures_new out_old out_new device_old device_new spent_old spent_new totals_old totals_new from to =
    (gestures_new ≡ gestures_old) × (out_new ≡ out_old) × (device_new ≡ device_old) × (spent_new ≡ spent_old) × (totals_new ≡ totals_old)
    × (to ≡ from)

-- no end where this holds, and else that of a failed output
abbrev pub end_unless : Bool → Option End
end_unless true = None
end_unless false = Some end.OutputFault
