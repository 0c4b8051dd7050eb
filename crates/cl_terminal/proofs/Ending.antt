-- How a run in a terminal ends.
use Rattle.std.proofs.Common.{◌≡◌, ◌≤◌, ℕ, Bool, true, false, List, Option, arith, inr, subst}
use Rattle.cl_ansi.specs.Sequences.{leave_bytes}
use Rattle.cl_ansi.specs.Terminal.{Terminal, Writes}
use Rattle.cl_eval.specs.Slots.{Slots}
use Rattle.cl_frame.specs.Ground.{Ground}
use Rattle.cl_keys.specs.Decoding.{State, at_rest}
use Rattle.cl_outside.specs.Causes.{Rose}
use Rattle.cl_outside.specs.declared.answers.Sent.TheVariants.{Done}
use Rattle.cl_session.specs.Transcript.{RoseIf}
use Rattle.cl_session.specs.World.{World, opening}
use Rattle.cl_terminal.specs.Running.{Ran, RanEntered, ServedAndLeft, ServedFrom, ShowsAt, despite_fault}
use Rattle.cl_terminal.specs.Serving.{Serves, Standing, standing}
use Rattle.cl_terminal.specs.declared.flows.Closing.{Closing}
use Rattle.cl_terminal.specs.declared.flows.Closing.TheVariants as closing
use Rattle.cl_terminal.specs.declared.running.RunEnd.{RunEnd}
use Rattle.cl_terminal.specs.declared.running.RunEnd.TheVariants as end
use Rattle.cl_terminal.proofs.Taking.{rose-earlier, rose-later}

rises : (failed : Bool) (a b : ℕ) → RoseIf failed a b → a ≤ b
rises true a b r = r.0
rises false a b r = r

rose-if-earlier : (failed : Bool) (a b c : ℕ) → a ≤ b → RoseIf failed b c → RoseIf failed a c
rose-if-earlier true a b c le r = (omega (arith, le, r.0), rose-earlier a b c le r.1)
rose-if-earlier false a b c le r = omega (arith, le, r)

module _ (g : Ground) (slots : Slots) (left_old left_new : Option (List ℕ)) (keys_old keys_new : ℕ) where
  -- a session that was opened, and then served
  pub run-served : (s : State) (w : World) (failed : Bool) (to : Standing) (faults opened : ℕ) (t : Terminal) (how : Closing) → s ≡ at_rest
      → w ≡ opening g slots failed → RoseIf failed faults opened → Serves g (standing s w) to left_old left_new keys_old keys_new opened t.faults how
      → ShowsAt g.app to.world t how → ServedFrom g slots left_old left_new keys_old keys_new faults t how
  run-served s w failed to faults opened t how state world rose serves shows = record {
    failed = failed;
    opened_at = opened;
    rose = rose;
    to = to;
    serves = subst (λ (v : World). Serves g (standing at_rest v) to left_old left_new keys_old keys_new opened t.faults how) world
        (subst (λ (u : State). Serves g (standing u w) to left_old left_new keys_old keys_new opened t.faults how) state serves);
    shows = shows;
  }

  earlier : (a b : ℕ) (t : Terminal) (how : Closing) → a ≤ b → ServedFrom g slots left_old left_new keys_old keys_new b t how
      → ServedFrom g slots left_old left_new keys_old keys_new a t how
  earlier a b t how le served = record {
    failed = served.failed;
    opened_at = served.opened_at;
    rose = rose-if-earlier served.failed a b served.opened_at le served.rose;
    to = served.to;
    serves = served.serves;
    shows = served.shows;
  }

  and-left : (old before new : Terminal) (how : Closing) → ServedFrom g slots left_old left_new keys_old keys_new old.faults before how
      → Writes before new leave_bytes Done → ServedAndLeft g slots left_old left_new keys_old keys_new old new how
  and-left old before new how served left = record { before = before; served = served; left = left }

  fault-rose : (faults : ℕ) (t : Terminal) → ServedFrom g slots left_old left_new keys_old keys_new faults t closing.OutputFault → Rose faults t.faults
  fault-rose faults t served =
      rose-earlier faults served.opened_at t.faults (rises served.failed faults served.opened_at served.rose) served.serves.rose

  -- the terminal was taken over and given back
  pub run-left : (old before new : Terminal) (mid : ℕ) (e : RunEnd) → old.faults ≤ mid → before.faults ≤ new.faults
      → RanEntered g slots left_old left_new keys_old keys_new mid before e → Writes before new leave_bytes Done
      → Ran g slots left_old left_new keys_old keys_new old new e
  run-left old before new mid end.Memory le later ran left = ran
  run-left old before new mid (end.Served closing.Done) le later ran left =
      and-left old before new closing.Done (earlier old.faults mid before closing.Done le ran) left
  run-left old before new mid (end.Served closing.ReadFault) le later ran left =
      and-left old before new closing.ReadFault (earlier old.faults mid before closing.ReadFault le ran) left
  run-left old before new mid (end.Served closing.OutputFault) le later ran left =
      let served = earlier old.faults mid before closing.OutputFault le ran in
      (rose-later old.faults before.faults new.faults (fault-rose old.faults before served) later, inr (closing.OutputFault, before, served))
  run-left old before new mid (end.Served closing.TooLong) le later ran left =
      and-left old before new closing.TooLong (earlier old.faults mid before closing.TooLong le ran) left

  -- and failed where it was to be given back
  pub run-not-left : (old before new : Terminal) (mid : ℕ) (e : RunEnd) → old.faults ≤ mid → mid ≤ before.faults → Rose before.faults new.faults
      → RanEntered g slots left_old left_new keys_old keys_new mid before e
      → Ran g slots left_old left_new keys_old keys_new old new (despite_fault e)
  run-not-left old before new mid end.Memory le later rose ran = ran
  run-not-left old before new mid (end.Served how) le later rose ran =
      (rose-earlier old.faults before.faults new.faults (omega (arith, le, later)) rose, inr (how, before, earlier old.faults mid before how le ran))
