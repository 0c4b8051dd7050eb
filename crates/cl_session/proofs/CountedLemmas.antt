-- Faults of the device are told at most as often as its count rose.
use Rattle.std.proofs.Common.{ℕ, ◌+◌, ◌-◌, ◌^◌, ◌≤◌, min, Bool, true, false, if◌then◌else◌, [], ◌∷◌, ap, arith}
use Rattle.cl_frame.specs.Ground.{Ground}
use Rattle.cl_gesture.specs.Gesture.{LineKind, idle, bad, does, kind_of}
use Rattle.cl_session.specs.Laws.{AreCountedByFaults, wires_in}
use Rattle.cl_session.specs.Transcript.{Meters, RoseIf, Spent, Went, lost, stepped, world_after_piece}
use Rattle.cl_session.specs.World.{World}

one_told : (met : Bool) (old new : ℕ) → RoseIf met old new → min (old + (if met then 1 else 0)) (2 ^ 64 - 1) ≤ new
one_told true old new h = h.1
one_told false old new h = omega (arith, h)

line_told : (g : Ground) (w : World) (kind : LineKind) (c : Went) (old new : Meters) → Spent g w kind c old new
    → min (old.device.faults + wires_in kind c) (2 ^ 64 - 1) ≤ new.device.faults
line_told g w idle c old new s = omega (arith, ap (λ (m : Meters). m.device.faults) s)
line_told g w bad c old new s = omega (arith, ap (λ (m : Meters). m.device.faults) s)
line_told g w (does act) lost old new s = omega (arith, ap (λ (m : Meters). m.device.faults) s)
line_told g w (does act) (stepped met) old new s = one_told met.wire old.device.faults new.device.faults s.failed

pub counted_by_faults : AreCountedByFaults
counted_by_faults g w [] [] old new s = omega (arith, ap (λ (m : Meters). m.device.faults) s)
counted_by_faults g w [] (c ∷ cs) old new s = absurd s
counted_by_faults g w (p ∷ ps) [] old new s = absurd s
counted_by_faults g w (p ∷ ps) (c ∷ cs) old new s =
    omega (arith, line_told g w (kind_of p) c old s.0 s.1, counted_by_faults g (world_after_piece g w p c) ps cs s.0 new s.2)
