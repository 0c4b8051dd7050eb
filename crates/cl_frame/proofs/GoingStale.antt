-- Screens that become stale.
use Rattle.std.proofs.Common.{◌≡◌, ◌∙◌, ℕ, Bool, true, false, Option, ap, refl, sym, subst, arith}
use Rattle.cl_application.specs.declared.applications.App.{App}
use Rattle.cl_outside.specs.Device as device
use Rattle.cl_raster.specs.Raster.{Picture}
use Rattle.cl_frame.specs.declared.frames.Frame.{Frame}
use Rattle.cl_frame.specs.declared.settling.Which.{Which}
use Rattle.cl_frame.specs.declared.settling.Which.TheVariants as which
use Rattle.cl_outside.specs.Causes.{Rose}
use Rattle.cl_redisplay.specs.Screens.{Agree, BreaksAt, PaintedRose, Screen, StaleAfter, is_fault}
use Rattle.cl_redisplay.specs.declared.screens.Painted.{Painted}
use Rattle.cl_redisplay.specs.declared.screens.Painted.TheVariants as painted
use Rattle.cl_frame.specs.Frames.{AreShown, GoesStale, IsFrameOf, fault_between, is_stale_under}

pub stale-same : (stale : Bool) (faults : ℕ) → GoesStale stale stale faults faults
stale-same true faults = record { later = omega arith; stays = λ e. refl; rose = λ e f. let no : true ≡ false = e in cc }
stale-same false faults = record { later = omega arith; stays = λ e. e; rose = λ e f. let no : false ≡ true = f in cc }

rose-by : (a b c : Bool) (x y z : ℕ) → GoesStale a b x y → GoesStale b c y z → a ≡ false → c ≡ true → Rose x z
rose-by a true c x y z g h e f = omega (arith, g.rose e refl, h.later)
rose-by a false c x y z g h e f = omega (arith, g.later, h.rose refl f)

pub stale-then : (a b c : Bool) (x y z : ℕ) → GoesStale a b x y → GoesStale b c y z → GoesStale a c x z
stale-then a b c x y z g h = record {
  later = omega (arith, g.later, h.later);
  stays = λ e. h.stays (g.stays e);
  rose = rose-by a b c x y z g h;
}

-- what a paint says of a screen
pub stale-painted : (old new : Bool) (x y : ℕ) (p : Painted) → StaleAfter old new p → PaintedRose x y p → GoesStale old new x y
stale-painted old new x y painted.Done s r = record {
  later = r;
  stays = λ e. rw s e;
  rose = λ e f. let no : false ≡ true = rw (s, e) at f in cc;
}
stale-painted old new x y painted.DeviceFault s r = record { later = r.0; stays = λ e. s; rose = λ e f. r.1 }

-- what is answered of a screen that became stale
pub stale-between : (old new : Bool) (x y : ℕ) → GoesStale old new x y → StaleAfter old new (fault_between old new) × PaintedRose x y (fault_between old new)
stale-between true new x y g = (g.stays refl, g.later)
stale-between false true x y g = (refl, (g.later, g.rose refl refl))
stale-between false false x y g = (refl, g.later)

pub fresh-between : (old new : Bool) → old ≡ true → fault_between old new ≡ painted.Done
fresh-between true new e = refl
fresh-between false new e = let no : false ≡ true = e in cc

-- a device is broken where its screen has become stale
pub breaks-between : (old new broken : Bool) → (old ≡ false → new ≡ true → broken ≡ true) → BreaksAt (fault_between old new) broken
breaks-between true new broken h = tt
breaks-between false true broken h = h refl refl
breaks-between false false broken h = tt

pub fault-between : (old new : Bool) → old ≡ false → is_fault (fault_between old new) ≡ new
fault-between true new e = cc
fault-between false true e = refl
fault-between false false e = refl

-- what holds of a stale screen and of one that is not
pub by-stale : {P : Type 0} (stale : Bool) → (stale ≡ true → P) → (stale ≡ false → P) → P
by-stale true f g = f refl
by-stale false f g = g refl

-- a frame whose settling begins
pub frame-started : (app : App) (f : Frame) (screen : Screen) → screen.raster ≡ f.screen.raster → IsFrameOf app f
    → IsFrameOf app (record { screen = screen; panes = f.panes })
frame-started app f screen e h = record {
  width = ap (λ (p : Picture). p.width) e ∙ h.width;
  height = ap (λ (p : Picture). p.height) e ∙ h.height;
  areas = h.areas;
  shown = subst (AreShown f.panes.items) (sym e) h.shown;
}

agree-under : (w : Which) (stale : Bool) (p : Picture) (broken cleared : Bool) (shown : Option device.Picture) → Agree stale p broken cleared shown
    → Agree (is_stale_under w stale) p broken cleared shown
agree-under which.All stale p broken cleared shown h = h
agree-under which.Blank stale p broken cleared shown h = h
agree-under which.Force stale p broken cleared shown h = tt

pub agree-started : (w : Which) (old new : Screen) (broken cleared : Bool) (shown : Option device.Picture) → new.raster ≡ old.raster
    → new.stale ≡ is_stale_under w old.stale → Agree old.stale old.raster broken cleared shown → Agree new.stale new.raster broken cleared shown
agree-started w old new broken cleared shown e f h = rw (e, f) (agree-under w old.stale old.raster broken cleared shown h)

-- ---- a settling that discards all histories goes on with a stale screen

pub under-started : (w : Which) (stale new : Bool) → new ≡ is_stale_under w stale → is_stale_under w new ≡ new
under-started which.All stale new e = refl
under-started which.Blank stale new e = refl
under-started which.Force stale new e = sym e

pub under-later : (w : Which) (a b : Bool) → (a ≡ true → b ≡ true) → is_stale_under w a ≡ a → is_stale_under w b ≡ b
under-later which.All a b stays e = refl
under-later which.Blank a b stays e = refl
under-later which.Force a b stays e = sym (stays (sym e))
