-- What has to be shown of a pane that takes the place of another one.
use Rattle.std.specs.Prelude.{◌≡◌, ℤ, Bool, true, ◌&&◌, Option, Some, None, IfSome}
use Rattle.cl_damage.specs.Keeps.{Keeps}
use Rattle.cl_raster.specs.Raster.{Picture}
use Rattle.cl_region.specs.Places.{holds, one_holds}
use Rattle.cl_redisplay.specs.Paint.{own_rect}
use Rattle.cl_redisplay.specs.Touching.{LieIn, ShowsOthers, everywhere}
use Rattle.cl_redisplay.specs.declared.areas.Area.{Area}
use Rattle.cl_spans.specs.SpanRows.{SpanRows, spans_hold}
use Rattle.cl_untouched.specs.Among.{touched_between}
use Rattle.cl_frame.specs.Panes.{PaneMarks, marks_in, marks_of_pane}
use Rattle.cl_frame.specs.declared.panes.Pane.{Pane}
use Rattle.cl_frame.specs.declared.reports.PaneReport.TheVariants as report

-- what is touched where a pane takes the place of another one, of whose updates this was kept: all, where one of both is blank
abbrev pub touched_with : (old new : PaneMarks) → Keeps → ℤ → ℤ → Bool
touched_with None new ks = everywhere
touched_with (Some old) None ks = everywhere
touched_with (Some old) (Some new) ks = one_holds (touched_between old new ks)

-- the damage of an area of which these places are touched: without spans all of it, else the spans hold those of its places
abbrev pub IsDamage : Area → (ℤ → ℤ → Bool) → Option SpanRows → Type 0
IsDamage area touched None = (x y : ℤ) → touched x y ≡ true
IsDamage area touched (Some s) = (x y : ℤ) → spans_hold s x y ≡ touched x y && holds (own_rect area) x y

-- the places of a damage
abbrev pub damage_holds : Option SpanRows → ℤ → ℤ → Bool
damage_holds None = everywhere
damage_holds (Some s) = spans_hold s

-- a pane that met want of memory, in this area
abbrev pub blank_for_memory : Area → Pane
blank_for_memory area = record { area = area; history = None; items = 0; report = report.Memory }

-- a pane is what was evaluated, or blank for want of memory
pub data Leaves (evaluated pane : Pane) : Type 0 where
  as_evaluated : pane ≡ evaluated → Leaves evaluated pane
  as_blank : pane ≡ blank_for_memory evaluated.area → Leaves evaluated pane

-- a pane can be shown on a screen that shows what was in its place: a blank one is shown whole; else the damage lies in its area, where all
-- other places have its cells already
pub record CanShow (raster : Picture) (pane : Pane) (damage : Option SpanRows) : Type 0 where
  pub whole : pane.history ≡ None → damage ≡ None
  pub lies : IfSome damage (λ s. LieIn (spans_hold s) pane.area)
  pub others : IfSome damage (λ s. ShowsOthers raster pane.area (marks_in (marks_of_pane pane)) (spans_hold s))
