-- What painting through a window leaves of it.
use Rattle.std.specs.Prelude.{◌≡◌, refl}
use Rattle.std.proofs.Common.{◌∙◌, subst, arith}
use Rattle.cl_raster.specs.Raster.{Picture}
use Rattle.cl_redisplay.specs.Paint.{KeepsOthers}
use Rattle.cl_redisplay.specs.declared.areas.Area.{Area}
use Rattle.cl_redisplay.specs.declared.windows.Window.{Window}

-- the same raster is lent, of the same size, for the same area, and the places outside of that are what they were
pub record Keeps (old new : Window) : Type 0 where
  pub reference : new.raster.ghost_name ≡ old.raster.ghost_name
  pub area : new.area ≡ old.area
  pub others : KeepsOthers old.raster.now new.raster.now old.area

-- a picture keeps its own cells outside of an area
others_kept : (p : Picture) (area : Area) → KeepsOthers p p area
others_kept p area = record { size = record { width = refl; height = refl }; cells = λ x y hx hy no. refl }

-- what is kept in two steps outside of an area is kept in both together
pub others_through : (p q r : Picture) (area : Area) → KeepsOthers p q area → KeepsOthers q r area → KeepsOthers p r area
others_through p q r area h k = record {
  size = record { width = k.size.width ∙ h.size.width; height = k.size.height ∙ h.size.height };
  cells = λ x y hx hy no.
      k.cells x y (omega (arith, h.size.width, hx)) (omega (arith, h.size.height, hy)) no ∙ h.cells x y hx hy no;
}

-- a window keeps to itself
pub keeps_itself : (window : Window) → Keeps window window
keeps_itself window = record { reference = refl; area = refl; others = others_kept window.raster.now window.area }

-- what is kept in two steps of a window is kept in both together
pub keeps_through : (first second third : Window) → Keeps first second → Keeps second third → Keeps first third
keeps_through first second third h k = record {
  reference = k.reference ∙ h.reference;
  area = k.area ∙ h.area;
  others = others_through first.raster.now second.raster.now third.raster.now first.area h.others
      (subst (λ (area : Area). KeepsOthers second.raster.now third.raster.now area) h.area k.others);
}
