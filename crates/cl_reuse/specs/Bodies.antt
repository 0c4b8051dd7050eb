-- The bodies of updates, each drawn for itself.
use Rattle.std.specs.Prelude.{ℕ, ◌-ℤ◌, []}
use Rattle.cl_syntax.specs.ShapeTree.{ShapeTrees}
use Rattle.cl_eval.specs.Slots.{Env}
use Rattle.cl_medium.specs.Ambients.{AmbientAt}
use Rattle.cl_display.specs.Drawings.{DrawingAt, start_part}
use Rattle.cl_display.specs.Fresh.{Allowance, Scene, bodies_on}
use Rattle.cl_display.specs.Outcomes.{DrawOutcome}
use Rattle.cl_reuse.specs.Motions.{Motion}

-- what a body is drawn from: nothing drawn yet, with the cursor, the margin, the origin and the ink there
abbrev pub body_start : AmbientAt → DrawingAt
body_start a = record { ambient = a; weight = 0; siblings = []; part = start_part a }

-- what a body comes to from there, where so many levels are left
abbrev pub body_from : (depth : ℕ) → Allowance → Scene → Env → ShapeTrees → AmbientAt → DrawOutcome
body_from depth allowed scene env body a = (bodies_on depth scene).draw allowed env body (body_start a)

-- how far the second stands from the first
abbrev pub motion_between : AmbientAt → AmbientAt → Motion
motion_between a b = record {
  by = record { dx = b.x -ℤ a.x; dy = b.y -ℤ a.y };
  margin = b.margin -ℤ a.margin;
  origin = record { dx = b.origin_x -ℤ a.origin_x; dy = b.origin_y -ℤ a.origin_y };
}
