use Rattle.std.proofs.Common.{◌≡◌, drop}
use Rattle.cl_index.specs.Looks.{box_from, box_in}
use Rattle.cl_index.proofs.trees.box_around.Given as goal

abbrev pub invariant-loop-rect : goal.invariant-loop-rect
invariant-loop-rect l = box_from l.around (drop l.rect-index l.rects) ≡ box_in l.rects
