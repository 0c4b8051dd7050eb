use Rattle.cl_medium.specs.Items.{item_cell}
use Rattle.cl_medium.proofs.Filled.{FilledTo}
use Rattle.cl_medium.proofs.cells.put_shape.Given as goal

abbrev pub invariant-loop-place : goal.invariant-loop-place
invariant-loop-place l =
    FilledTo (item_cell (record { area = l.area; shape = l.shape })) l.x l.y l.initial.cells l.cells l.place
