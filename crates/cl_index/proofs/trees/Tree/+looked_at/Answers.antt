use Rattle.std.proofs.Common.{arith, length-append}
use Rattle.cl_index.specs.Boxes.{rects_in}
use Rattle.cl_index.proofs.Under.{looked_most}
use Rattle.cl_index.proofs.trees.Tree.+looked_at.Goals as goal

pub overflow_add-result : goal.overflow_add-result
overflow_add-result t c =
    let q = c.args.rect.now in
    let first = c.in-Many.first.value in
    let second = c.in-Many.second.value in
    let fits = rw c.in-Many.is at c.requires.fits in
    let one = rw c.deref.ensures at c.looked_at.ensures in
    let other = rw c.deref-in-Many.ensures at c.looked_at-in-Many.ensures in
    omega (arith, one, other, fits, looked_most q first, looked_most q second, length-append (rects_in first) (rects_in second))
