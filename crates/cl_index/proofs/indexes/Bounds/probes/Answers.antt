use Rattle.std.proofs.Common.{arith, length}
use Rattle.cl_index.specs.Boxes.{rects_in}
use Rattle.cl_index.proofs.Under.{looked_least, looked_most, looked_same}
use Rattle.cl_index.proofs.indexes.Bounds.probes.Goals as goal

pub returns-clause-exact : goal.returns-clause-exact
returns-clause-exact c =
    rw (c.looked_at.ensures, ← c.self.view_is) (looked_same c.args.rect.now (length (rects_in c.self.inside.tree)) c.self.inside.tree c.self.invariant.sound (omega arith))

pub returns-clause-hits : goal.returns-clause-hits
returns-clause-hits c =
    rw (c.looked_at.ensures, ← c.self.view_is) (looked_least c.args.rect.now 0 c.self.inside.tree c.self.invariant.sound)

pub returns-clause-list : goal.returns-clause-list
returns-clause-list c =
    rw (c.looked_at.ensures, ← c.self.view_is) (looked_most c.args.rect.now c.self.inside.tree)
