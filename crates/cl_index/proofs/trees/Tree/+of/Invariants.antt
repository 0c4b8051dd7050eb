use Rattle.std.proofs.Common.{length}
use Rattle.cl_index.proofs.trees.Tree.+of.Given as goal

abbrev pub decreases-of : goal.decreases-of
decreases-of l = length l.rects.now
