use Rattle.std.proofs.Common.{◌∙◌, sym, subst, ℤ, Option}
use Rattle.std.specs.Prelude.{IfSome}
use Rattle.cl_region.specs.Places.{IsNear}
use Rattle.cl_medium.specs.Items.{move_item}
use Rattle.cl_record.specs.Marks.{marks_of}
use Rattle.cl_record.specs.Replays.{items_drawn}
use Rattle.cl_record.specs.Seen.{tree_of}
use Rattle.cl_updating.proofs.KeepingLemmas.{bottom-is, bottom-near}
use Rattle.cl_updating.proofs.keeping.lowest_end.Goals as goal

pub returns-clause-end : goal.returns-clause-end
returns-clause-end c = c.bottom.ensures ∙ bottom-is (items_drawn (marks_of move_item (tree_of c.args.node.now)))

pub returns-clause-range : goal.returns-clause-range
returns-clause-range c = subst (λ (o : Option ℤ). IfSome o IsNear) (sym c.bottom.ensures) (bottom-near (tree_of c.args.node.now) c.summary.ensures.sound)
