use Rattle.std.proofs.Common.{ap, List}
use Rattle.cl_medium.specs.Items.{Item}
use Rattle.cl_record.specs.Marks.{Mark}
use Rattle.cl_display.specs.Drawings.{part_of}
use Rattle.cl_display.specs.Updates.{updated_part}
use Rattle.cl_display.proofs.ItemLemmas.{marks-updated}
use Rattle.cl_display.proofs.parts.Part.updated.Goals as goal

pub returns : goal.returns
returns c =
    rw (c.in_ok-push.ensures.ok, c.new-nodes.ensures, c.in_ok-update.ensures)
    (ap (λ (ms : List (Mark Item)). record (updated_part c.args.head (part_of c.args.self)) { marks = ms })
    (marks-updated c.args.head c.args.self.nodes))
