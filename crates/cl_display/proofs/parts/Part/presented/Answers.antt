use Rattle.std.proofs.Common.{ap, List}
use Rattle.cl_medium.specs.Items.{Item}
use Rattle.cl_record.specs.Marks.{Mark}
use Rattle.cl_display.specs.Drawings.{part_of}
use Rattle.cl_display.specs.Presentations.{presented_part}
use Rattle.cl_display.proofs.ItemLemmas.{marks-presented}
use Rattle.cl_display.proofs.parts.Part.presented.Goals as goal

pub returns : goal.returns
returns c =
    rw (c.in_ok-push.ensures.ok, c.new-nodes.ensures, c.in_ok-presentation.ensures)
    (ap (λ (ms : List (Mark Item)). record (presented_part c.args.label (part_of c.args.self)) { marks = ms })
    (marks-presented c.args.label c.args.self.nodes))
