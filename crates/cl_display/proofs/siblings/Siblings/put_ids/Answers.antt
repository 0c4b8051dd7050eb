use Rattle.std.proofs.Common.{◌∙◌, ap}
use Rattle.cl_display.proofs.SiblingLemmas.{ids-inserted, seen}
use Rattle.cl_display.proofs.siblings.Siblings.put_ids.Goals as goal

pub returns : goal.returns
returns c = rw (← c.self.view_is) (ap seen c.in_ok-insert.ensures.entries ∙ ids-inserted c.args.site c.args.ids c.self.inside.sites.entries)
