use Rattle.std.proofs.Common.{◌∙◌, sym}
use Rattle.cl_display.proofs.SiblingLemmas.{count-found, count-none}
use Rattle.cl_display.proofs.siblings.Siblings.count_at.Goals as goal

pub returns-in-Some-clause-count : goal.returns-in-Some-clause-count
returns-in-Some-clause-count c =
    rw (← c.self.view_is) (c.len.ensures.len ∙ count-found c.args.site c.self.inside.sites.entries c.in-Some.ids.now (sym c.in-Some.ensures.value))

pub returns-in-None-clause-count : goal.returns-in-None-clause-count
returns-in-None-clause-count c = rw (← c.self.view_is) (count-none c.args.site c.self.inside.sites.entries (sym c.in-None.ensures.value))
