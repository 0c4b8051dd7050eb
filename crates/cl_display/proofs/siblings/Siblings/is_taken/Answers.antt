use Rattle.std.proofs.Common.{◌∙◌, sym}
use Rattle.cl_value.specs.Value.{data_of}
use Rattle.cl_display.proofs.SiblingLemmas.{taken-found, taken-none}
use Rattle.cl_display.proofs.siblings.Siblings.is_taken.Goals as goal

pub returns-in-Some : goal.returns-in-Some
returns-in-Some c =
    rw (← c.self.view_is) (c.contains.ensures ∙ taken-found c.args.site (data_of c.args.id.now) c.self.inside.sites.entries c.in-Some.ids.now (sym c.in-Some.ensures.value))

pub returns-in-None : goal.returns-in-None
returns-in-None c = rw (← c.self.view_is) (taken-none c.args.site (data_of c.args.id.now) c.self.inside.sites.entries (sym c.in-None.ensures.value))
