use Rattle.std.proofs.Common.{◌∙◌, ap, map, sym}
use Rattle.cl_value.specs.Value.{data_of}
use Rattle.std.specs.BTreeSet.{BTreeSet}
use Rattle.cl_value.specs.declared.Value.{Value}
use Rattle.cl_display.proofs.SiblingLemmas.{ids-emptied, ids-found, ids-or, ids_in, seen}
use Rattle.cl_display.proofs.siblings.Siblings.take_ids.Goals as goal

pub returns-clause-ids : goal.returns-clause-ids
returns-clause-ids c =
    rw (← c.self.view_is)
    (ap (λ (s : BTreeSet Value). map data_of s.keys) c.unwrap_or.ensures ∙ ids-or c.in_ok-ids.ids c.new-2.result c.new-2.ensures.empty
    ∙ sym (ids-found c.args.site c.self.inside.sites.entries ∙ ap ids_in (sym c.in_ok-ids.ensures.old)))

pub returns-clause-rest : goal.returns-clause-rest
returns-clause-rest c =
    rw (← c.self.view_is) (ap seen c.in_ok-ids.ensures.entries ∙ ids-emptied c.args.site c.new.result c.self.inside.sites.entries c.new.ensures.empty)
