use Rattle.std.proofs.Common.{◌∙◌, sym, ap}
use Rattle.cl_value.specs.Value.{data_of}
use Rattle.cl_record.specs.Heads.{HeadAt}
use Rattle.cl_updating.proofs.PlaceLemmas.{put-there}
use Rattle.cl_updating.proofs.levels.put.Goals as goal

pub returns : goal.returns
returns c =
    put-there c.site-site.result c.in_ok-copy.field-0 c.args.update c.args.update.piece.now.head c.args.sites.now.entries c.take_ids.new.sites.entries
    c.insert-2.new.self.entries c.in_ok-ids.ids c.insert.new.self
    (sym (c.site-site.ensures ∙ ap (λ (h : HeadAt). h.site) c.head-head.ensures))
    (ap data_of c.in_ok-copy.ensures ∙ (c.id.ensures ∙ ap (λ (h : HeadAt). h.id) c.head-head.ensures))
    c.in_ok-ids.ensures.ids c.in_ok-ids.ensures.others c.in_ok-insert.ensures.updates.0 c.in_ok-insert-2.ensures.updates.0
