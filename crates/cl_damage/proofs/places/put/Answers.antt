use Rattle.std.proofs.Common.{◌∙◌, sym, ap}
use Rattle.cl_value.specs.Value.{data_of}
use Rattle.cl_damage.proofs.PutLemmas.{put-there}
use Rattle.cl_damage.proofs.places.put.Goals as goal

pub returns : goal.returns
returns c =
    put-there c.site-site.result c.in_ok-copy.field-0 c.args.place c.args.head.now c.args.places.now.entries c.take_ids.new.places.entries
    c.insert-2.new.self.entries c.in_ok-ids.ids c.insert.new.self
    (sym c.site-site.ensures)
    (ap data_of c.in_ok-copy.ensures ∙ c.id.ensures)
    c.in_ok-ids.ensures.ids c.in_ok-ids.ensures.others c.in_ok-insert.ensures.updates.0 c.in_ok-insert-2.ensures.updates.0
