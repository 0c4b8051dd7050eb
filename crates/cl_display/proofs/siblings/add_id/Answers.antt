use Rattle.std.proofs.Common.{◌∙◌, ap, map, List}
use Rattle.cl_value.specs.Value.{data_of}
use Rattle.cl_value.specs.declared.Value.{Value}
use Rattle.cl_display.proofs.SiblingLemmas.{keys-inserted}
use Rattle.cl_display.proofs.siblings.add_id.Goals as goal

pub returns : goal.returns
returns c = ap (λ (vs : List Value). map data_of vs) c.in_ok-insert.ensures.keys ∙ keys-inserted c.args.id c.args.ids.now.keys
