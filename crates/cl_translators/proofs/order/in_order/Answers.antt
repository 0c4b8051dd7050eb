use Rattle.std.proofs.Common.{◌∙◌, ap, ◌++◌}
use Rattle.std.specs.List.{flat_map}
use Rattle.cl_translators.specs.Groups.{low_in}
use Rattle.cl_translators.specs.Order.{digits, translators_of}
use Rattle.cl_translators.proofs.GroupLemmas.{all_lows}
use Rattle.cl_translators.proofs.order.in_order.Goals as goal

pub returns : goal.returns
returns c =
    c.in_ok-add_lows.ensures
    ∙ ap (λ ts. ts ++ flat_map (low_in c.in_ok-groups.groups c.args.order.now) digits) c.new-translators.ensures.items
    ∙ all_lows c.in_ok-groups.groups c.args.order.now (translators_of c.args.places.now) c.in_ok-groups.ensures
