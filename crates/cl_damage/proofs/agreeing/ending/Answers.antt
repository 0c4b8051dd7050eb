use Rattle.std.proofs.Common.{◌-◌, refl, length, map, reverse}
use Rattle.std.proofs.lemmas.List.{length-map, length-reverse}
use Rattle.cl_damage.specs.Lents.{child_lent}
use Rattle.cl_damage.proofs.AgreeLemmas.{agrees_more, agrees_no_more, agrees_to_new_end, next_back}
use Rattle.cl_damage.proofs.agreeing.ending.Goals as goal

pub returns-then-not-is_equal : goal.returns-then-not-is_equal
returns-then-not-is_equal g c =
    let see = child_lent g.L.Leaf.moved_by in
    let i = c.loop-count.count in
    agrees_no_more g.L.Recognizable.same i (reverse (map see c.args.old.now)) (reverse (map see c.args.new.now)) (see c.index-old-old.result) (see c.index-new-new.result)
    c.loop-count.invariant
    (next_back see c.args.old.now i (length c.args.old.now - 1 - i) c.index-old-old.result c.loop-count-test.true refl c.index-old-old.is)
    (next_back see c.args.new.now i (length c.args.new.now - 1 - i) c.index-new-new.result c.if-count-new.true refl c.index-new-new.is)
    c.if-not-is_equal.ensures

pub loop-count-preserved : goal.loop-count-preserved
loop-count-preserved g c =
    let see = child_lent g.L.Leaf.moved_by in
    let i = c.loop-count.count in
    agrees_more g.L.Recognizable.same i (reverse (map see c.args.old.now)) (reverse (map see c.args.new.now)) (see c.index-old-old.result) (see c.index-new-new.result)
    c.loop-count.invariant
    (next_back see c.args.old.now i (length c.args.old.now - 1 - i) c.index-old-old.result c.loop-count-test.true refl c.index-old-old.is)
    (next_back see c.args.new.now i (length c.args.new.now - 1 - i) c.index-new-new.result c.if-count-new.true refl c.index-new-new.is)
    c.if-not-is_equal.ensures

pub returns-else-count-new : goal.returns-else-count-new
returns-else-count-new g c =
    let see = child_lent g.L.Leaf.moved_by in
    agrees_to_new_end g.L.Recognizable.same c.loop-count.count (reverse (map see c.args.old.now)) (reverse (map see c.args.new.now)) c.loop-count.invariant
    (rw (length-reverse, length-map) c.if-count-new.false)
