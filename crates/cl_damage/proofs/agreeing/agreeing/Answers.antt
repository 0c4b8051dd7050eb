use Rattle.std.proofs.Common.{map}
use Rattle.std.proofs.lemmas.List.{length-map}
use Rattle.cl_damage.specs.Lents.{child_lent}
use Rattle.cl_damage.proofs.AgreeLemmas.{agrees_more, agrees_no_more, agrees_to_new_end, next_at}
use Rattle.cl_damage.proofs.agreeing.agreeing.Goals as goal

pub returns-then-not-is_equal : goal.returns-then-not-is_equal
returns-then-not-is_equal g c =
    let see = child_lent g.L.Leaf.moved_by in
    let i = c.loop-count.count in
    agrees_no_more g.L.Recognizable.same i (map see c.args.old.now) (map see c.args.new.now) (see c.index-old-count.result) (see c.index-new-count.result)
    c.loop-count.invariant
    (next_at see c.args.old.now i c.index-old-count.result c.loop-count-test.true c.index-old-count.is)
    (next_at see c.args.new.now i c.index-new-count.result c.if-count-new.true c.index-new-count.is)
    c.if-not-is_equal.ensures

pub loop-count-preserved : goal.loop-count-preserved
loop-count-preserved g c =
    let see = child_lent g.L.Leaf.moved_by in
    let i = c.loop-count.count in
    agrees_more g.L.Recognizable.same i (map see c.args.old.now) (map see c.args.new.now) (see c.index-old-count.result) (see c.index-new-count.result)
    c.loop-count.invariant
    (next_at see c.args.old.now i c.index-old-count.result c.loop-count-test.true c.index-old-count.is)
    (next_at see c.args.new.now i c.index-new-count.result c.if-count-new.true c.index-new-count.is)
    c.if-not-is_equal.ensures

pub returns-else-count-new : goal.returns-else-count-new
returns-else-count-new g c =
    let see = child_lent g.L.Leaf.moved_by in
    agrees_to_new_end g.L.Recognizable.same c.loop-count.count (map see c.args.old.now) (map see c.args.new.now) c.loop-count.invariant
    (rw length-map c.if-count-new.false)
