use Rattle.std.proofs.Common.{rules, arith, ◌≡◌, suc, ◌+◌, ◌*◌, ◌<◌, List, ◌∷◌, ◌++◌, ◌∙◌, add-one, ap, drop, length, map, subst, sym, take}
use Rattle.std.proofs.lemmas.List.{drop-map, length-map}
use Rattle.std.proofs.lemmas.Result.{on_ok_weaker}
use Rattle.cl_record.specs.Trees.{trees_of}
use Rattle.cl_damage.specs.Children.{Child, inside_of, list_of, none}
use Rattle.cl_damage.specs.KeepRows.{keeps_of}
use Rattle.cl_damage.specs.Lents.{AllStand, Stands, child_lent}
use Rattle.cl_damage.specs.Touched.{all_give}
use Rattle.cl_damage.specs.NewChildren.{new_children_before}
use Rattle.cl_damage.specs.Steps.{size_of, sizes_of}
use Rattle.cl_damage.specs.declared.lents.Lent.{Lent}
use Rattle.cl_damage.proofs.AgreeLemmas.{each_at, next_at}
use Rattle.cl_damage.proofs.PairLemmas.{PairsOn, level-is, next_within, one_paired, opened, pairs_more, sizes-list, without_end-is}
use Rattle.cl_damage.proofs.comparing.+level.Goals as goal

pub level-returns : goal.level-returns
level-returns g t c =
    let see = child_lent g.L.Leaf.moved_by in
    let whole = level-is g.L.Leaf.bounds g.L.Recognizable.same c.agreeing-count.result (map see c.args.old.now) (map see c.args.new.now) c.agreeing-count.ensures in
    on_ok_weaker c.rest.result
    (λ given. rw (← whole, ← c.behind.ensures.children, ← c.behind-2.ensures.children) given)
    c.rest.ensures

pub rest-returns : goal.rest-returns
rest-returns g t c =
    let see = child_lent g.L.Leaf.moved_by in
    let whole = without_end-is g.L.Leaf.bounds g.L.Recognizable.same c.ending-count.result (map see c.args.old.now) (map see c.args.new.now) c.ending-count.ensures in
    on_ok_weaker c.pairs.result
    (λ given. rw (← whole, ← c.before_last.ensures.children, ← c.before_last-2.ensures.children) given)
    c.pairs.ensures

pub one-returns-in_ok-pair-in-Some : goal.one-returns-in_ok-pair-in-Some
one-returns-in_ok-pair-in-Some g t c =
    let see = child_lent g.L.Leaf.moved_by in
    let os = map see c.args.old.now in
    let found = c.in-Some.ensures os c.requires.places in
    let within : c.in-Some.at < length os = next_within os c.args.next c.in-Some.at _ found in
    let middle : c.give_all.new.rects.items ≡ c.args.rects.now.items ++ all_give g.L.Leaf.bounds (drop c.args.next (take c.in-Some.at os)) =
    rw (← c.first.ensures.children, ← c.behind.ensures.children) (c.in_ok-give_all-in-Some.ensures {u = tt}) in
    one_paired g.L.Leaf.bounds g.L.Recognizable.same (see c.args.new.now) (see c.index-old-at.result) os c.args.next c.in-Some.at
    c.args.rects.now.items c.give_all.new.rects.items c.pair.new.rects.items found
    (next_at see c.args.old.now c.in-Some.at c.index-old-at.result (rw (← length-map c.args.old.now see) within) c.index-old-at.is)
    within middle (c.in_ok-pair-in-Some.ensures {u = tt})

pub pair-level-requires : goal.pair-level-requires
pair-level-requires g t c κs within =
    let see = child_lent g.L.Leaf.moved_by in
    let b = c.in-Update.branch in
    let ks = new_children_before g.L.Leaf.moved_by b.place (trees_of b.piece.now.inside) (keeps_of b.inside.now) (λ _. none) in
    let inside : map see c.deref-2.result.now ≡ list_of ks =
    rw c.deref-2.ensures.value ((c.in_ok-news.ensures {u = tt}).children ∙ ap (λ (l : Lent _). inside_of (see l)) c.in-Update.is) in
    let smaller : 4 * sizes_of (map see c.deref-2.result.now) + 4 < 4 * size_of (see c.args.new.now) =
    rw (inside, c.in-Update.is) (omega (arith, sizes-list ks)) in
    let olds : AllStand g.L.Leaf.bounds g.L.Leaf.moved_by c.deref.result.now = rw c.deref.ensures.value (c.in_ok-olds.ensures {u = tt}).stand in
    let news : AllStand g.L.Leaf.bounds g.L.Leaf.moved_by c.deref-2.result.now = rw c.deref-2.ensures.value (c.in_ok-news.ensures {u = tt}).stand in
    (search (rules, smaller), (within, (olds, news)))

pub pair-returns : goal.pair-returns
pair-returns g t c =
    let see = child_lent g.L.Leaf.moved_by in
    let b = c.in-Update.branch in
    let ks = new_children_before g.L.Leaf.moved_by b.place (trees_of b.piece.now.inside) (keeps_of b.inside.now) (λ _. none) in
    let news : map see c.deref-2.result.now ≡ list_of ks =
    rw c.deref-2.ensures.value ((c.in_ok-news.ensures {u = tt}).children ∙ ap (λ (l : Lent _). inside_of (see l)) c.in-Update.is) in
    let olds : map see c.deref.result.now ≡ inside_of (see c.args.old.now) = rw c.deref.ensures.value (c.in_ok-olds.ensures {u = tt}).children in
    let whole = opened g.L.Leaf.bounds g.L.Recognizable.same (see c.args.old.now) (b.piece.now.head.site, b.piece.now.head.id) b.moved ks
    (map see c.deref.result.now) (map see c.deref-2.result.now) c.in_default-moved.is olds news in
    on_ok_weaker c.level.result
    (λ given. rw (c.in-Update.is, ← whole) given)
    c.level.ensures

pub one-bounds-old-at : goal.one-bounds-old-at
one-bounds-old-at g t c =
    let see = child_lent g.L.Leaf.moved_by in
    let os = map see c.args.old.now in
    rw (← length-map c.args.old.now see) (next_within os c.args.next c.in-Some.at _ (c.in-Some.ensures os c.requires.places))

pub one-pair-requires : goal.one-pair-requires
one-pair-requires g t c κs within =
    let see = child_lent g.L.Leaf.moved_by in
    let os = map see c.args.old.now in
    let there : c.in-Some.at < length c.args.old.now =
    rw (← length-map c.args.old.now see) (next_within os c.args.next c.in-Some.at _ (c.in-Some.ensures os c.requires.places)) in
    let old = each_at (Stands g.L.Leaf.bounds g.L.Leaf.moved_by) c.args.old.now c.in-Some.at c.index-old-at.result there c.index-old-at.is c.requires.old in
    (search rules, (within, (old, c.requires.new)))

pub pairs-loop-child-preserved : goal.pairs-loop-child-preserved
pairs-loop-child-preserved g t c =
    let see = child_lent g.L.Leaf.moved_by in
    let index = c.loop-child.child-index in
    let k = see c.child-item.result in
    let left = map see (drop (suc index) c.args.new.now) in
    let step : map see (drop index c.args.new.now) ≡ k ∷ left =
    sym (drop-map see index c.args.new.now)
    ∙ (next_at see c.args.new.now index c.child-item.result c.loop-child-test.true c.child-item.is
    ∙ ap (λ (ks : List (Child _)). k ∷ ks) (drop-map see (suc index) c.args.new.now)) in
    let before = subst (λ (ks : List (Child _)). PairsOn g.L.Leaf.bounds g.L.Recognizable.same (map see c.args.old.now) c.loop-child.next
    (map see c.args.new.now) ks c.args.rects.now.items c.loop-child.rects.items) step c.loop-child.invariant in
    rw (add-one index)
    (pairs_more g.L.Leaf.bounds g.L.Recognizable.same (map see c.args.old.now) c.loop-child.next c.in_ok-next.next (map see c.args.new.now) k left
    c.args.rects.now.items c.loop-child.rects.items c.one.new.rects.items before (c.in_ok-next.ensures {u = tt}))

pub one-offset_bounds-old-at : goal.one-offset_bounds-old-at
one-offset_bounds-old-at g t c =
    let os = map (child_lent g.L.Leaf.moved_by) c.args.old.now in
    let there : c.in-Some.at < length c.args.old.now =
    rw (← length-map c.args.old.now (child_lent g.L.Leaf.moved_by)) (next_within os c.args.next c.in-Some.at _ (c.in-Some.ensures os c.requires.places)) in
    search rules

pub one-overflow_add-result : goal.one-overflow_add-result
one-overflow_add-result g t c =
    let os = map (child_lent g.L.Leaf.moved_by) c.args.old.now in
    let there : c.in-Some.at < length c.args.old.now =
    rw (← length-map c.args.old.now (child_lent g.L.Leaf.moved_by)) (next_within os c.args.next c.in-Some.at _ (c.in-Some.ensures os c.requires.places)) in
    search rules
