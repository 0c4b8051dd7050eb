use Rattle.std.proofs.Common.{◌≡◌, ◌++◌, ◌∙◌, List, ap, map}
use Rattle.cl_region.specs.declared.rects.Rect.{Rect}
use Rattle.cl_record.specs.Shifts.{still}
use Rattle.cl_record.specs.Trees.{trees_of}
use Rattle.cl_damage.specs.Children.{Children, list_of, none}
use Rattle.cl_damage.specs.Keeps.{Keeps}
use Rattle.cl_damage.specs.Lents.{child_lent}
use Rattle.cl_damage.specs.NewChildren.{new_children, old_children}
use Rattle.cl_damage.specs.Steps.{compared_each}
use Rattle.cl_damage.specs.Touched.{level}
use Rattle.cl_damage.proofs.GiveLemmas.{children-unkept}
use Rattle.cl_damage.proofs.PairLemmas.{touched-is}
use Rattle.cl_damage.proofs.touching.touched.Goals as goal

pub returns : goal.returns
returns g c =
    let see = child_lent g.L.Leaf.moved_by in
    let unkept = children-unkept g.L.Leaf.moved_by still (trees_of c.args.old.now) (λ _. none) in
    let olds : map see c.deref.result.now ≡ list_of (old_children g.L.Leaf.moved_by c.args.old.now) =
    rw c.deref.ensures.value ((c.in_ok-olds.ensures {u = tt}).children ∙ ap (λ (ks : Children _). list_of ks) unkept) in
    let news : map see c.deref-2.result.now ≡ list_of (new_children g.L.Leaf.moved_by c.args.new.now c.args.keeps.now) =
    rw c.deref-2.ensures.value ((c.in_ok-news.ensures {u = tt}).children ∙ ap (λ (ks : Keeps). list_of (new_children g.L.Leaf.moved_by c.args.new.now ks)) c.as_slice.ensures) in
    (c.in_ok-level.ensures {u = tt})
    ∙ (ap (λ (rs : List Rect). rs ++ level g.L.Leaf.bounds g.L.Recognizable.same (map see c.deref.result.now)
    (compared_each g.L.Leaf.bounds g.L.Recognizable.same (map see c.deref-2.result.now))) c.new-rects.ensures.items
    ∙ touched-is g.L.Leaf.bounds g.L.Recognizable.same (old_children g.L.Leaf.moved_by c.args.old.now)
    (new_children g.L.Leaf.moved_by c.args.new.now c.args.keeps.now) (map see c.deref.result.now) (map see c.deref-2.result.now) olds news)
