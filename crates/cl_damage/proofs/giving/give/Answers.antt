use Rattle.std.proofs.Common.{refl}
use Rattle.std.proofs.lemmas.Result.{on_ok_weaker}
use Rattle.cl_record.specs.Trees.{trees_of}
use Rattle.cl_damage.specs.Children.{none}
use Rattle.cl_damage.specs.KeepRows.{keeps_of}
use Rattle.cl_damage.proofs.GiveLemmas.{children-items}
use Rattle.cl_damage.proofs.giving.give.Goals as goal

pub returns-in-Update : goal.returns-in-Update
returns-in-Update g c =
    let b = c.in-Update.branch in
    let same = children-items g.L.Leaf.moved_by b.place (trees_of b.piece.now.inside) (keeps_of b.inside.now) (λ _. none) none (λ _. refl) in
    on_ok_weaker c.give_row.result
    (λ given. rw (c.in-Update.is, same, ← c.inside.ensures) given)
    c.give_row.ensures
